-- Document 01, "The quick run", and document 02, request 1 (the same of the least window): one level of a run. Floor F, ceiling C, low, high and
-- kept are their terms. Nothing is passed over here. A level is stated over the sense of the extreme, the greatest or the least window.
use Rattle.std.specs.Prelude.{ℕ, suc, ◌+◌, ◌-◌, ◌*◌, ◌/◌, min, List}
use Rattle.geometry.specs.declared.Rect.{Rect}
use Rattle.geometry.specs.declared.Spot.{Spot}
use Rattle.geometry.specs.declared.Sense.{Sense}
use Rattle.geometry.specs.declared.Sense.TheVariants.{Greatest, Least}
use Rattle.geometry.specs.Count.{sum, one_if}
use Rattle.geometry.specs.Layout.{covered_area}
use Rattle.geometry.specs.Extreme.{better, spot_at, replaced, best_in_rows}
use Rattle.geometry.specs.Positions.{window_area}
use Rattle.levels.specs.declared.Level.{Level}

-- the number of starts on an axis: the multiples of t up to n − w
abbrev pub starts_on : (n w t : ℕ) → ℕ
starts_on n w t = suc ((n - w) / t)

-- the bloated window at (x, y): on each axis from the start to the smaller of the start + w + t and n
abbrev pub bloated : (n w t x y : ℕ) → Rect
bloated n w t x y = record { x1 = x; y1 = y; x2 = min (x + w + t) n; y2 = min (y + w + t) n }

-- the shrunk window at (x, y): on each axis from the start + t to the start + w
abbrev pub shrunk : (w t x y : ℕ) → Rect
shrunk w t x y = record { x1 = x + t; y1 = y + t; x2 = x + w; y2 = y + w }

-- what brackets the standard window on the far side: the bloated window for the greatest, the shrunk one for the least
abbrev pub far_window : Sense → (n w t x y : ℕ) → Rect
far_window Greatest n w t x y = bloated n w t x y
far_window Least n w t x y = shrunk w t x y

abbrev pub far_area : Sense → List Rect → (n w t x y : ℕ) → ℕ
far_area s rs n w t x y = covered_area rs (far_window s n w t x y)

-- the best of a level's starts, k on each axis and t apart: the least y, then the least x
abbrev pub best_start : Sense → (ℕ → ℕ → ℕ) → (t k : ℕ) → Spot
best_start s f t k = best_in_rows s f t k k (spot_at f 0 0)

-- the level of step t, where `before` is the window named by the levels before it. `best` is the level's own best window: its area is F,
-- the largest standard area, or high, the least one. The named window gives way to it only if it is strictly better, not on a tie. The limit
-- is C, the largest bloated area, or low, the least shrunk one; kept counts the starts whose bloated area exceeds F, or whose shrunk area is
-- below high. In a run F, or high, is the area of the named window too: `named_is_best` in zoom/proofs/Bracket.antt.
unfoldable pub level_of : Sense → List Rect → (n w t : ℕ) → Spot → Level
level_of s rs n w t before =
    let k = starts_on n w t in
    let best = best_start s (window_area rs w) t k in
    record {
      named = replaced s before best;
      limit = (best_start s (far_area s rs n w t) t k).area;
      kept = sum k (λ j. sum k (λ i. one_if (better s (far_area s rs n w t (i * t) (j * t)) best.area)));
    }
