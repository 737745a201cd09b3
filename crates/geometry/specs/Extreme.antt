-- The one way in which an extreme is taken: rows in order, in a row columns in order, replaced only by a strictly better area.
-- So the window that it names has the least y, then the least x, unless the one that stood before is as good.
use Rattle.std.specs.Prelude.{ℕ, zero, suc, ◌*◌, ◌≤◌, ◌≡◌, Bool, true, false, List, ◌∷◌, ltb}
use Rattle.geometry.specs.declared.Spot.{Spot}
use Rattle.geometry.specs.declared.Sense.{Sense}
use Rattle.geometry.specs.declared.Sense.TheVariants.{Greatest, Least}

-- whether an area is strictly better than the one that stands
abbrev pub better : Sense → ℕ → ℕ → Bool
better Greatest new old = ltb old new
better Least new old = ltb new old

-- an area is no better than the one that stands
abbrev pub NoBetter : Sense → ℕ → ℕ → Type 0
NoBetter s new old = better s new old ≡ false

-- the same as an inequality: for the greatest no more, for the least no less
abbrev pub Bounded : Sense → ℕ → ℕ → Type 0
Bounded Greatest new old = new ≤ old
Bounded Least new old = old ≤ new

-- the window at (x, y) with its value under f
abbrev pub spot_at : (ℕ → ℕ → ℕ) → ℕ → ℕ → Spot
spot_at f x y = record { area = f x y; x = x; y = y }

-- what stands after one more window was looked at
abbrev pub replaced : Sense → Spot → Spot → Spot
replaced s old new = elim (better s new.area old.area) [ true ↦ new | false ↦ old ]

-- the best of the first k starts of the row at y, t apart, where b stood before
unfoldable pub best_in_row : Sense → (ℕ → ℕ → ℕ) → (t y k : ℕ) → Spot → Spot
best_in_row s f t y zero b = b
best_in_row s f t y (suc k) b = replaced s (best_in_row s f t y k b) (spot_at f (k * t) y)

-- the best of the first m rows of k starts each, t apart on both axes, where b stood before
unfoldable pub best_in_rows : Sense → (ℕ → ℕ → ℕ) → (t k m : ℕ) → Spot → Spot
best_in_rows s f t k zero b = b
best_in_rows s f t k (suc m) b = best_in_row s f t (m * t) k (best_in_rows s f t k m b)

-- a window in numbers, as it is printed: area, x, y, and what follows them
abbrev pub spot_numbers : Spot → List ℕ → List ℕ
spot_numbers p ns = p.area ∷ p.x ∷ p.y ∷ ns
