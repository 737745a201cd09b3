-- A level: the window that it names is at one of its starts and has the best area there, no position passes its limit, and its numbers are small.
use Prim.Native.Nat.{ℕ, ◌-◌, ◌*◌, ◌/◌, ◌≤◌, ◌<◌}
use mathlib.Core.Path.{◌≡◌, refl, sym, subst}
use mathlib.Core.List.{List}
use native.Mathlib.Nat.{zero-mul}
use native.Mathlib.Omega.{arith}
use Rattle.geometry.specs.declared.Rect.{Rect}
use Rattle.geometry.specs.declared.Spot.{Spot}
use Rattle.geometry.specs.declared.Sense.{Sense}
use Rattle.geometry.specs.declared.Sense.TheVariants.{Greatest, Least}
use Rattle.geometry.specs.Sizes.{widest, largest}
use Rattle.geometry.specs.Layout.{covered_area, window_box}
use Rattle.geometry.specs.Extreme.{spot_at, best_in_rows, NoBetter}
use Rattle.geometry.specs.Positions.{window_area}
use Rattle.geometry.proofs.Totals.{small_product}
use Rattle.geometry.proofs.Overlaps.{area_small}
use Rattle.levels.specs.Levels.{starts_on, bloated, shrunk, far_area, best_start, level_of}
use Rattle.levels.specs.Sizes.{LevelSmall}
use Rattle.levels.specs.Grid.{AtStart}
use Rattle.levels.specs.Laws.{no_better_trans}
use Rattle.levels.proofs.Folds.{replaced_area, rows_are, rows_see, rows_replace}
use Rattle.levels.proofs.Starts.{StartBelow, at_start, start_fits, start_below, half_start, window_within, far_halves}

-- a named window is a position, and has the area named with it
pub record Placed (rs : List Rect) (n w : ℕ) (b : Spot) : Type 0 where
  pub area : b.area ≡ window_area rs w b.x b.y
  pub across : b.x ≤ n - w
  pub down : b.y ≤ n - w

pub start_placed : (rs : List Rect) (n w t : ℕ) (b : Spot) → 1 ≤ t → AtStart rs n w t b → Placed rs n w b
start_placed rs n w t b p a =
    subst (λ (c : Spot). Placed rs n w c) (sym a.is)
    (record { area = refl; across = start_fits n w t a.column p a.across; down = start_fits n w t a.row p a.down })

-- ---- what a level names, and what it bounds

-- the code seeks the level's window from the one before on, and so names the one that the definition names
pub level_searches : (s : Sense) (rs : List Rect) (n w t : ℕ) (b : Spot) →
    (level_of s rs n w t b).named ≡ best_in_rows s (window_area rs w) t (starts_on n w t) (starts_on n w t) b
unfolding level_of
level_searches s rs n w t b = sym (rows_replace s (window_area rs w) t (starts_on n w t) (starts_on n w t) b (omega arith) (omega arith))

pub level_at_start : (s : Sense) (rs : List Rect) (n w t : ℕ) (b : Spot) → AtStart rs n w t b → AtStart rs n w t (level_of s rs n w t b).named
level_at_start s rs n w t b a =
    rw (level_searches s rs n w t b)
    (rows_are s (window_area rs w) t (starts_on n w t) (starts_on n w t) b (AtStart rs n w t) a (λ i j h k. at_start rs n w t i j h k))

-- the area of the named window is the level's best standard area where the window before is at a start of the level
pub level_best : (s : Sense) (rs : List Rect) (n w t : ℕ) (b : Spot) → AtStart rs n w t b →
    (level_of s rs n w t b).named.area ≡ (best_start s (window_area rs w) t (starts_on n w t)).area
unfolding level_of
level_best s rs n w t b a = replaced_area s b best (subst (λ (c : Spot). NoBetter s c.area best.area) (sym a.is) seen)
  where
    best : Spot
    best = best_start s (window_area rs w) t (starts_on n w t)

    seen : NoBetter s (window_area rs w (a.column * t) (a.row * t)) best.area
    seen = rows_see s (window_area rs w) t (starts_on n w t) (starts_on n w t) (spot_at (window_area rs w) 0 0) a.column a.row a.across a.down

-- the limit is no worse than any far area, and than any position
pub level_sees : (s : Sense) (rs : List Rect) (n w t : ℕ) (b : Spot) (i j : ℕ) → i < starts_on n w t → j < starts_on n w t →
    NoBetter s (far_area s rs n w t (i * t) (j * t)) (level_of s rs n w t b).limit
unfolding level_of
level_sees s rs n w t b i j h k = rows_see s (far_area s rs n w t) t (starts_on n w t) (starts_on n w t) (spot_at (far_area s rs n w t) 0 0) i j h k

pub level_bounds : (s : Sense) (rs : List Rect) (n w t : ℕ) (b : Spot) (x y : ℕ) → 1 ≤ t → w ≤ n → x ≤ n - w → y ≤ n - w →
    NoBetter s (window_area rs w x y) (level_of s rs n w t b).limit
level_bounds s rs n w t b x y p q h k =
    let across : StartBelow n w t x = start_below n w t x p h in
    let down : StartBelow n w t y = start_below n w t y p k in
    no_better_trans s (window_area rs w x y) (far_area s rs n w t (across.start * t) (down.start * t)) (level_of s rs n w t b).limit
    (window_within s rs n w t x y (across.start * t) (down.start * t) (omega arith) (omega arith) across.before across.close down.before down.close)
    (level_sees s rs n w t b across.start down.start across.counts down.counts)

-- the best far area is no better where the step is half
pub far_narrows : (s : Sense) (rs : List Rect) (n w t : ℕ) (b c : Spot) → 1 ≤ t →
    NoBetter s (level_of s rs n w t b).limit (level_of s rs n w (2 * t) c).limit
unfolding level_of
far_narrows s rs n w t b c p =
    rows_are s (far_area s rs n w t) t (starts_on n w t) (starts_on n w t) (spot_at (far_area s rs n w t) 0 0)
    (λ (a : Spot). NoBetter s a.area (level_of s rs n w (2 * t) c).limit) (rw (zero-mul t) at (each 0 0 (omega arith) (omega arith))) each
  where
    each : (i j : ℕ) → i < starts_on n w t → j < starts_on n w t → NoBetter s (far_area s rs n w t (i * t) (j * t)) (level_of s rs n w (2 * t) c).limit
    each i j h k =
        no_better_trans s (far_area s rs n w t (i * t) (j * t)) (far_area s rs n w (2 * t) (i / 2 * (2 * t)) (j / 2 * (2 * t)))
        (level_of s rs n w (2 * t) c).limit (far_halves s rs n w t i j)
        (level_sees s rs n w (2 * t) c (i / 2) (j / 2) (half_start n w t i p h) (half_start n w t j p k))

-- ---- its numbers are small

box_small : (rs : List Rect) (b : Rect) → b.x2 - b.x1 ≤ widest → b.y2 - b.y1 ≤ widest → covered_area rs b ≤ largest
box_small rs b h k = omega (arith, area_small rs b, small_product (b.x2 - b.x1) (b.y2 - b.y1) h k)

far_area_small : (s : Sense) (rs : List Rect) (n w t x y : ℕ) → n ≤ widest → w ≤ n → far_area s rs n w t x y ≤ largest
far_area_small Greatest rs n w t x y h k = box_small rs (bloated n w t x y) (omega arith) (omega arith)
far_area_small Least rs n w t x y h k = box_small rs (shrunk w t x y) (omega arith) (omega arith)

pub placed_small : (rs : List Rect) (n w : ℕ) (b : Spot) → n ≤ widest → w ≤ n → Placed rs n w b → b.area ≤ largest
placed_small rs n w b h k p = rw p.area (box_small rs (window_box w b.x b.y) (omega arith) (omega arith))

pub level_small : (s : Sense) (rs : List Rect) (n w t : ℕ) (b : Spot) → n ≤ widest → w ≤ n → 1 ≤ t → AtStart rs n w t b → LevelSmall (level_of s rs n w t b)
unfolding level_of
level_small s rs n w t b h k p a =
    record {
      named = placed_small rs n w (level_of s rs n w t b).named h k (start_placed rs n w t (level_of s rs n w t b).named p (level_at_start s rs n w t b a));
      limit = rows_are s (far_area s rs n w t) t (starts_on n w t) (starts_on n w t) (spot_at (far_area s rs n w t) 0 0) (λ (c : Spot). c.area ≤ largest)
          (far_area_small s rs n w t 0 0 h k) (λ i j p q. far_area_small s rs n w t (i * t) (j * t) h k);
    }
