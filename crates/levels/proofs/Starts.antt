-- Starts and their windows: which starts there are, how those of two levels nest, and how standard, bloated and shrunk windows lie in one another.
use Prim.Native.Nat.{ℕ, suc, ◌+◌, ◌-◌, ◌*◌, ◌/◌, ◌≤◌, ◌<◌, min}
use mathlib.Core.Path.{◌≡◌, refl, sym, ap₂, ◌∙◌}
use mathlib.Core.List.{List}
use native.Mathlib.Nat.{le-div_iff_mul-le, div-mul-le_self, lt-div-mul-add, mul-le-mul_right, mul_assoc, add-zero}
use native.Mathlib.Omega.{arith}
use borrow.Author.Tests.{le-ltb}
use Rattle.geometry.specs.declared.Rect.{Rect}
use Rattle.geometry.specs.declared.Spot.{Spot}
use Rattle.geometry.specs.declared.Sense.{Sense}
use Rattle.geometry.specs.declared.Sense.TheVariants.{Greatest, Least}
use Rattle.geometry.specs.Count.{one_if}
use Rattle.geometry.specs.Layout.{covered, covered_area}
use Rattle.geometry.specs.Extreme.{spot_at, NoBetter}
use Rattle.geometry.proofs.Counting.{box_within}
use Rattle.geometry.specs.Positions.{window_area}
use Rattle.levels.specs.Levels.{starts_on, far_window, far_area}
use Rattle.levels.specs.Grid.{AtStart}

-- ---- which starts there are

pub start_fits : (n w t i : ℕ) → 1 ≤ t → i < starts_on n w t → i * t ≤ n - w
start_fits n w t i p h = (le-div_iff_mul-le p).0 (omega arith)

pub fits_start : (n w t i : ℕ) → 1 ≤ t → i * t ≤ n - w → i < starts_on n w t
fits_start n w t i p h = omega (arith, (le-div_iff_mul-le p).1 h)

-- the start at or before a position
pub record StartBelow (n w t x : ℕ) : Type 0 where
  pub start : ℕ
  pub counts : start < starts_on n w t
  pub before : start * t ≤ x
  pub close : x ≤ start * t + t

pub start_below : (n w t x : ℕ) → 1 ≤ t → x ≤ n - w → StartBelow n w t x
start_below n w t x p h =
    record {
      start = x / t;
      counts = fits_start n w t (x / t) p (omega (arith, div-mul-le_self x t));
      before = div-mul-le_self x t;
      close = omega (arith, lt-div-mul-add {a = x} p);
    }

-- where a step is twice the next, start i of the next level lies within a step of start i / 2
half_row : (t i : ℕ) → (i / 2 * (2 * t) ≤ i * t) × (i * t + t ≤ i / 2 * (2 * t) + 2 * t)
half_row t i = (omega (arith, doubled, mul-le-mul_right {m = i / 2 * 2} {n = i} t (omega arith)), omega (arith, doubled, mul-le-mul_right {m = suc i} {n = i / 2 * 2 + 2} t (omega arith)))
  where
    doubled : i / 2 * (2 * t) ≡ i / 2 * 2 * t
    doubled = sym (mul_assoc (i / 2) 2 t)

pub half_start : (n w t i : ℕ) → 1 ≤ t → i < starts_on n w t → i / 2 < starts_on n w (2 * t)
half_start n w t i p h = fits_start n w (2 * t) (i / 2) (omega arith) (omega (arith, (half_row t i).0, start_fits n w t i p h))

-- ---- how windows lie in one another

-- a standard window is a bloated one, and a shrunk one, at step 0
pub standard_is_far : (s : Sense) (rs : List Rect) (n w x y : ℕ) → x + w ≤ n → y + w ≤ n → window_area rs w x y ≡ far_area s rs n w 0 x y
standard_is_far Greatest rs n w x y h k = ap₂ (λ (a b : ℕ). covered_area rs (record { x1 = x; y1 = y; x2 = a; y2 = b })) (end x h) (end y k)
  where
    end : (x : ℕ) → x + w ≤ n → x + w ≡ min (x + w + 0) n
    end x h = omega arith
standard_is_far Least rs n w x y h k = ap₂ (λ (a b : ℕ). covered_area rs (record { x1 = a; y1 = b; x2 = x + w; y2 = y + w })) (sym (add-zero x)) (sym (add-zero y))

-- b lies inside c
pub record LiesIn (b c : Rect) : Type 0 where
  pub left : c.x1 ≤ b.x1
  pub low : c.y1 ≤ b.y1
  pub right : b.x2 ≤ c.x2
  pub high : b.y2 ≤ c.y2

-- of two far windows, the one tells no more than the other: for the greatest it lies inside the other, for the least it holds the other
abbrev pub Nested : Sense → Rect → Rect → Type 0
Nested Greatest b c = LiesIn b c
Nested Least b c = LiesIn c b

pub nested_no_better : (s : Sense) (rs : List Rect) (b c : Rect) → Nested s b c → NoBetter s (covered_area rs b) (covered_area rs c)
nested_no_better Greatest rs b c l = le-ltb _ _ (box_within b c (λ x y. one_if (covered rs x y)) l.left l.low l.right l.high)
nested_no_better Least rs b c l = le-ltb _ _ (box_within c b (λ x y. one_if (covered rs x y)) l.left l.low l.right l.high)

-- a far window whose square of a step lies in another's has no better an area
far_nested : (s : Sense) (n w t x y t' x' y' : ℕ) → x' ≤ x → x + t ≤ x' + t' → y' ≤ y → y + t ≤ y' + t' →
    Nested s (far_window s n w t x y) (far_window s n w t' x' y')
far_nested Greatest n w t x y t' x' y' hx kx hy ky = record { left = hx; low = hy; right = omega arith; high = omega arith }
far_nested Least n w t x y t' x' y' hx kx hy ky = record { left = kx; low = ky; right = omega arith; high = omega arith }

pub far_within : (s : Sense) (rs : List Rect) (n w t x y t' x' y' : ℕ) → x' ≤ x → x + t ≤ x' + t' → y' ≤ y → y + t ≤ y' + t' →
    NoBetter s (far_area s rs n w t x y) (far_area s rs n w t' x' y')
far_within s rs n w t x y t' x' y' hx kx hy ky =
    nested_no_better s rs (far_window s n w t x y) (far_window s n w t' x' y') (far_nested s n w t x y t' x' y' hx kx hy ky)

-- each position has no better an area than the far window of the start below it
pub window_within : (s : Sense) (rs : List Rect) (n w t x y x' y' : ℕ) → x + w ≤ n → y + w ≤ n → x' ≤ x → x ≤ x' + t → y' ≤ y → y ≤ y' + t →
    NoBetter s (window_area rs w x y) (far_area s rs n w t x' y')
window_within s rs n w t x y x' y' ex ey hx kx hy ky =
    rw (standard_is_far s rs n w x y ex ey) (far_within s rs n w 0 x y t x' y' hx (omega arith) hy (omega arith))

-- the far window of start (i, j) has no better an area than that of start (i / 2, j / 2) of the level before
pub far_halves : (s : Sense) (rs : List Rect) (n w t i j : ℕ) →
    NoBetter s (far_area s rs n w t (i * t) (j * t)) (far_area s rs n w (2 * t) (i / 2 * (2 * t)) (j / 2 * (2 * t)))
far_halves s rs n w t i j =
    far_within s rs n w t (i * t) (j * t) (2 * t) (i / 2 * (2 * t)) (j / 2 * (2 * t)) (half_row t i).0 (half_row t i).1 (half_row t j).0 (half_row t j).1

-- ---- a window at a start

pub at_start : (rs : List Rect) (n w t i j : ℕ) → i < starts_on n w t → j < starts_on n w t → AtStart rs n w t (spot_at (window_area rs w) (i * t) (j * t))
at_start rs n w t i j h k = record { column = i; row = j; across = h; down = k; is = refl }

-- a start of one level is a start of the next
pub start_stays : (rs : List Rect) (n w t : ℕ) (b : Spot) → 1 ≤ t → AtStart rs n w (2 * t) b → AtStart rs n w t b
start_stays rs n w t b p a =
    record {
      column = a.column * 2;
      row = a.row * 2;
      across = counts a.column a.across;
      down = counts a.row a.down;
      is = a.is ∙ ap₂ (λ (x y : ℕ). spot_at (window_area rs w) x y) (sym (mul_assoc a.column 2 t)) (sym (mul_assoc a.row 2 t));
    }
  where
    counts : (i : ℕ) → i < starts_on n w (2 * t) → i * 2 < starts_on n w t
    counts i h = fits_start n w t (i * 2) p (omega (arith, start_fits n w (2 * t) i (omega arith) h, mul_assoc i 2 t))
