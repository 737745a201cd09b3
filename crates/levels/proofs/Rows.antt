-- A row by its strip: the areas that a sweep finds there are those of the row's windows.
use Prim.Native.Nat.{ℕ, ◌≤◌}
use mathlib.Core.Path.{◌≡◌, refl}
use mathlib.Core.List.{List}
use native.Mathlib.Omega.{arith}
use Rattle.geometry.specs.declared.Rect.{Rect}
use Rattle.geometry.specs.declared.Sense.{Sense}
use Rattle.geometry.specs.declared.Sense.TheVariants.{Greatest, Least}
use Rattle.geometry.specs.Extreme.{NoBetter}
use Rattle.geometry.specs.Layout.{covered_area}
use Rattle.sweep.specs.declared.strips.Strip.{Strip}
use Rattle.sweep.specs.Sweeps.{strip_area}
use Rattle.levels.specs.Levels.{far_area}
use Rattle.levels.specs.Spans.{span_from, span_to}
use Rattle.levels.specs.Laws.{no_better_trans}
use Rattle.levels.proofs.Starts.{far_within}

-- the box of a far window, by its spans
span_box : (s : Sense) (rs : List Rect) (n w u x y : ℕ) →
    covered_area rs (record { x1 = span_from s u x; y1 = span_from s u y; x2 = span_to s n w u x; y2 = span_to s n w u y }) ≡ far_area s rs n w u x y
span_box Greatest rs n w u x y = refl
span_box Least rs n w u x y = refl

-- the area between the columns of a window, in the strip of its rows
pub row_area : (s : Sense) (strip : Strip) (n w u x y left right : ℕ) → strip.y1 ≡ span_from s u y → strip.y2 ≡ span_to s n w u y →
    left ≡ span_from s u x → right ≡ span_to s n w u x → strip_area strip left right ≡ far_area s strip.sorted.now.rects.now n w u x y
row_area s strip n w u x y left right h k l r = rw (h, k, l, r) (span_box s strip.sorted.now.rects.now n w u x y)

-- a window that is bloated or shrunk by less is no better
pub less_reach : (s : Sense) (rs : List Rect) (n w u t x y best : ℕ) → u ≤ t → NoBetter s (far_area s rs n w t x y) best → NoBetter s (far_area s rs n w u x y) best
less_reach s rs n w u t x y best h k =
    no_better_trans s _ _ best (far_within s rs n w u x y t x y (omega arith) (omega arith) (omega arith) (omega arith)) k
