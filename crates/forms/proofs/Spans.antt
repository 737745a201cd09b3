-- What the tests of ranges say in plain numbers, of a head and of a rectangle.
use Prim.Native.Nat.{ℕ, ◌≤◌}
use native.Mathlib.Omega.{arith}
use mathlib.Core.Path.{◌≡◌}
use mathlib.Core.Bool.{true}
use Rattle.geometry.specs.declared.Rect.{Rect}
use Rattle.forms.specs.declared.Gap.{Gap}
use Rattle.forms.specs.declared.Head.{Head}
use Rattle.forms.specs.declared.Kind.{Kind}
use Rattle.forms.specs.Limits.{Limits}
use Rattle.forms.specs.Shapes.{gap_for}
use Rattle.forms.specs.Forms.{in_span, gap_in_range, head_in_range, rect_in_range}

-- a number in its range
pub record Between (lo hi n : ℕ) : Type 0 where
  pub least : lo ≤ n
  pub most : n ≤ hi

pub between : (lo hi n : ℕ) → in_span lo hi n ≡ true → Between lo hi n
between lo hi n e = record { least = grind arith; most = grind arith }

-- a gap of the head is in its range, whichever kind it is for
pub gap_between_lem : (m : Limits) (g : Gap) (k : Kind) → gap_in_range m g ≡ true → Between 0 m.side (gap_for g k)
gap_between_lem m g k e = record { least = omega arith; most = grind arith }

-- the ranges of a good head's numbers
pub record Ranges (m : Limits) (h : Head) : Type 0 where
  pub size : Between 1 m.side h.size
  pub window : Between 1 m.side h.window
  pub cut : Between 1 m.tiles h.cut
  pub gap : gap_in_range m h.gap ≡ true
  pub lower : Between 0 m.bound h.lower
  pub upper : Between 0 m.bound h.upper
  pub accuracy : Between 0 m.accuracy h.accuracy
  pub levels : Between 1 m.levels h.levels

pub ranges : (m : Limits) (h : Head) → head_in_range m h ≡ true → Ranges m h
ranges m h e =
    record {
      size = record { least = grind arith; most = grind arith };
      window = record { least = grind arith; most = grind arith };
      cut = record { least = grind arith; most = grind arith };
      gap = grind arith;
      lower = record { least = grind arith; most = grind arith };
      upper = record { least = grind arith; most = grind arith };
      accuracy = record { least = grind arith; most = grind arith };
      levels = record { least = grind arith; most = grind arith };
    }

-- the corners of a rectangle in range
pub record Corners (m : Limits) (r : Rect) : Type 0 where
  pub left : Between 0 m.side r.x1
  pub low : Between 0 m.side r.y1
  pub right : Between 0 m.side r.x2
  pub high : Between 0 m.side r.y2

pub corners : (m : Limits) (r : Rect) → rect_in_range m r ≡ true → Corners m r
corners m r e =
    record {
      left = record { least = omega arith; most = grind arith };
      low = record { least = omega arith; most = grind arith };
      right = record { least = omega arith; most = grind arith };
      high = record { least = omega arith; most = grind arith };
    }
