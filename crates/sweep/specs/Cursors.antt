-- Where sums over the sides of a strip stand. A buyer need not read it, since no contract of the unit's public functions names it.
use Rattle.std.specs.Prelude.{ℕ, ◌*◌, ◌≤◌, ◌≡◌, List, ltb}
use Rattle.geometry.specs.Sizes.{widest}
use Rattle.geometry.specs.Count.{one_if}
use Rattle.geometry.specs.declared.Rect.{Rect}
use Rattle.geometry.specs.Layout.{covered_area}
use Rattle.sweep.specs.declared.Upright.{Upright}
use Rattle.sweep.specs.declared.cursors.Cursor.{Cursor}
use Rattle.sweep.specs.declared.cursors.Edges.{Edges}
use Rattle.sweep.specs.declared.frames.Frame.{Frame}
use Rattle.sweep.specs.Strips.{side_sum, ramps, strip_sum, AreasAlong}

-- the sum of g over the sides left of column x
abbrev pub left_sum : (ℕ → ℕ → ℕ) → List Upright → ℕ → ℕ
left_sum g s x = side_sum (λ v h. one_if (ltb v x) * g v h) s

-- the true sums at column x
abbrev pub cursor_at : List Upright → ℕ → Cursor
cursor_at s x = record { passed = left_sum (λ v h. 1) s x; rows = left_sum (λ v h. h) s x; moment = left_sum (λ v h. h * v) s x; ramps = ramps s x }

-- a cursor has the true sums at a column no later than x, which is no larger than a layout
pub record StandsBefore (s : List Upright) (c : Cursor) (x : ℕ) : Type 0 where
  pub column : ℕ
  pub is : c ≡ cursor_at s column
  pub earlier : column ≤ x
  pub small : x ≤ widest

-- ---- the edges of a box

abbrev pub edges_at : List Upright → (left right : ℕ) → Edges
edges_at s left right = record { left = cursor_at s left; right = cursor_at s right }

pub record EdgesBefore (s : List Upright) (e : Edges) (left right : ℕ) : Type 0 where
  pub at_left : StandsBefore s e.left left
  pub at_right : StandsBefore s e.right right

-- ---- a box between two columns

abbrev pub frame_at : (lows highs : List Upright) → (left right : ℕ) → Frame
frame_at lows highs left right =
    record { left = left; right = right; area = strip_sum lows highs left right; low = edges_at lows left right; high = edges_at highs left right }

abbrev pub no_sides : Cursor
no_sides = record { passed = 0; rows = 0; moment = 0; ramps = 0 }

abbrev pub no_edges : Edges
no_edges = record { left = no_sides; right = no_sides }

-- the empty box at column 0, of every strip
abbrev pub start_frame : Frame
start_frame = record { left = 0; right = 0; area = 0; low = no_edges; high = no_edges }

-- the area of a box of a strip is the true one: the covered squares between its columns, in every layout and between every two rows whose strip it is
-- (`StripOf`), or whose areas the two lists add up to in another order
pub record TrueArea (lows highs : List Upright) (f : Frame) : Type 0 where
  pub counted : (rects : List Rect) (y1 y2 : ℕ) → AreasAlong rects y1 y2 lows highs →
      f.area ≡ covered_area rects (record { x1 = f.left; y1 = y1; x2 = f.right; y2 = y2 })

-- a box of a strip has the true sums and the true area, and is not right of the columns `left` and `right`
pub record Behind (lows highs : List Upright) (f : Frame) (left right : ℕ) : Type 0 where
  pub is : f ≡ frame_at lows highs f.left f.right
  pub area_true : TrueArea lows highs f
  pub left_earlier : f.left ≤ left
  pub right_earlier : f.right ≤ right

-- two columns in their order, no larger than a layout
pub record ColumnsInOrder (left right : ℕ) : Type 0 where
  pub order : left ≤ right
  pub small : right ≤ widest
