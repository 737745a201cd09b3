-- Document 01, "The job file" and "Areas": rectangles, covered unit squares, the area of a window; and document 02's request 2, the shapes
-- under it.
use Rattle.std.specs.Prelude.{ℕ, ◌+◌, ◌≤◌, Bool, false, ◌&&◌, ◌||◌, List, [], ◌∷◌, T, leb, ltb, length, All}
use Rattle.geometry.specs.declared.Rect.{Rect}
use Rattle.geometry.specs.declared.Cover.{Cover}
use Rattle.geometry.specs.Sizes.{most_rects, SmallSides}
use Rattle.geometry.specs.Count.{one_if, box_sum, rect_sum}

-- whether a rectangle covers the unit square (x, y): its low sides belong to it, its high sides do not
abbrev pub holds : Rect → ℕ → ℕ → Bool
holds r x y = (leb r.x1 x && ltb x r.x2) && (leb r.y1 y && ltb y r.y2)

-- a unit square is covered if a rectangle covers it
unfoldable pub covered : List Rect → ℕ → ℕ → Bool
covered [] x y = false
covered (r ∷ rs) x y = holds r x y || covered rs x y

-- the area of a box: the number of its covered unit squares
abbrev pub covered_area : List Rect → Rect → ℕ
covered_area rs b = box_sum b (λ x y. one_if (covered rs x y))

-- "shares a unit square with", of document 01's fault 9 and document 02's request 2: a covered unit square lies in the box
abbrev pub shares_square : List Rect → Rect → Bool
shares_square rs b = ltb 0 (covered_area rs b)

-- request 2's shapes under a box: the number of rectangles that, each by itself, share a unit square with it. It is 0 exactly if the area
-- is, for every list of rectangles: `no_shapes→no_area` and `no_area→no_shapes` in proofs/Sharing.antt
abbrev pub shapes_under : List Rect → Rect → ℕ
shapes_under rs b = rect_sum rs (λ r. one_if (shares_square (r ∷ []) b))

-- both numbers of a box
abbrev pub cover_of : List Rect → Rect → Cover
cover_of rs b = record { area = covered_area rs b; shapes = shapes_under rs b }

-- the window of side w at (x, y)
abbrev pub window_box : ℕ → ℕ → ℕ → Rect
window_box w x y = record { x1 = x; y1 = y; x2 = x + w; y2 = y + w }

-- ---- what the code asks; a buyer need not read on

-- no unit square lies in two of the rectangles
unfoldable pub Disjoint : List Rect → Type 0
Disjoint [] = Unit {0}
Disjoint (r ∷ rs) = ((x y : ℕ) → T (holds r x y) → T (covered rs x y) → ⊥) × Disjoint rs

-- what the code asks of the rectangles of a layer: at most 1,024 and no number past 2^20, for 64 bits, and no shared unit square, so that
-- sums of overlaps count each square once
pub record Layer (rs : List Rect) : Type 0 where
  pub few : length rs ≤ most_rects
  pub small : All SmallSides rs
  pub apart : Disjoint rs
