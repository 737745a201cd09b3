-- What the code adds up in place of counting unit squares: overlaps. A buyer need not read it, since no contract of the unit's public functions
-- names it: for disjoint rectangles `overlap_sum` equals `covered_area` (proofs/Overlaps.antt).
use Rattle.std.specs.Prelude.{ℕ, ◌-◌, ◌*◌, min, max, List}
use Rattle.geometry.specs.declared.Rect.{Rect}
use Rattle.geometry.specs.Count.{rect_sum}

-- how many numbers the spans a to b and c to d have in common
abbrev pub common : (a b c d : ℕ) → ℕ
common a b c d = min b d - max a c

-- the unit squares that a rectangle shares with a box
abbrev pub overlap : Rect → Rect → ℕ
overlap r b = common r.x1 r.x2 b.x1 b.x2 * common r.y1 r.y2 b.y1 b.y2

-- the unit squares that each rectangle shares with a box, added up
abbrev pub overlap_sum : List Rect → Rect → ℕ
overlap_sum rs b = rect_sum rs (λ r. overlap r b)
