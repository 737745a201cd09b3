-- The area of a box that is carried along a strip. A buyer need not read it, since no contract of the unit's public functions names it.
use Rattle.std.specs.Prelude.{ℕ}
use Rattle.geometry.specs.Layout.{covered_area}
use Rattle.sweep.specs.declared.strips.Strip.{Strip}

-- the covered squares between two columns and the rows of a strip
abbrev pub strip_area : Strip → (x1 x2 : ℕ) → ℕ
strip_area s x1 x2 = covered_area s.sorted.now.rects.now (record { x1 = x1; y1 = s.y1; x2 = x2; y2 = s.y2 })
