-- `geometry::cover_of` meets its contract. The loop's invariant: each of the two numbers and what the rectangles that are left add to it make
-- the whole. Assumes nothing.
use Rattle.geometry.proofs.Totals.{CoverSoFar}
use Rattle.geometry.proofs.cover_of.Given as goal

abbrev pub invariant-loop-r : goal.invariant-loop-r
invariant-loop-r l = CoverSoFar l.rects l.b l.area l.shapes l.r-index
