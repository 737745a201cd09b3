-- `below::left::Left::lines` meets its contract. The loop's invariant: the lines so far lie in the box, and after one rectangle one of them crosses it. Assumes nothing.
use Rattle.below.specs.Counting.{LinesFor}
use Rattle.below.proofs.left.Left.lines.Given as goal

abbrev pub invariant-loop-place : goal.invariant-loop-place
invariant-loop-place l = LinesFor l.place-index l.b l.lines
