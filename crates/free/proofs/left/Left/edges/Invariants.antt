-- The lines so far lie in the box.
use Rattle.geometry.specs.Cuts.{InBox}
use Rattle.free.proofs.left.Left.edges.Given as goal

abbrev pub invariant-loop-place : goal.invariant-loop-place
invariant-loop-place l = InBox l.self.bounds l.lines
