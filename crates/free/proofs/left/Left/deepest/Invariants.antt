-- The lead is in the list.
use Rattle.std.proofs.Common.{Contains}
use Rattle.free.proofs.left.Left.deepest.Given as goal

abbrev pub invariant-loop-place : goal.invariant-loop-place
invariant-loop-place l = Contains l.self.places.now l.lead
