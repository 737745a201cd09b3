-- The places before the index that come near and are not spare are in the list.
use Rattle.free.proofs.Places.{KeptSoFar}
use Rattle.free.proofs.left.Left.keep_near.Given as goal

abbrev pub invariant-loop-place : goal.invariant-loop-place
invariant-loop-place l = KeptSoFar l.self l.lead l.c l.own.items l.place-index
