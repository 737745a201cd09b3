-- `below::settling::settle` meets its contract. The loop's invariant: the rectangles at the places so far are settled or in the list of their own. Assumes nothing.
use Rattle.below.proofs.Remaining.{SettledSoFar}
use Rattle.below.proofs.settling.settle.Given as goal

abbrev pub invariant-loop-place : goal.invariant-loop-place
invariant-loop-place l = SettledSoFar l.left.rects.now l.left.places.now l.own.items l.w l.b l.settled l.place-index
