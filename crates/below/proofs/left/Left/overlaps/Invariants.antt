-- `below::left::Left::overlaps` meets its contract. The loop's invariant: the sum so far and what is left of the list make the whole. Assumes nothing.
use Rattle.below.proofs.Listing.{SummedSoFar}
use Rattle.below.proofs.left.Left.overlaps.Given as goal

abbrev pub invariant-loop-place : goal.invariant-loop-place
invariant-loop-place l = SummedSoFar l.self.rects.now l.self.places.now l.b l.total l.place-index
