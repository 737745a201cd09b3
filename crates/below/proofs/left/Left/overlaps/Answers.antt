-- `below::left::Left::overlaps` meets its contract. The loop's invariant: the sum so far and what is left of the list make the whole. Assumes nothing.
use native.Mathlib.Omega.{arith}
use Rattle.below.proofs.Listing.{summing_fits, summing_next, summing_ends}
use Rattle.below.proofs.left.Left.overlaps.Goals as goal

pub overflow_add-total : goal.overflow_add-total
overflow_add-total c = let l = c.args.self in
    record { fits = omega (arith, summing_fits _ _ _ _ _ c.loop-place.invariant l.small l.listed _ c.loop-place-test.true c.overlap_of-total.ensures, c.loop-place-test.true, l.few) }

pub loop-place-preserved : goal.loop-place-preserved
loop-place-preserved c =
    let l = c.args.self in summing_next _ _ _ _ _ c.loop-place.invariant l.small l.listed _ c.loop-place-test.true c.overlap_of-total.ensures

pub returns : goal.returns
returns c = summing_ends _ _ _ _ _ c.loop-place.invariant c.loop-place-test.false
