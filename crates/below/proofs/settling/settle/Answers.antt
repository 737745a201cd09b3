-- `below::settling::settle` meets its contract. The loop's invariant: the rectangles at the places so far are settled or in the list of their own. Assumes nothing.
use Rattle.below.proofs.Remaining.{settling_missed, settling_straight, settling_kept, overlaps_flat, sum_small}
use Rattle.below.proofs.settling.settle.Goals as goal
use Rattle.below.proofs.settling.settle.Goals.{then-overlap_of-gt0+then-may_bend, then-overlap_of-gt0+else-may_bend, else-overlap_of-gt0}

pub plus-settled-requires-clause-flat : goal.plus-settled-requires-clause-flat
plus-settled-requires-clause-flat c =
    overlaps_flat _ _ _ _ _ _ _ c.loop-place.invariant c.loop-place-test.true _ c.may_bend.ensures c.if-may_bend.false c.args.p.full _ c.corner_overlaps.ensures

pub plus-settled-requires-clause-small : goal.plus-settled-requires-clause-small
plus-settled-requires-clause-small c =
    sum_small _ _ _ _ _ _ _ c.loop-place.invariant c.loop-place-test.true _ c.may_bend.ensures c.if-may_bend.false c.args.p.full _ c.corner_overlaps.ensures

pub loop-place-preserved : goal.loop-place-preserved
loop-place-preserved c =
    elim c.if-overlap_of-gt0.branch [
      | then-overlap_of-gt0+then-may_bend w ↦
          rw (w.own-is, w.settled-is)
          (settling_kept _ _ _ _ _ _ _ c.loop-place.invariant c.loop-place-test.true _ w.may_bend.ensures w.if-may_bend.true c.args.left.listed _ w.push.ensures.items)
      | then-overlap_of-gt0+else-may_bend w ↦
          rw (w.own-is, w.settled-is)
          (settling_straight _ _ _ _ _ _ _ c.loop-place.invariant c.loop-place-test.true _ w.may_bend.ensures w.if-may_bend.false c.args.p.full _ w.corner_overlaps.ensures
          _ w.plus-settled.ensures.extent w.plus-settled.ensures.corners)
      | else-overlap_of-gt0 w ↦
          rw (w.own-is, w.settled-is)
          (settling_missed _ _ _ _ _ _ _ c.loop-place.invariant c.loop-place-test.true _ _ c.reached_box-reach.ensures c.overlap_of.ensures w.if-overlap_of-gt0.false)
    ]
