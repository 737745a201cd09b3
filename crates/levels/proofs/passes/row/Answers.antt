-- `levels::passes::row` meets its contract. Assumes nothing.
use mathlib.Core.Path.{refl, sym, ap, ◌∙◌}
use native.Mathlib.Omega.{arith}
use Rattle.sweep.specs.declared.strips.Strip.{Strip}
use Rattle.sweep.specs.Sweeps.{strip_area}
use Rattle.levels.specs.Passes.{row_seen}
use Rattle.levels.proofs.PassLoops.{starts_small, row_looks, row_skips, row_few, row_asks}
use Rattle.levels.proofs.Waiting.{from_next, to_next}
use Rattle.levels.proofs.Rows.{row_area, less_reach}
use Rattle.levels.proofs.passes.row.Goals as goal

pub loop-i-init : goal.loop-i-init
unfolding row_seen
loop-i-init g c =
    let start = c.start-sweep.ensures in
    record { along = start.strip; left = omega (arith, start.left); right = omega (arith, start.right); so_far = refl }

pub loop-i-preserved-then-flagged : goal.loop-i-preserved-then-flagged
loop-i-preserved-then-flagged g c =
    let laws = g.P.Pass.laws in
    let at = c.loop-i in
    let so_far = at.invariant.so_far in
    record {
      along = at.invariant.along;
      left = omega (arith, at.invariant.left, from_next c.args.g c.reach-reach.result at.i);
      right = omega (arith, at.invariant.right, to_next c.args.g c.reach-reach.result at.i);
      so_far =
          row_skips laws _ _ _ _ _ _ _ _ so_far _
          (λ seen. c.pass_over.ensures _ seen (row_asks laws _ _ _ _ _ _ _ _ so_far c.requires.able))
          (less_reach _ _ _ _ _ _ _ _ _ c.reach-reach.ensures.within
          (c.requires.passable at.i (rw c.args.g.count at c.loop-i-test.true) (sym c.above-flagged.ensures ∙ c.if-flagged.true)));
    }

pub look-so_far-requires-clause-few : goal.look-so_far-requires-clause-few
look-so_far-requires-clause-few g c =
    row_few g.P.Pass.laws _ _ _ _ _ _ _ _ c.loop-i.invariant.so_far c.requires.few (omega (arith, starts_small c.args.g))

pub look-so_far-requires-clause-able : goal.look-so_far-requires-clause-able
look-so_far-requires-clause-able g c = row_asks g.P.Pass.laws _ _ _ _ _ _ _ _ c.loop-i.invariant.so_far c.requires.able

pub loop-i-preserved : goal.loop-i-preserved
loop-i-preserved g c =
    let at = c.loop-i in
    let moved = c.move_to.ensures in
    let reach = c.reach-reach.ensures.value in
    record {
      along = moved.strip ∙ at.invariant.along;
      left = omega (arith, moved.left, c.span_from-left.ensures, from_next c.args.g c.reach-reach.result at.i);
      right = omega (arith, moved.right, c.span_to-right.ensures, to_next c.args.g c.reach-reach.result at.i);
      so_far =
          row_looks g.P.Pass.laws _ _ _ _ _ _ _ _ at.invariant.so_far _ _
          (moved.area ∙ ap (λ (s : Strip). strip_area s c.span_from-left.result c.span_to-right.result) at.invariant.along
          ∙ row_area _ c.args.strip.now _ _ _ _ _ _ _ (rw reach c.requires.first) (rw reach c.requires.last) c.span_from-left.ensures c.span_to-right.ensures)
          c.look-so_far.ensures;
    }
