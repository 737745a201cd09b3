-- `geometry::cover_of` meets its contract: a rectangle adds its overlap, and one where that is not 0. Assumes nothing.
use native.Mathlib.Omega.{arith}
use Rattle.geometry.proofs.Totals.{cover_next, cover_end, overlap_small, one_small}
use Rattle.geometry.proofs.cover_of.Goals as goal

pub overflow_add-area : goal.overflow_add-area
overflow_add-area c =
    omega (arith, c.overlap_of-shared.ensures, overlap_small _ c.args.b (one_small _ _ (record { x1 = 0; y1 = 0; x2 = 0; y2 = 0 }) c.requires c.loop-r-test.true))

pub loop-r-preserved : goal.loop-r-preserved
loop-r-preserved c =
    cover_next _ c.args.b _ _ _ _ _ _ c.requires c.loop-r.invariant c.loop-r-test.true c.overlap_of-shared.ensures c.from-shapes.ensures

pub returns : goal.returns
returns c = search cover_end
