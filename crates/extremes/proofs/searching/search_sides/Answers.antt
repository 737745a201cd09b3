-- `extremes::searching::search_sides` meets its contract. Assumes nothing.
use Rattle.std.proofs.Common.{◌+◌}
use native.Mathlib.Omega.{arith}
use Rattle.std.proofs.lemmas.Grind.{common_steps}
use Rattle.extremes.proofs.searching.search_sides.Goals as goal

pub loop-side-preserved : goal.loop-side-preserved
loop-side-preserved c = let at = c.loop-side in record {
  along = grind (arith, common_steps);
  leads = grind (arith, common_steps);
  left_earlier = λ d h. grind (arith, common_steps, at.invariant.left_earlier d, c.requires at.side-index (at.side-index + 1) d);
  right_earlier = grind (arith, common_steps);
}
