-- `positions::count_positions` meets its contract: by the positions below the least area that keeps the lower bound, and by those up to the greatest that keeps the upper one. Assumes nothing.
use mathlib.Core.Path.{refl}
use Rattle.positions.proofs.Adding.{under_less, kept_less, tally_is}
use Rattle.positions.proofs.count_positions.Goals as goal

pub overflow_sub-result : goal.overflow_sub-result
overflow_sub-result c = under_less _ _ _ _ _ c.requires.order _ refl _ _ _ c.div_ceil.ensures c.count_below-under.ensures c.count_below-kept.ensures

pub overflow_sub-result-2 : goal.overflow_sub-result-2
overflow_sub-result-2 c = kept_less _ _ _ _ _ c.requires.order _ refl _ _ _ c.div_ceil.ensures c.count_below-under.ensures c.count_below-kept.ensures

pub returns : goal.returns
returns c = tally_is _ _ _ _ _ c.requires.order _ refl _ _ _ c.div_ceil.ensures c.count_below-under.ensures c.count_below-kept.ensures
