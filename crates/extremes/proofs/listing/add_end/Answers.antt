-- `extremes::listing::add_end` meets its contract. Assumes nothing.
use Rattle.std.proofs.lemmas.Grind.{common_steps}
use native.Mathlib.Omega.{arith}
use Rattle.extremes.specs.Listing.{with_end}
use Rattle.extremes.proofs.listing.add_end.Goals as goal

pub returns-then-w-end : goal.returns-then-w-end
unfolding with_end
returns-then-w-end c = grind (arith, common_steps)

pub returns-else-w-end : goal.returns-else-w-end
unfolding with_end
returns-else-w-end c = grind (arith, common_steps)
