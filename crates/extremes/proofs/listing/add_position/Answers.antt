-- `extremes::listing::add_position` meets its contract. Assumes nothing.
use Rattle.std.proofs.lemmas.Grind.{common_steps}
use native.Mathlib.Omega.{arith}
use Rattle.extremes.specs.Listing.{with_position}
use Rattle.extremes.proofs.listing.add_position.Goals as goal

pub returns-then-not-contains : goal.returns-then-not-contains
unfolding with_position
returns-then-not-contains c = grind (arith, common_steps)

pub returns-else-p-last : goal.returns-else-p-last
unfolding with_position
returns-else-p-last c = grind (arith, common_steps)
