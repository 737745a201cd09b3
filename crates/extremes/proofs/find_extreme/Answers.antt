-- `extremes::find_extreme` meets its contract. Assumes nothing.
use native.Mathlib.Omega.{arith}
use Rattle.std.proofs.lemmas.Grind.{common_steps}
use Rattle.extremes.specs.Search.{searched}
use Rattle.extremes.proofs.Searches.{searched_is_extreme}
use Rattle.extremes.proofs.find_extreme.Goals as goal

pub returns : goal.returns
unfolding searched
returns c = let a = c.args in grind (arith, common_steps, searched_is_extreme a.sense a.sorted.now a.n a.w)
