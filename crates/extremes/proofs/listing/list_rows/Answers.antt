-- `extremes::listing::list_rows` meets its contract. Assumes nothing.
use native.Mathlib.Omega.{arith}
use Rattle.std.proofs.lemmas.Grind.{common_steps}
use Rattle.extremes.specs.Listing.{candidates}
use Rattle.extremes.proofs.Lists.{position_grown, sides_grown}
use Rattle.extremes.proofs.Tried.{rows_within}
use Rattle.extremes.proofs.listing.list_rows.Goals as goal

pub loop-r-init : goal.loop-r-init
unfolding candidates
loop-r-init c = grind (arith, common_steps, position_grown)

pub loop-r-preserved : goal.loop-r-preserved
unfolding candidates
loop-r-preserved c = let at = c.loop-r in
    grind (arith, common_steps, sides_grown c.args.search.sense c.args.search.last c.args.search.w at.rows.items)

pub returns-clause-within : goal.returns-clause-within
returns-clause-within c = rw c.loop-r.invariant.listed (rows_within _ _ _ _)
