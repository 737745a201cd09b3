-- `standing::held::Standing::new` meets its contract. Assumes nothing.
use Rattle.standing.proofs.Entering.{new_held, new_stands}
use Rattle.standing.proofs.held.Standing.new.Goals as goal

pub invariant_of-result : goal.invariant_of-result
invariant_of-result c = new_held _ _ _ _ c.no_head.ensures c.new.ensures c.new-2.ensures c.new-3.ensures

pub returns : goal.returns
returns c = new_stands _ _ _ c.new-3.result c.no_head.ensures c.new.ensures c.new-2.ensures
