-- `standing::held::Standing::fillable` meets its contract: the part at hand is enough for the box. Assumes nothing.
use Rattle.standing.proofs.Rows.{box_small}
use Rattle.standing.proofs.held.Standing.fillable.Goals as goal

pub fillable-requires-clause-small_box : goal.fillable-requires-clause-small_box
fillable-requires-clause-small_box c = box_small _ _ _ c.requires

pub returns : goal.returns
returns c = rw (← c.self.view_is) (c.fillable.ensures.eligible _ (rw c.as_slice.ensures.value c.self.invariant.regions))
