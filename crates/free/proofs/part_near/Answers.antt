use Rattle.free.proofs.NearParts.{near_serves, none_serves}
use Rattle.free.proofs.part_near.Goals as goal

pub returns-in-Some-Some : goal.returns-in-Some-Some
returns-in-Some-Some c = near_serves _ _ _ _ c.in-Some-Some.ensures c.in-Some-Some.ensures'

pub returns-in_default : goal.returns-in_default
returns-in_default c = none_serves _ _ c.in_default.ensures'

pub returns-in_default-2 : goal.returns-in_default-2
returns-in_default-2 c = none_serves _ _ (rw c.in_default.is-0 at c.first_near.ensures)
