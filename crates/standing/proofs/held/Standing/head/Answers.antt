-- `standing::held::Standing::head` meets its contract: a head that was entered is good. Assumes nothing.
use Rattle.standing.proofs.held.Standing.head.Goals as goal

pub returns-clause-good : goal.returns-clause-good
returns-clause-good c = rw (← c.self.view_is) c.self.invariant.sound.headed
