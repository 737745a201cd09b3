-- `standing::held::Standing::enter` meets its contract. Each arm cites the law of entering its form. Assumes nothing.
use Rattle.standing.proofs.Entering.{heading_stands, heading_held, end_stands, end_held, none_entered}
use Rattle.standing.proofs.held.Standing.enter.Goals as goal

pub invariant_of-self : goal.invariant_of-self
invariant_of-self c = heading_held _ c.self.invariant _ c.self.view_is c.in-Heading.h (rw c.in-Heading.is at c.requires)

pub invariant_of-self-in-End : goal.invariant_of-self-in-End
invariant_of-self-in-End c = end_held _ c.self-in-End.invariant _ c.self-in-End.view_is (rw c.in-End.is at c.requires)

pub returns-in-Unknown : goal.returns-in-Unknown
returns-in-Unknown c = none_entered _ c.args.f c.in-Unknown.is

pub returns-in-Heading : goal.returns-in-Heading
returns-in-Heading c = rw c.in-Heading.is (heading_stands _ c.self.invariant _ c.self.view_is c.in-Heading.h (rw c.in-Heading.is at c.requires))

pub returns-in-End : goal.returns-in-End
returns-in-End c = rw c.in-End.is (end_stands _ c.self-in-End.invariant _ c.self-in-End.view_is)
