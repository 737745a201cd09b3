-- `phases::job_phase` meets its contract: what stands gives the head, the rectangles and the amounts. Assumes nothing.
use Rattle.phases.proofs.job_phase.Goals as goal

pub returns : goal.returns
returns c = rw (c.head.ensures.value, c.rects.ensures.value, c.amounts.ensures) at c.phase_number.ensures
