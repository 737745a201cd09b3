-- `phases::phase_number` meets its contract: the rectangles are sorted, and are the same. Assumes nothing.
use Rattle.phases.proofs.phase_number.Goals as goal

pub returns : goal.returns
returns c = rw c.of.ensures at c.sorted_phase.ensures
