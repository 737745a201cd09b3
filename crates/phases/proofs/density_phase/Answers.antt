-- `phases::density_phase` meets its contract: the phase of what stands at the end of an accepted file. Assumes nothing.
use mathlib.Core.Path.{sym}
use Rattle.unit.proofs.Accepting.{accepted_readable}
use Rattle.phases.proofs.density_phase.Goals as goal

pub job_phase-requires : goal.job_phase-requires
job_phase-requires c = accepted_readable c.args.file.now _ (sym c.in-Ok.ensures)
