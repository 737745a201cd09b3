-- `unit::render::render` meets its contract: a job that was read may be run. Assumes nothing.
use mathlib.Core.Path.{sym}
use Rattle.unit.proofs.Accepting.{accepted_readable}
use Rattle.unit.proofs.render.render.Goals as goal

pub render_job-requires : goal.render_job-requires
render_job-requires c = accepted_readable c.args.file.now _ (sym c.in_ok-read_into.ensures)
