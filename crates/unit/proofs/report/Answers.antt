-- `unit::report` meets its contract. Assumes nothing.
use Rattle.std.proofs.Common.{subst, List, ℕ, rules}
use Rattle.buffers.specs.Written.{Front}
use Rattle.unit.proofs.Replying.{reported, printed_so}
use Rattle.unit.proofs.report.Goals as goal

pub returns : goal.returns
returns c =
    let text = c.unwrap_or_else-text.result in
    let so = printed_so c.args.file.now c.render.result c.render.ensures text c.unwrap_or_else-text.ensures (λ e h. search rules) in
    reported (subst (λ (t : List ℕ). Front c.args.out.now t c.copy_front.new.out c.copy_front.result) so c.copy_front.ensures)
