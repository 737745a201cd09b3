-- `jobfile::read_lines` meets its contract: what stands and what is left come to what the whole file comes to. Assumes nothing.
use Rattle.std.proofs.Common.{sym, ap, ◌∙◌}
use Rattle.standing.specs.declared.Turn.{Turn}
use Rattle.jobfile.specs.File.{at_end}
use Rattle.jobfile.proofs.Lines.{read_so_far_next, read_so_far_bad, read_so_far_end, unended_end, from_place}
use Rattle.jobfile.proofs.read_lines.Goals as goal

pub loop-rest-preserved : goal.loop-rest-preserved
loop-rest-preserved c = rw from_place (read_so_far_next _ _ _ _ c.loop-rest.invariant _ c.in-Ok.used c.in-Ok.ensures)

pub returns-in-Err : goal.returns-in-Err
returns-in-Err c = read_so_far_bad _ _ _ _ c.loop-rest.invariant _ c.in-Err.fault (sym c.loop-rest-test.ensures) c.in-Err.ensures

pub returns-in-Done : goal.returns-in-Done
returns-in-Done c =
    let loop = c.loop-rest in
    ap (λ (t : Turn). at_end t loop.line loop.s) c.in-Done.ensures ∙ read_so_far_end _ _ _ _ loop.invariant (sym c.loop-rest-test.ensures)

pub returns-in_default : goal.returns-in_default
returns-in_default c =
    let loop = c.loop-rest in
    sym (unended_end loop.s.turn loop.line loop.s (λ q. c.in_default.not-Done (c.turn.ensures ∙ q)))
    ∙ read_so_far_end _ _ _ _ loop.invariant (sym c.loop-rest-test.ensures)
