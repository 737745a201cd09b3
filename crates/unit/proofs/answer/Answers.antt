-- `unit::answer` meets its contract. Assumes nothing.
use Rattle.std.proofs.Common.{arith}
use Rattle.std.proofs.lemmas.Result.{err_from_is_err_and}
use Rattle.unit.proofs.Replying.{guaranteed, answer_refused, answer_short, answer_fits}
use Rattle.unit.proofs.answer.Goals as goal

pub returns-in_err-text : goal.returns-in_err-text
returns-in_err-text c =
    let p = err_from_is_err_and c.from_residual.result c.from_residual.ensures.1 in
    rw (p.1, p.2) (guaranteed _ _ _ _ (answer_refused c.args.file.now _ c.in_err-text.ensures c.args.out.now))

pub returns-then-out-len : goal.returns-then-out-len
returns-then-out-len c =
    guaranteed _ _ _ _ (answer_short c.args.file.now c.in_ok-text.text (omega (arith, c.len.ensures.fits)) c.in_ok-text.ensures c.args.out.now (omega arith))

pub returns : goal.returns
returns c =
    guaranteed _ _ _ _
    (answer_fits c.args.file.now c.in_ok-text.text (omega (arith, c.len.ensures.fits)) c.in_ok-text.ensures c.args.out.now _ _ (omega arith) c.copy_front.ensures)
