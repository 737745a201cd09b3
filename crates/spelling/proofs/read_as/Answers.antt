-- The invariant: the numbers found so far, zeros behind them in the table, are in front of what the rest of the pattern reads in the rest of the line what the whole reads.
use Rattle.std.proofs.Common.{sym, ◌∙◌}
use borrow.Author.Tests.{eqb-true, eqb-false}
use Rattle.spelling.proofs.Progress.{number_left, number_missing, number_read, byte_missing, byte_read, bytes_left, all_read}
use Rattle.spelling.proofs.read_as.Goals as goal
use Rattle.spelling.proofs.read_as.Goals.{then-c-eq35+in_ok-value, else-c-eq35+in_ok-rest}

pub returns-in_err-value : goal.returns-in_err-value
returns-in_err-value g c =
    c.from_residual.ensures ∙ number_missing c.loop-c.invariant c.loop-c-test.true c.if-c-eq35.true (sym c.in_err-value.ensures.is_number)

pub bounds-values-count : goal.bounds-values-count
bounds-values-count g c = number_left c.loop-c.invariant c.loop-c-test.true c.if-c-eq35.true

pub returns-in_err-rest : goal.returns-in_err-rest
returns-in_err-rest g c =
    c.from_residual-in_err-rest.ensures ∙ byte_missing c.loop-c.invariant c.loop-c-test.true c.if-c-eq35.false c.in_err-rest.ensures.cases

pub loop-c-preserved : goal.loop-c-preserved
loop-c-preserved g c = elim c.if-c-eq35.branch [
  | then-c-eq35+in_ok-value w ↦
      let n = w.in_ok-value in
      rw (w.values-is, w.count-is, w.rest-is, n.ensures.rest)
      (number_read c.loop-c.invariant c.loop-c-test.true w.if-c-eq35.true (sym n.ensures.is_number) n.value n.ensures.value)
  | else-c-eq35+in_ok-rest w ↦
      let n = w.in_ok-rest in
      rw (w.values-is, w.count-is, w.rest-is, n.ensures.cases.1)
      (byte_read c.loop-c.invariant c.loop-c-test.true w.if-c-eq35.false n.ensures.cases.0)
]

pub returns-then-is_empty : goal.returns-then-is_empty
returns-then-is_empty g c = all_read c.loop-c.invariant c.loop-c-test.false (eqb-true _ 0 (sym c.if-is_empty.ensures))

pub returns-else-is_empty : goal.returns-else-is_empty
returns-else-is_empty g c = bytes_left c.loop-c.invariant c.loop-c-test.false (eqb-false _ 0 (sym c.if-is_empty.ensures))
