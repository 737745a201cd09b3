-- The invariant: the digits that follow complete the number that the digits so far stand for.
use Rattle.std.proofs.Common.{arith, ◌∙◌}
use Rattle.spelling.proofs.Digits.{digit_at, value_more, value_small, value_fits}
use Rattle.spelling.proofs.value_of.Goals as goal

pub overflow_mul-value : goal.overflow_mul-value
overflow_mul-value c =
    let l = c.loop-b in
    omega (arith, value_fits c.args.digits.now l.b-index l.value 0 l.invariant.small (omega arith) (omega (arith, c.requires.few)))

pub overflow_add-value : goal.overflow_add-value
overflow_add-value c =
    let l = c.loop-b in
    let d = digit_at c.args.digits.now l.b-index c.loop-b-test.true c.requires.are_digits in
    record { fits = value_fits c.args.digits.now l.b-index l.value c.from.result l.invariant.small (omega (arith, c.from.ensures)) (omega (arith, c.requires.few)) }

pub loop-b-preserved : goal.loop-b-preserved
loop-b-preserved c =
    let l = c.loop-b in
    let d = digit_at c.args.digits.now l.b-index c.loop-b-test.true c.requires.are_digits in
    record {
      worth = value_more c.args.digits.now l.b-index l.value c.from.result c.loop-b-test.true c.from.ensures ∙ l.invariant.worth;
      small = value_small c.args.digits.now l.b-index l.value c.from.result l.invariant.small (omega (arith, c.from.ensures));
    }
