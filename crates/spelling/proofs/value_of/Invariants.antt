-- The invariant: the digits that follow complete the number that the digits so far stand for.
use Rattle.std.proofs.Common.{◌≡◌, ◌<◌, ◌^◌, drop}
use Rattle.spelling.specs.Decimal.{value_from}
use Rattle.spelling.proofs.value_of.Given as goal

abbrev pub invariant-loop-b : goal.invariant-loop-b
invariant-loop-b l = record {
  worth : value_from l.value (drop l.b-index l.digits) ≡ value_from 0 l.digits;
  small : l.value < 10 ^ l.b-index;
}
