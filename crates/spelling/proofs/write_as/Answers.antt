-- The invariant: what the rest of the pattern spells with the numbers left, behind what is written, makes the whole.
use Rattle.std.proofs.Common.{arith, inl, inr, rules, ◌≡◌, ◌++◌, ◌∷◌, [], get_or}
use Rattle.std.proofs.lemmas.Grind.{common_steps}
use Rattle.spelling.proofs.Writing.{number_fits, number_written, byte_fits, byte_written, all_written}
use Rattle.spelling.proofs.write_as.Goals as goal
use Rattle.spelling.proofs.write_as.Goals.{in-Some, in_default, in_default-via-in-Some+else-c-eq35, in_default-via-in_default}

pub write_number-requires : goal.write_number-requires
write_number-requires g c =
    (search rules, number_fits c.loop-c.invariant c.loop-c-test.true c.in-Some.ensures.cases.0 c.if-c-eq35.true c.requires)

pub push-requires : goal.push-requires
push-requires g c = elim c.in_default.branch [
  | in_default-via-in-Some+else-c-eq35 w ↦ (search rules, byte_fits c.loop-c.invariant c.loop-c-test.true (inr w.if-c-eq35.false) c.requires)
  | in_default-via-in_default w ↦ (search rules, byte_fits c.loop-c.invariant c.loop-c-test.true (inl w.in_default.ensures.cases) c.requires)
]

pub loop-c-preserved : goal.loop-c-preserved
loop-c-preserved g c = elim c.match-split_first.branch [
  | in-Some w ↦
      rw (w.text-is, w.left-is, w.write_number.ensures)
      (number_written c.loop-c.invariant c.loop-c-test.true w.in-Some.ensures.cases.0 w.if-c-eq35.true)
  | in_default w ↦
      let more : c.match-split_first.text.items ≡ c.loop-c.text.items ++ (get_or c.args.pattern.now c.loop-c.c-index 0 ∷ []) = grind (arith, common_steps) in
      rw (more, w.left-is) (elim w.in_default.branch [
        | in_default-via-in-Some+else-c-eq35 k ↦ byte_written c.loop-c.invariant c.loop-c-test.true (inr k.if-c-eq35.false)
        | in_default-via-in_default k ↦ byte_written c.loop-c.invariant c.loop-c-test.true (inl k.in_default.ensures.cases)
      ])
]

pub returns : goal.returns
returns g c = all_written c.loop-c.invariant c.loop-c-test.false
