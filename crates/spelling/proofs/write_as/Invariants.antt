-- The invariant: what the rest of the pattern spells with the numbers left, behind what is written, makes the whole.
use Rattle.spelling.proofs.Writing.{WrittenTo}
use Rattle.spelling.proofs.write_as.Given as goal

abbrev pub invariant-loop-c : goal.invariant-loop-c
invariant-loop-c g l = WrittenTo l.pattern l.values l.initial.text.items l.left l.c-index l.text.items
