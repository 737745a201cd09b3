-- The invariant: the numbers found so far, zeros behind them in the table, are in front of what the rest of the pattern reads in the rest of the line what the whole reads.
use Rattle.spelling.proofs.Progress.{ReadTo}
use Rattle.spelling.proofs.read_as.Given as goal

abbrev pub invariant-loop-c : goal.invariant-loop-c
invariant-loop-c g l = ReadTo l.most g.row.N l.pattern l.line l.values l.count l.c-index l.rest
