-- `jobfile::read_lines` meets its contract. The loop's invariant: what stands and what is left come to what the whole file comes to. The measure is what
-- is left of the file. Assumes nothing.
use lib.ListN.{length}
use Rattle.jobfile.proofs.Lines.{ReadSoFar}
use Rattle.jobfile.proofs.read_lines.Given as goal

abbrev pub invariant-loop-rest : goal.invariant-loop-rest
invariant-loop-rest l = ReadSoFar l.file l.s l.line l.rest

abbrev pub decreases-loop-rest : goal.decreases-loop-rest
decreases-loop-rest l = length l.rest
