-- One number of the answer for each phase of a job, for the benchmark. A buyer need not read it.
use Rattle.std.specs.Prelude.{ℕ, zero, suc, get_or}
use Rattle.fill.specs.declared.Verdict.{Verdict}
use Rattle.fill.specs.Judge.{verdict_numbers}
use Rattle.jobfile.specs.File.{Outcome, refused, accepted}
use Rattle.answers.specs.declared.Answer.{Answer}
use Rattle.unit.specs.Whole.{answer_of}

-- the first of a verdict's numbers
abbrev pub verdict_number : Verdict → ℕ
verdict_number v = get_or (verdict_numbers v) 0 0

-- phase 1: the greatest area; 2: the ceiling; 3: the low end; 4: the verdict; 5: the positions within; any other: 0
abbrev pub phase_number : ℕ → Answer → ℕ
phase_number zero a = 0
phase_number (suc zero) a = a.exact.greatest.area
phase_number (suc (suc zero)) a = a.greatest.last.limit
phase_number (suc (suc (suc zero))) a = a.least.last.limit
phase_number (suc (suc (suc (suc zero)))) a = verdict_number a.verdict
phase_number (suc (suc (suc (suc (suc zero))))) a = a.positions.within
phase_number (suc (suc (suc (suc (suc (suc n)))))) a = 0

-- a refused file has no phases
abbrev pub phase_of : ℕ → Outcome → ℕ
phase_of k (refused number line) = 0
phase_of k (accepted st) = phase_number k (answer_of st)
