-- What the reader makes of a line, and how it tells a file's outcome. A buyer need not read it: no contract of the unit's public functions names it.
use Rattle.std.specs.Prelude.{ℕ, ◌+◌, ◌≡◌, true, false, List, ltb, length, take, Result, Ok, Err, IfOk, OnOk, OnErr, ⊤}
use Rattle.spelling.specs.Scanning.{line_length}
use Rattle.forms.specs.Limits.{Limits, unit_limits}
use Rattle.lines.specs.Reading.{form_of}
use Rattle.standing.specs.declared.fault.Fault.{Fault}
use Rattle.standing.specs.Fault.{fault_number, fault_code}
use Rattle.standing.specs.Faults.{Standing, line_fault, stands_after}
use Rattle.jobfile.specs.declared.Refusal.{Refusal}
use Rattle.jobfile.specs.File.{Outcome, refused, accepted}

-- the first line of what is left of a file
abbrev pub first_line : List ℕ → List ℕ
first_line rest = take (line_length rest) rest

-- its fault: 2 where it has no line feed
abbrev pub first_fault : Limits → Standing → List ℕ → ℕ
first_fault m st rest = elim (ltb (line_length rest) (length rest)) [ true ↦ line_fault m st (form_of m (first_line rest)) | false ↦ 2 ]

-- the first line of what is left was read, and entered where it is good; else the same stands as before
pub record LineRead (rest : List ℕ) (st : Standing) (r : Result ℕ Fault) (st' : Standing) : Type 0 where
  pub fault : fault_code r ≡ first_fault unit_limits st rest
  pub used : IfOk r (λ n. n ≡ line_length rest + 1)
  pub good : OnOk r (st' ≡ stands_after st (form_of unit_limits (first_line rest)))
  pub bad : OnErr r (st' ≡ st)

-- the outcome that the reader tells, by whether it refuses and what stands then
abbrev pub told_by : Result ⊤ Refusal → Standing → Outcome
told_by (Ok u) st = accepted st
told_by (Err e) st = refused (fault_number e.fault) e.line

-- the same where what stands comes with it
abbrev pub told : Result Standing Refusal → Outcome
told (Ok st) = accepted st
told (Err e) = refused (fault_number e.fault) e.line
