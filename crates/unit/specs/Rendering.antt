-- What rendering a file gives. A buyer need not read it.
use Rattle.std.specs.Prelude.{ℕ, ◌≡◌, Result, Ok, Err}
use Rattle.arrayvec.specs.ArrayVec.{ArrayVec}
use Rattle.answers.specs.Lines.{text_of}
use Rattle.jobfile.specs.declared.Refusal.{Refusal}
use Rattle.jobfile.specs.File.{Outcome, refused, accepted}
use Rattle.unit.specs.Whole.{answer_of, Refused, reply_of}

-- the answer's text where the file is accepted, else what it is refused for
abbrev pub Rendering : Outcome → Result (ArrayVec ℕ) Refusal → Type 0
Rendering (accepted st) (Ok text) = text.items ≡ text_of (answer_of st)
Rendering (accepted st) (Err e) = ⊥
Rendering (refused number line) (Ok text) = ⊥
Rendering (refused number line) (Err e) = reply_of (Err e) ≡ Refused number line
