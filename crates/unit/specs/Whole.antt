-- The whole unit: from a file's bytes and the lent buffer to the reply and the buffer afterwards.
use Rattle.std.specs.Prelude.{ℕ, ◌+◌, ◌*◌, true, false, List, [], ◌∷◌, leb, length, Result, Ok, Err}
use Rattle.buffers.specs.Written.{at_front}
use Rattle.spelling.specs.Text.{bytes}
use Rattle.spelling.specs.Pattern.{spell}
use Rattle.forms.specs.Shapes.{rectangles}
use Rattle.forms.specs.Limits.{unit_limits}
use Rattle.standing.specs.Fault.{fault_number}
use Rattle.standing.specs.Faults.{Standing}
use Rattle.answers.specs.declared.Answer.{Answer}
use Rattle.jobfile.specs.File.{Outcome, refused, accepted, outcome_of}
use Rattle.jobfile.specs.declared.Refusal.{Refusal}
use Rattle.answers.specs.Lines.{text_of}
use Rattle.run.specs.Answering.{answer_for}

-- an accepted job is answered by the rectangles of all its shapes, drawn metal and dummies alike. Kinds and gaps play no part in it: they decide
-- on fault 11, and on where a placement may lie
abbrev pub answer_of : Standing → Answer
answer_of st = answer_for st.head (rectangles st.shapes) st.amounts

-- what the unit replies: the answer's length, or the number and line of the fault that the job was refused for; and how the code tells it
pub data Reply : Type 0 where
  Accepted : (length : ℕ) → Reply
  Refused : (number line : ℕ) → Reply

abbrev pub reply_of : Result ℕ Refusal → Reply
reply_of (Ok n) = Accepted n
reply_of (Err e) = Refused (fault_number e.fault) e.line

-- the reply to an outcome and a buffer of `room` bytes; 13: the buffer is shorter than the answer
abbrev pub reply_to : Outcome → ℕ → Reply
reply_to (refused number line) room = Refused number line
reply_to (accepted st) room =
    let n = length (text_of (answer_of st)) in elim (leb n room) [ true ↦ Accepted n | false ↦ Refused 13 0 ]

-- the buffer afterwards: the answer at its front if the job is accepted and the answer fits, else as it was
abbrev pub buffer_after : Outcome → List ℕ → List ℕ
buffer_after (refused number line) buffer = buffer
buffer_after (accepted st) buffer =
    let t = text_of (answer_of st) in elim (leb (length t) (length buffer)) [ true ↦ at_front t buffer | false ↦ buffer ]

-- from a file's bytes and the buffer's length to the reply, and from the file and the buffer to the buffer afterwards
abbrev pub reply_for : (file : List ℕ) (room : ℕ) → Reply
reply_for file room = reply_to (outcome_of unit_limits file) room

abbrev pub buffer_for : (file buffer : List ℕ) → List ℕ
buffer_for file buffer = buffer_after (outcome_of unit_limits file) buffer

-- the paper's number and values of a reply: an accepted one has the number 0 and the answer's length, a refused one the fault's number and line
abbrev pub reply_number : Reply → ℕ
reply_number (Accepted n) = 0
reply_number (Refused number line) = number

abbrev pub reply_value : Reply → ℕ
reply_value (Accepted n) = n
reply_value (Refused number line) = line

-- a reply as one number, for another language: 100000 × its number + its value
abbrev pub code_of : Reply → ℕ
code_of r = 100000 * reply_number r + reply_value r

-- what the program prints: the answer, or one line with the fault's number and line
abbrev pub printed_of : Outcome → List ℕ
printed_of (refused number line) = spell (bytes "(refused # #)\n") (number ∷ line ∷ [])
printed_of (accepted st) = text_of (answer_of st)

abbrev pub printed_for : (file : List ℕ) → List ℕ
printed_for file = printed_of (outcome_of unit_limits file)
