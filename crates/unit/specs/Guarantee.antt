-- Start here: what a buyer may rely on, for every file and every lent buffer. The contracts of src/lib.rt cite it, so it binds the code; the last
-- definitions are laws about files, and proofs/Alike.antt proves them.
--
-- Determined by the definitions, but nothing more is promised of it: "undecided" says neither that the fill is safe nor that some placement
-- breaks a bound, and the start that it names need not be the worst, nor need the one that "broken" names; kept counts starts and not windows,
-- and may be positive after "met"; after "stopped", or after "met" with a large accuracy, the ends of a bracket may be far apart; where those
-- of the greatest differ, density, their middle, need not be that of any window and may pass 10000 (how far it may be off is promised); of the
-- positions that fail a bound there is their number and not where they are, and planned fill is not in it, so some may be under L after "safe". Of a
-- refused file there is its first fault and a buffer as it was. Time, stack and what the program reads and writes stand in no contract.
use Rattle.std.specs.Prelude.{ℕ, ◌≤◌, ◌<◌, ◌≡◌, List, length, take}
use Rattle.buffers.specs.Written.{Front}
use Rattle.forms.specs.declared.Gap.{Gap}
use Rattle.forms.specs.declared.Head.{Head}
use Rattle.forms.specs.Limits.{unit_limits, earlier_limits}
use Rattle.standing.specs.Faults.{Standing}
use Rattle.jobfile.specs.File.{accepted, outcome_of}
use Rattle.jobfile.specs.Acceptance.{AcceptedFile, Acceptance}
use Rattle.jobfile.specs.Gaps.{file_with, MayBegin, SameGaps}
use Rattle.jobfile.specs.SquareCorners.{AcceptedBefore}
use Rattle.unit.specs.Whole.{answer_of, Reply, reply_to, buffer_after, reply_for, buffer_for, reply_number, reply_value, printed_of, printed_for}
use Rattle.answers.specs.Room.{answer_room}
use Rattle.unit.specs.Promise.{Promises}

-- what is promised of every file: what accepted and refused mean, and of an accepted one what its answer says (demand 3)
pub record FilePromise (file : List ℕ) : Type 0 where
  pub meaning : Acceptance unit_limits file
  pub promises : (st : Standing) → AcceptedFile unit_limits file st → Promises st (answer_of st)

-- the unit was given a file and lent a buffer: what it replied, and every byte of the buffer afterwards
pub record Guarantee (file before : List ℕ) (r : Reply) (after : List ℕ) : Type 0 where
  pub reply : r ≡ reply_for file (length before)
  pub buffer : after ≡ buffer_for file before
  -- the answer in the buffer is what the program prints for the file
  pub printed : reply_number r ≡ 0 → take (reply_value r) after ≡ printed_for file
  -- a reply that is told as one number can be read off in decimal
  pub decodes : reply_value r < 100000
  -- a buffer of `answer_room` bytes is never too short
  pub room_enough : answer_room ≤ length before → reply_number r ≡ 13 → ⊥
  pub promised : FilePromise file

-- the program was given a file: what it prints stands at the front of its own buffer, in n bytes
pub record Reported (file before : List ℕ) (n : ℕ) (after : List ℕ) : Type 0 where
  pub printed : Front before (printed_for file) after n
  pub promised : FilePromise file

-- two files that differ in what the head says of gaps, and not in the gap of any kind of shape that they have, are printed alike, where
-- both heads may begin a file: D plays no part where no line is a dummy, B none where no line is drawn metal, and (gap B) is (gap B B)
abbrev pub PrintedAlike : Type 0
PrintedAlike = (h : Head) (g g' : Gap) (rest : List ℕ) → MayBegin unit_limits h g rest → MayBegin unit_limits h g' rest → SameGaps unit_limits g g' rest →
    printed_for (file_with h g' rest) ≡ printed_for (file_with h g rest)

-- a file is answered by what stands at its end: it is accepted with that, and what is printed, the reply to a buffer of any length and every byte of
-- the buffer are those of this outcome
pub record AnsweredBy (file : List ℕ) (st : Standing) : Type 0 where
  pub meaning : AcceptedFile unit_limits file st
  pub printed : printed_for file ≡ printed_of (accepted st)
  pub reply : (room : ℕ) → reply_for file room ≡ reply_to (accepted st) room
  pub buffer : (before : List ℕ) → buffer_for file before ≡ buffer_after (accepted st) before

-- document 02, request 8: a file that came to `accepted st` under the earlier limits still does. So its answer is kept, byte for byte, and so is the reply
-- to every buffer
abbrev pub AnswersKept : Type 0
AnswersKept = (file : List ℕ) (st : Standing) → outcome_of earlier_limits file ≡ accepted st → AnsweredBy file st

-- document 02, request 6: the same of a file that was accepted under the earlier limits while corner gaps were square. No fillable area enters an
-- answer, so the test of corners changes none of its lines, the verdict's neither
abbrev pub AnsweredAsBefore : Type 0
AnsweredAsBefore = (file : List ℕ) (st : Standing) → AcceptedBefore earlier_limits file st → AnsweredBy file st
