-- What accepted and refused mean, under some limits, without reading a line: a file is the spellings of good forms in turn, up to (end), or it
-- has a first fault. `Acceptance` says that `outcome_of` gives just this, so a buyer need not follow `form_of` and `read_lines`.
use Rattle.std.specs.Prelude.{ℕ, ◌+◌, ◌≤◌, ◌<◌, ◌≡◌, true, List, [], ◌∷◌, ◌++◌, length}
use Rattle.spelling.specs.Decimal.{EachShort}
use Rattle.spelling.specs.Text.{feedless}
use Rattle.forms.specs.declared.Form.{Form}
use Rattle.forms.specs.Limits.{Limits, Widened}
use Rattle.lines.specs.Spellings.{numbers_of, spelling_of, Spells}
use Rattle.standing.specs.declared.Turn.TheVariants.{Done}
use Rattle.standing.specs.Faults.{Standing, before_head, line_fault, stands_after}
use Rattle.jobfile.specs.File.{refused, accepted, outcome_of}

-- ---- good forms, and faults

-- the text of forms: each one's spelling with its line feed
unfoldable pub forms_text : List Form → List ℕ
forms_text [] = []
forms_text (f ∷ fs) = spelling_of f ++ (10 ∷ forms_text fs)

-- every form is good where it stands: from the first standing they lead to the second
pub data Good (limits : Limits) : Standing → List Form → Standing → Type 0 where
  none : {st : Standing} → Good limits st [] st
  next : {st st' : Standing} {f : Form} {fs : List Form} → EachShort limits.digits (numbers_of f) → line_fault limits st f ≡ 0 →
      Good limits (stands_after st f) fs st' → Good limits st (f ∷ fs) st'

-- the fault of a line that has its line feed, 0 for none: that of the form that it spells, or 2 where it spells none
pub data LineFault (limits : Limits) (st : Standing) (line : List ℕ) : ℕ → Type 0 where
  spelled : {f : Form} → Spells limits line f → LineFault limits st line (line_fault limits st f)
  unspelled : ((f : Form) → Spells limits line f → ⊥) → LineFault limits st line 2

-- the first fault of a text by number and line, where st stands before it and its first line is line k; of a file these are `before_head` and 1
pub data FirstFault (limits : Limits) (st : Standing) (k : ℕ) (s : List ℕ) : (number line : ℕ) → Type 0 where
  -- good forms and then a line with a fault
  faulty : (fs : List Form) {st' : Standing} {number : ℕ} (line after : List ℕ) → s ≡ forms_text fs ++ (line ++ (10 ∷ after)) → feedless line ≡ true →
      Good limits st fs st' → LineFault limits st' line number → (number ≡ 0 → ⊥) → FirstFault limits st k s number (length fs + k)
  -- good forms and then a line without a line feed
  unfed : (fs : List Form) {st' : Standing} (line : List ℕ) → s ≡ forms_text fs ++ line → feedless line ≡ true → 0 < length line →
      Good limits st fs st' → FirstFault limits st k s 2 (length fs + k)
  -- good forms and no (end)
  unended : (fs : List Form) {st' : Standing} → s ≡ forms_text fs → Good limits st fs st' → (st'.turn ≡ Done → ⊥) → FirstFault limits st k s 12 (length fs + k)

-- ---- the whole file

-- a file is accepted with what stands at its end: it is the spellings of good forms, up to (end)
pub record AcceptedFile (limits : Limits) (file : List ℕ) (st : Standing) : Type 0 where
  pub forms : List Form
  pub fits : length file ≤ limits.bytes
  pub text : file ≡ forms_text forms
  pub good : Good limits before_head forms st
  pub ended : st.turn ≡ Done

-- a file is refused: it is too long, or its lines have a first fault
pub data RefusedFile (limits : Limits) (file : List ℕ) : (number line : ℕ) → Type 0 where
  long : limits.bytes < length file → RefusedFile limits file 1 0
  lines : {number line : ℕ} → length file ≤ limits.bytes → FirstFault limits before_head 1 file number line → RefusedFile limits file number line

-- ---- what is promised of every file; proofs/Files.antt and proofs/Widening.antt prove it for all limits

-- a file is accepted, or refused with a number and a line, exactly if it is so as said above
pub record Acceptance (limits : Limits) (file : List ℕ) : Type 0 where
  pub accepted_if : (st : Standing) → AcceptedFile limits file st → outcome_of limits file ≡ accepted st
  pub accepted_only_if : (st : Standing) → outcome_of limits file ≡ accepted st → AcceptedFile limits file st
  pub refused_if : (number line : ℕ) → RefusedFile limits file number line → outcome_of limits file ≡ refused number line
  pub refused_only_if : (number line : ℕ) → outcome_of limits file ≡ refused number line → RefusedFile limits file number line

-- where limits are widened, every file that was accepted still is, with the same standing
abbrev pub Widening : Type 0
Widening = (old new : Limits) → Widened old new → (file : List ℕ) (st : Standing) → outcome_of old file ≡ accepted st → outcome_of new file ≡ accepted st
