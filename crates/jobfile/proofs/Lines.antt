-- The lines of a file one by one: what the reader has passed and what is left.
use Prim.Native.Nat.{ℕ, suc, ◌+◌, ◌-◌, ◌≤◌, ◌<◌}
use mathlib.Core.Path.{◌≡◌, refl, sym, ap, ap₂, ◌∙◌, subst}
use mathlib.Core.Bool.{Bool, true, false}
use mathlib.Core.List.{List, [], ◌∷◌}
use native.Mathlib.Numerals.{add-one}
use native.Mathlib.Omega.{arith}
use lib.Dec.{ltb, eqb}
use lib.ListN.{length, take, drop, length-drop}
use lib.Seq.{take_all}
use borrow.Author.Tests.{lt-ltb, le-ltb, le-leb, lt-leb, ltb-true, ltb-false, eq-eqb, ne_eqb, eqb-true, eqb-false}
use Rattle.spelling.specs.Text.{in_front, pieces}
use Rattle.spelling.specs.Scanning.{line_length}
use Rattle.spelling.proofs.Lines.{pieces_line, pieces_last}
use Rattle.forms.specs.Limits.{Limits, unit_limits}
use Rattle.lines.specs.Reading.{form_of}
use Rattle.standing.specs.declared.fault.Fault.{Fault}
use Rattle.standing.specs.Fault.{fault_number}
use Rattle.standing.proofs.Faultless.{numbered}
use Rattle.std.specs.Prelude.{Ok, Err}
use Rattle.standing.specs.declared.Turn.{Turn}
use Rattle.standing.specs.declared.Turn.TheVariants.{Before, Shapes, Fills, Done}
use Rattle.standing.specs.Faults.{Standing, before_head, line_fault, stands_after}
use Rattle.jobfile.specs.File.{Outcome, refused, at_end, after_last, read_lines, outcome_of}
use Rattle.jobfile.specs.Lined.{first_line, first_fault, LineRead}

-- ---- one line more

pub record FirstPiece (s : List ℕ) : Type 0 where
  pub first : List ℕ
  pub others : List (List ℕ)
  pub all : pieces s ≡ first ∷ others

-- a text has a first piece
pub first_piece : (s : List ℕ) → FirstPiece s
unfolding pieces
first_piece [] = record { first = []; others = []; all = refl }
first_piece (b ∷ s) = go (eqb b 10) refl (first_piece s)
  where
    go : (x : Bool) → eqb b 10 ≡ x → FirstPiece s → FirstPiece (b ∷ s)
    go true e p = record { first = []; others = pieces s; all = rw (e, pieces) }
    go false e p = record { first = b ∷ p.first; others = p.others; all = rw (e, pieces) (ap (in_front b) p.all) }

-- what reading comes to after a line that has a line feed, the pieces after it given
abbrev pub after_line : Limits → Standing → ℕ → List ℕ → List (List ℕ) → Outcome
after_line m st k line ps =
    elim (eqb (line_fault m st (form_of m line)) 0) [
      | true ↦ read_lines m (stands_after st (form_of m line)) (suc k) ps
      | false ↦ refused (line_fault m st (form_of m line)) k
    ]

pub read_next : (m : Limits) (st : Standing) (k : ℕ) (line s : List ℕ) → read_lines m st k (line ∷ pieces s) ≡ after_line m st k line (pieces s)
unfolding read_lines
read_next m st k line s = subst (λ (ps : List (List ℕ)). read_lines m st k (line ∷ ps) ≡ after_line m st k line ps) (sym (first_piece s).all) refl

pub good_next : (m : Limits) (st : Standing) (k : ℕ) (line s : List ℕ) → line_fault m st (form_of m line) ≡ 0 →
    read_lines m st k (line ∷ pieces s) ≡ read_lines m (stands_after st (form_of m line)) (suc k) (pieces s)
good_next m st k line s e = read_next m st k line s ∙ rw (eq-eqb (line_fault m st (form_of m line)) 0 e, after_line)

pub bad_next : (m : Limits) (st : Standing) (k : ℕ) (line s : List ℕ) → (line_fault m st (form_of m line) ≡ 0 → ⊥) →
    read_lines m st k (line ∷ pieces s) ≡ refused (line_fault m st (form_of m line)) k
bad_next m st k line s n = read_next m st k line s ∙ rw (ne_eqb (line_fault m st (form_of m line)) 0 n, after_line)

pub read_last : (m : Limits) (st : Standing) (k : ℕ) (s : List ℕ) → read_lines m st k (s ∷ []) ≡ after_last st k s
unfolding read_lines
read_last m st k s = refl

module _ (m : Limits) (st : Standing) (k : ℕ) (rest : List ℕ) where
  pub fed_fault : line_length rest < length rest → first_fault m st rest ≡ line_fault m st (form_of m (first_line rest))
  fed_fault h = rw (lt-ltb (line_length rest) (length rest) h, first_fault)

  pub unfed_fault : length rest ≤ line_length rest → first_fault m st rest ≡ 2
  unfed_fault h = rw (le-ltb (line_length rest) (length rest) h, first_fault)

  -- a good line has a line feed
  pub good_fed : first_fault m st rest ≡ 0 → line_length rest < length rest
  good_fed e = go (ltb (line_length rest) (length rest)) refl
    where
      go : (x : Bool) → ltb (line_length rest) (length rest) ≡ x → line_length rest < length rest
      go true q = ltb-true (line_length rest) (length rest) q
      go false q = absurd (omega (arith, e, unfed_fault (ltb-false (line_length rest) (length rest) q)))

  pub line_good : first_fault m st rest ≡ 0 →
      read_lines m st k (pieces rest) ≡ read_lines m (stands_after st (form_of m (first_line rest))) (suc k) (pieces (drop (suc (line_length rest)) rest))
  line_good e =
      ap (read_lines m st k) (pieces_line rest (good_fed e))
      ∙ good_next m st k (first_line rest) (drop (suc (line_length rest)) rest) (sym (fed_fault (good_fed e)) ∙ e)

  pub line_bad : 0 < length rest → (first_fault m st rest ≡ 0 → ⊥) → read_lines m st k (pieces rest) ≡ refused (first_fault m st rest) k
  line_bad h n = go (ltb (line_length rest) (length rest)) refl
    where
      last : (s : List ℕ) → 0 < length s → after_last st k s ≡ refused 2 k
      last [] h = absurd (omega arith)
      last (b ∷ s) h = refl

      go : (x : Bool) → ltb (line_length rest) (length rest) ≡ x → read_lines m st k (pieces rest) ≡ refused (first_fault m st rest) k
      go true q =
          let f = fed_fault (ltb-true (line_length rest) (length rest) q) in
          ap (read_lines m st k) (pieces_line rest (ltb-true (line_length rest) (length rest) q))
          ∙ bad_next m st k (first_line rest) (drop (suc (line_length rest)) rest) (λ z. n (f ∙ z))
          ∙ ap (λ (n : ℕ). refused n k) (sym f)
      go false q =
          let f = unfed_fault (ltb-false (line_length rest) (length rest) q) in
          ap (read_lines m st k) (pieces_last rest (ltb-false (line_length rest) (length rest) q)) ∙ read_last m st k rest ∙ last rest h ∙ ap (λ (n : ℕ). refused n k) (sym f)

-- ---- what was read, and what is left of the file

pub record ReadSoFar (file : List ℕ) (st : Standing) (line : ℕ) (rest : List ℕ) : Type 0 where
  -- there are no more lines than bytes
  pub lines : line + length rest ≤ length file + 1
  pub whole : read_lines unit_limits before_head 1 (pieces file) ≡ read_lines unit_limits st line (pieces rest)

module _ (file : List ℕ) (st : Standing) (line : ℕ) (rest : List ℕ) (k : ReadSoFar file st line rest) (st' : Standing) where
  -- one good line more
  pub read_so_far_next : (n : ℕ) → LineRead rest st (Ok n) st' → ReadSoFar file st' (line + 1) (drop n rest)
  read_so_far_next n read =
      record {
        lines = omega (arith, feed, read.used, length-drop n rest, k.lines);
        whole =
            k.whole ∙ line_good unit_limits st line rest (sym read.fault)
            ∙ ap₂ (λ (x : Standing) (n : ℕ). read_lines unit_limits x (suc line) (pieces (drop n rest))) (sym read.good) (sym (read.used ∙ add-one (line_length rest)))
            ∙ ap (λ (i : ℕ). read_lines unit_limits st' i (pieces (drop n rest))) (sym (add-one line));
      }
    where
      feed : line_length rest < length rest
      feed = good_fed unit_limits st line rest (sym read.fault)

  -- a faulty line ends the reading
  pub read_so_far_bad : (f : Fault) → eqb (length rest) 0 ≡ false → LineRead rest st (Err f) st' →
      refused (fault_number f) line ≡ read_lines unit_limits before_head 1 (pieces file)
  read_so_far_bad f h read =
      ap (λ (m : ℕ). refused m line) read.fault
      ∙ sym (line_bad unit_limits st line rest (let n = eqb-false (length rest) 0 h in omega arith) (λ z. omega (arith, numbered f, read.fault, z)))
      ∙ sym k.whole

-- the end of the file
pub read_so_far_end : (file : List ℕ) (st : Standing) (line : ℕ) (rest : List ℕ) → ReadSoFar file st line rest → eqb (length rest) 0 ≡ true →
    at_end st.turn line st ≡ read_lines unit_limits before_head 1 (pieces file)
unfolding pieces read_lines
read_so_far_end file st line rest k none_left =
    sym (k.whole ∙ ap (λ (r : List ℕ). read_lines unit_limits st line (pieces r)) (empty rest (eqb-true (length rest) 0 none_left)))
  where
    empty : (l : List ℕ) → length l ≡ 0 → l ≡ []
    empty [] h = refl
    empty (a ∷ l) h = absurd (omega arith)

-- where no (end) was read
pub unended_end : (t : Turn) (k : ℕ) (st : Standing) → (t ≡ Done → ⊥) → at_end t k st ≡ refused 12 k
unended_end Before k st n = refl
unended_end Shapes k st n = refl
unended_end Fills k st n = refl
unended_end Done k st n = absurd (n refl)

-- the part of a list from a place to its end
pub from_place : (l : List ℕ) (n : ℕ) → take (length l - n) (drop n l) ≡ drop n l
from_place l n = take_all (length l - n) (drop n l) (omega (arith, length-drop n l))

-- ---- the whole file

pub too_long : (m : Limits) (file : List ℕ) → m.bytes < length file → refused 1 0 ≡ outcome_of m file
unfolding outcome_of
too_long m file h = rw (lt-leb (length file) m.bytes h, outcome_of)

pub short_enough : (m : Limits) (file : List ℕ) → length file ≤ m.bytes → read_lines m before_head 1 (pieces file) ≡ outcome_of m file
unfolding outcome_of
short_enough m file h = rw (le-leb (length file) m.bytes h, outcome_of)
