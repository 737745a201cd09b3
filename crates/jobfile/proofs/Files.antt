-- What a file comes to, in terms of the forms that it spells: accepted exactly if it spells good forms up to an (end), else refused with its
-- first fault. For all limits.
use Prim.Native.Nat.{ℕ, zero, suc, ◌+◌, ◌≤◌, ◌<◌}
use mathlib.Core.Path.{◌≡◌, refl, sym, ap, ◌∙◌, subst}
use mathlib.Core.Bool.{Bool, true, false, false≢true}
use mathlib.Core.List.{List, [], ◌∷◌, ◌++◌, append_assoc, append-nil}
use native.Mathlib.Nat.{zero-add, le_refl}
use native.Mathlib.Omega.{arith}
use lib.Dec.{leb, ltb, eqb}
use lib.Seq.{take_all}
use lib.ListN.{length, drop, length-drop}
use borrow.Author.Tests.{eqb-true, eqb-false, leb-true, leb-false, ltb-true, ltb-false}
use Rattle.spelling.specs.Text.{in_front, pieces, feedless}
use Rattle.spelling.specs.Decimal.{EachShort}
use Rattle.spelling.specs.Scanning.{line_length}
use Rattle.spelling.proofs.Feedless.{feedless_first}
use Rattle.forms.specs.declared.Form.{Form}
use Rattle.forms.specs.Limits.{Limits}
use Rattle.forms.specs.Forms.{known}
use Rattle.lines.specs.Spellings.{numbers_of, spelling_of, Spells}
use Rattle.lines.specs.Reading.{form_of}
use Rattle.lines.proofs.Spelled.{form_spelled, spelling_read, spells_read, spelling_feedless}
use Rattle.standing.specs.declared.Turn.{Turn}
use Rattle.standing.specs.declared.Turn.TheVariants.{Before, Shapes, Fills, Done}
use Rattle.standing.specs.Faults.{Standing, before_head, line_fault, stands_after}
use Rattle.jobfile.specs.File.{Outcome, refused, accepted, at_end, after_last, read_lines, outcome_of}
use Rattle.jobfile.specs.Acceptance.{forms_text, Good, none, next, LineFault, spelled, unspelled, FirstFault, faulty, unfed, unended, AcceptedFile, RefusedFile, long, lines, Acceptance}
use Rattle.jobfile.specs.Lined.{first_line, first_fault}
use Rattle.standing.proofs.Faultless.{no_fault}
use Rattle.jobfile.proofs.Lines.{unended_end, good_next, bad_next, read_last, good_fed, fed_fault, unfed_fault, line_good, line_bad, too_long, short_enough}

-- ---- a good form is a good line

-- a form without a fault is read from its spelling
good_read : (m : Limits) (st : Standing) (f : Form) → EachShort m.digits (numbers_of f) → line_fault m st f ≡ 0 → form_of m (spelling_of f) ≡ f
good_read m st f short e = spelling_read m f (no_fault m st f e).spelled short

-- a line without a fault spells its form
good_spells : (m : Limits) (st : Standing) (line : List ℕ) → line_fault m st (form_of m line) ≡ 0 → Spells m line (form_of m line)
good_spells m st line e = form_spelled m line (no_fault m st (form_of m line) e).spelled

-- ---- the fault of a line is that of the form that is read from it

unknown_fault : (m : Limits) (st : Standing) (f : Form) → known f ≡ false → line_fault m st f ≡ 2
unfolding line_fault
unknown_fault m st f e = rw e

line_fault_lem : (m : Limits) (st : Standing) (line : List ℕ) → LineFault m st line (line_fault m st (form_of m line))
line_fault_lem m st line = go (known (form_of m line)) refl
  where
    go : (x : Bool) → known (form_of m line) ≡ x → LineFault m st line (line_fault m st (form_of m line))
    go true e = spelled (form_spelled m line e)
    go false e =
        rw (unknown_fault m st (form_of m line) e)
        (unspelled (λ f s. false≢true (sym e ∙ ap known (spells_read m line f s) ∙ s.is_known)))

line_fault_is : (m : Limits) (st : Standing) (line : List ℕ) (number : ℕ) → LineFault m st line number → line_fault m st (form_of m line) ≡ number
line_fault_is m st line number (spelled {f = f} s) = ap (line_fault m st) (spells_read m line f s)
line_fault_is m st line number (unspelled no-form) = go (known (form_of m line)) refl
  where
    go : (x : Bool) → known (form_of m line) ≡ x → line_fault m st (form_of m line) ≡ 2
    go true e = absurd (no-form (form_of m line) (form_spelled m line e))
    go false e = unknown_fault m st (form_of m line) e

-- ---- a text as it is read

-- what a text comes to where st stands before it and its first line is line k: good forms up to an (end), or a first fault
data Comes (m : Limits) (st : Standing) (k : ℕ) (s : List ℕ) : Outcome → Type 0 where
  ends : (fs : List Form) {st' : Standing} → s ≡ forms_text fs → Good m st fs st' → st'.turn ≡ Done → Comes m st k s (accepted st')
  faults : {number line : ℕ} → FirstFault m st k s number line → Comes m st k s (refused number line)

-- the pieces of a text that begins with a line
pub pieces_first : (line s : List ℕ) → feedless line ≡ true → pieces (line ++ (10 ∷ s)) ≡ line ∷ pieces s
unfolding pieces
pieces_first [] s e = refl
pieces_first (b ∷ line) s e = let k = feedless_first b line e in rw (k.0, pieces) (ap (in_front b) (pieces_first line s k.1))

-- a line later is one form more
later : (n k : ℕ) → n + suc k ≡ suc n + k
later n k = omega arith

-- good forms are forms_passed
pass : {m : Limits} {st st' : Standing} {fs : List Form} → Good m st fs st' → (k : ℕ) (rest : List ℕ) →
    read_lines m st k (pieces (forms_text fs ++ rest)) ≡ read_lines m st' (length fs + k) (pieces rest)
unfolding forms_text
pass {m = m} (none {st = x}) k rest = ap (λ (n : ℕ). read_lines m x n (pieces rest)) (sym (zero-add k))
pass {m = m} (next {st = x} {st' = y} {f = f} {fs = fs} short e g) k rest =
    ap (λ (t : List ℕ). read_lines m x k (pieces t)) (append_assoc (spelling_of f) (10 ∷ forms_text fs) rest)
    ∙ ap (read_lines m x k) (pieces_first (spelling_of f) (forms_text fs ++ rest) (spelling_feedless f))
    ∙ good_next m x k (spelling_of f) (forms_text fs ++ rest) (rw same e)
    ∙ ap (λ (h : Form). read_lines m (stands_after x h) (suc k) (pieces (forms_text fs ++ rest))) same
    ∙ pass g (suc k) rest
    ∙ ap (λ (n : ℕ). read_lines m y n (pieces rest)) (later (length fs) k)
  where
    same : form_of m (spelling_of f) ≡ f
    same = good_read m x f short e

-- the pieces of a text without a line feed
pieces_feedless : (s : List ℕ) → feedless s ≡ true → pieces s ≡ s ∷ []
unfolding pieces
pieces_feedless [] e = refl
pieces_feedless (b ∷ s) e = let k = feedless_first b s e in rw (k.0, pieces) (ap (in_front b) (pieces_feedless s k.1))

after_some : (st : Standing) (k : ℕ) (s : List ℕ) → 0 < length s → after_last st k s ≡ refused 2 k
after_some st k [] h = absurd (omega arith)
after_some st k (b ∷ s) h = refl

-- nothing is left after good forms
forms_passed : {m : Limits} {st st' : Standing} {fs : List Form} (k : ℕ) (s : List ℕ) → s ≡ forms_text fs → Good m st fs st' →
    read_lines m st k (pieces s) ≡ at_end st'.turn (length fs + k) st'
unfolding pieces
forms_passed {m = m} {st = x} {st' = y} {fs = fs} k s e g =
    ap (λ (t : List ℕ). read_lines m x k (pieces t)) (e ∙ sym (append-nil (forms_text fs))) ∙ pass g k [] ∙ read_last m y (length fs + k) []

-- something is left after good forms
left : {m : Limits} {st st' : Standing} {fs : List Form} (k : ℕ) (s rest : List ℕ) → s ≡ forms_text fs ++ rest → Good m st fs st' →
    read_lines m st k (pieces s) ≡ read_lines m st' (length fs + k) (pieces rest)
left {m = m} {st = x} k s rest e g = ap (λ (t : List ℕ). read_lines m x k (pieces t)) e ∙ pass g k rest

first_fault_lem : {m : Limits} {st : Standing} {k : ℕ} {s : List ℕ} {number line : ℕ} → FirstFault m st k s number line →
    read_lines m st k (pieces s) ≡ refused number line
first_fault_lem {m = m} {k = k} {s = s} (faulty fs {st' = y} {number = number} line after e f g fault n) =
    left k s (line ++ (10 ∷ after)) e g
    ∙ ap (read_lines m y (length fs + k)) (pieces_first line after f)
    ∙ bad_next m y (length fs + k) line after (λ z. n (sym same ∙ z))
    ∙ ap (λ (i : ℕ). refused i (length fs + k)) same
  where
    same : line_fault m y (form_of m line) ≡ number
    same = line_fault_is m y line number fault
first_fault_lem {m = m} {k = k} {s = s} (unfed fs {st' = y} line e f h g) =
    left k s line e g ∙ ap (read_lines m y (length fs + k)) (pieces_feedless line f) ∙ read_last m y (length fs + k) line ∙ after_some y (length fs + k) line h
first_fault_lem {k = k} {s = s} (unended fs {st' = y} e g n) = forms_passed k s e g ∙ unended_end y.turn (length fs + k) y n

-- ---- every text comes to something

feedless_line : (s : List ℕ) → feedless (first_line s) ≡ true
unfolding feedless line_length
feedless_line [] = refl
feedless_line (b ∷ s) = go (eqb b 10) refl (feedless_line s)
  where
    go : (x : Bool) → eqb b 10 ≡ x → feedless (first_line s) ≡ true → feedless (first_line (b ∷ s)) ≡ true
    go true e k = rw (e, first_line, line_length)
    go false e k = rw (e, first_line, line_length) (rw (e, k))

-- a line with its line feed, and what follows
line_stops : (b : ℕ) (s : List ℕ) → eqb b 10 ≡ true → line_length (b ∷ s) ≡ 0
unfolding line_length
line_stops b s e = rw (e, line_length)

line_goes : (b : ℕ) (s : List ℕ) → eqb b 10 ≡ false → line_length (b ∷ s) ≡ suc (line_length s)
unfolding line_length
line_goes b s e = rw (e, line_length)

at_feed : (s : List ℕ) → line_length s < length s → s ≡ first_line s ++ (10 ∷ drop (suc (line_length s)) s)
at_feed [] h = absurd (omega arith)
at_feed (b ∷ s) h = go (eqb b 10) refl (at_feed s)
  where
    go : (x : Bool) → eqb b 10 ≡ x → (line_length s < length s → s ≡ first_line s ++ (10 ∷ drop (suc (line_length s)) s)) →
        b ∷ s ≡ first_line (b ∷ s) ++ (10 ∷ drop (suc (line_length (b ∷ s))) (b ∷ s))
    go true e k = rw (line_stops b s e) (ap (λ (c : ℕ). c ∷ s) (eqb-true b 10 e))
    go false e k = rw (line_goes b s e) (ap (λ (t : List ℕ). b ∷ t) (k (omega (arith, line_goes b s e, h))))

feedless_last : (s : List ℕ) → length s ≤ line_length s → feedless s ≡ true
feedless_last s h = subst (λ (t : List ℕ). feedless t ≡ true) (take_all (line_length s) s h) (feedless_line s)

-- where nothing is left
comes_end : (m : Limits) (st : Standing) (k : ℕ) → Comes m st k [] (at_end st.turn k st)
unfolding forms_text
comes_end m st k = go st.turn refl
  where
    none_yet : (st.turn ≡ Done → ⊥) → Comes m st k [] (refused 12 k)
    none_yet n = subst (λ (i : ℕ). Comes m st k [] (refused 12 i)) (zero-add k) (faults (unended [] refl none n))

    go : (t : Turn) → st.turn ≡ t → Comes m st k [] (at_end t k st)
    go Before e = none_yet (λ d. let z : ◌≡◌ {A = ℕ} 0 1 = cc in omega arith)
    go Shapes e = none_yet (λ d. let z : ◌≡◌ {A = ℕ} 0 1 = cc in omega arith)
    go Fills e = none_yet (λ d. let z : ◌≡◌ {A = ℕ} 0 1 = cc in omega arith)
    go Done e = ends [] refl none e

-- one good form more in front
form_first : (f : Form) (fs : List Form) (s rest : List ℕ) → s ≡ forms_text fs ++ rest → spelling_of f ++ (10 ∷ s) ≡ forms_text (f ∷ fs) ++ rest
unfolding forms_text
form_first f fs s rest e = ap (λ (u : List ℕ). spelling_of f ++ (10 ∷ u)) e ∙ sym (append_assoc (spelling_of f) (10 ∷ forms_text fs) rest)

module _ (m : Limits) (st : Standing) (k : ℕ) (f : Form) (short : EachShort m.digits (numbers_of f)) (e : line_fault m st f ≡ 0) (s : List ℕ) where
  fault_next : (number line : ℕ) → FirstFault m (stands_after st f) (suc k) s number line → FirstFault m st k (spelling_of f ++ (10 ∷ s)) number line
  unfolding forms_text
  fault_next number line (faulty fs text after t n g fault z) =
      rw (later (length fs) k) (faulty (f ∷ fs) text after (form_first f fs s (text ++ (10 ∷ after)) t) n (next short e g) fault z)
  fault_next number line (unfed fs text t n h g) = rw (later (length fs) k) (unfed (f ∷ fs) text (form_first f fs s text t) n h (next short e g))
  fault_next number line (unended fs t g n) =
      rw (later (length fs) k) (unended (f ∷ fs) (ap (λ (u : List ℕ). spelling_of f ++ (10 ∷ u)) t) (next short e g) n)

  comes_next : (o : Outcome) → Comes m (stands_after st f) (suc k) s o → Comes m st k (spelling_of f ++ (10 ∷ s)) o
  unfolding forms_text
  comes_next o (ends fs t g d) = ends (f ∷ fs) (ap (λ (u : List ℕ). spelling_of f ++ (10 ∷ u)) t) (next short e g) d
  comes_next o (faults {number = i} {line = j} c) = faults (fault_next i j c)

-- a faulty first line
comes_bad : (m : Limits) (st : Standing) (k : ℕ) (s : List ℕ) → 0 < length s → (first_fault m st s ≡ 0 → ⊥) → FirstFault m st k s (first_fault m st s) k
unfolding forms_text
comes_bad m st k s h n = subst (FirstFault m st k s (first_fault m st s)) (zero-add k) (go (ltb (line_length s) (length s)) refl)
  where
    go : (x : Bool) → ltb (line_length s) (length s) ≡ x → FirstFault m st k s (first_fault m st s) (0 + k)
    go true q =
        let fed = ltb-true (line_length s) (length s) q in
        let f = fed_fault m st k s fed in
        rw f
        (faulty [] (first_line s) (drop (suc (line_length s)) s) (at_feed s fed) (feedless_line s) none (line_fault_lem m st (first_line s)) (λ z. n (f ∙ z)))
    go false q =
        let unfed_line = ltb-false (line_length s) (length s) q in
        rw (unfed_fault m st k s unfed_line) (unfed [] s refl (feedless_last s unfed_line) h none)

-- one line, where it is known what the text after it comes to
one_line : (m : Limits) (n : ℕ) (s : List ℕ) (st : Standing) (k : ℕ) → length s ≤ suc n → 0 < length s →
    ((rest : List ℕ) → length rest ≤ n → (x : Standing) (j : ℕ) → Comes m x j rest (read_lines m x j (pieces rest))) → Comes m st k s (read_lines m st k (pieces s))
one_line m n s st k h p after = go (eqb (first_fault m st s) 0) refl
  where
    rest : List ℕ
    rest = drop (suc (line_length s)) s

    f : Form
    f = form_of m (first_line s)

    go : (x : Bool) → eqb (first_fault m st s) 0 ≡ x → Comes m st k s (read_lines m st k (pieces s))
    go true e =
        let z = eqb-true (first_fault m st s) 0 e in
        let fed = good_fed m st k s z in
        let good : line_fault m st f ≡ 0 = sym (fed_fault m st k s fed) ∙ z in
        let spells = good_spells m st (first_line s) good in
        rw (line_good m st k s z)
        (subst (λ (t : List ℕ). Comes m st k t (read_lines m (stands_after st f) (suc k) (pieces rest)))
        (sym (at_feed s fed ∙ ap (λ (l : List ℕ). l ++ (10 ∷ rest)) spells.spelling))
        (comes_next m st k f spells.short good rest (read_lines m (stands_after st f) (suc k) (pieces rest))
        (after rest (omega (arith, length-drop (suc (line_length s)) s)) (stands_after st f) (suc k))))
    go false e =
        let n = eqb-false (first_fault m st s) 0 e in rw (line_bad m st k s p n) (faults (comes_bad m st k s p n))

line_or_end : (m : Limits) (n : ℕ) (s : List ℕ) (st : Standing) (k : ℕ) → length s ≤ suc n →
    ((rest : List ℕ) → length rest ≤ n → (x : Standing) (j : ℕ) → Comes m x j rest (read_lines m x j (pieces rest))) → Comes m st k s (read_lines m st k (pieces s))
unfolding pieces read_lines
line_or_end m n [] st k h after = comes_end m st k
line_or_end m n (b ∷ s) st k h after = one_line m n (b ∷ s) st k h (omega arith) after

comes : (m : Limits) (n : ℕ) (s : List ℕ) → length s ≤ n → (st : Standing) (k : ℕ) → Comes m st k s (read_lines m st k (pieces s))
unfolding pieces read_lines
comes m zero [] h st k = comes_end m st k
comes m zero (b ∷ s) h st k = absurd (omega arith)
comes m (suc n) s h st k = line_or_end m n s st k h (λ rest l x j. comes m n rest l x j)

-- ---- the whole file

module _ (m : Limits) (file : List ℕ) where
  accepted_if : (st : Standing) → AcceptedFile m file st → outcome_of m file ≡ accepted st
  accepted_if st a = sym (short_enough m file a.fits) ∙ forms_passed 1 file a.text a.good ∙ ap (λ (t : Turn). at_end t (length a.forms + 1) st) a.ended

  refused_if : (number line : ℕ) → RefusedFile m file number line → outcome_of m file ≡ refused number line
  refused_if number line (long h) = sym (too_long m file h)
  refused_if number line (lines h c) = sym (short_enough m file h) ∙ first_fault_lem c

-- every file is one or the other
data OneOrOther (m : Limits) (file : List ℕ) : Outcome → Type 0 where
  good : {st : Standing} → AcceptedFile m file st → OneOrOther m file (accepted st)
  bad : {number line : ℕ} → RefusedFile m file number line → OneOrOther m file (refused number line)

one_or_other : (m : Limits) (file : List ℕ) → OneOrOther m file (outcome_of m file)
one_or_other m file = go (leb (length file) m.bytes) refl
  where
    read : {o : Outcome} → length file ≤ m.bytes → Comes m before_head 1 file o → OneOrOther m file o
    read h (ends fs t g d) = good (record { forms = fs; fits = h; text = t; good = g; ended = d })
    read h (faults c) = bad (lines h c)

    go : (x : Bool) → leb (length file) m.bytes ≡ x → OneOrOther m file (outcome_of m file)
    go true e =
        let h = leb-true (length file) m.bytes e in
        rw (← short_enough m file h) (read h (comes m (length file) file (le_refl (length file)) before_head 1))
    go false e = let h = leb-false (length file) m.bytes e in rw (← too_long m file h) (bad (long h))

accepted_only_if : (m : Limits) (file : List ℕ) (st : Standing) → outcome_of m file ≡ accepted st → AcceptedFile m file st
accepted_only_if m file st e = go (outcome_of m file) e (one_or_other m file)
  where
    go : (o : Outcome) → o ≡ accepted st → OneOrOther m file o → AcceptedFile m file st
    go o q (good {st = x} a) = let same : x ≡ st = cc in subst (AcceptedFile m file) same a
    go o q (bad f) = let z : ◌≡◌ {A = ℕ} 0 1 = cc in absurd (omega arith)

refused_only_if : (m : Limits) (file : List ℕ) (number line : ℕ) → outcome_of m file ≡ refused number line → RefusedFile m file number line
refused_only_if m file number line e = go (outcome_of m file) e (one_or_other m file)
  where
    go : (o : Outcome) → o ≡ refused number line → OneOrOther m file o → RefusedFile m file number line
    go o q (good a) = let z : ◌≡◌ {A = ℕ} 0 1 = cc in absurd (omega arith)
    go o q (bad {number = i} {line = j} f) =
        let first : i ≡ number = cc in
        let second : j ≡ line = cc in
        subst (RefusedFile m file number) second (subst (λ (n : ℕ). RefusedFile m file n j) first f)

pub acceptance : (m : Limits) (file : List ℕ) → Acceptance m file
acceptance m file =
    record {
      accepted_if = accepted_if m file;
      accepted_only_if = accepted_only_if m file;
      refused_if = refused_if m file;
      refused_only_if = refused_only_if m file;
    }
