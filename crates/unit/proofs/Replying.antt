-- From what rendering leaves to the reply and the buffer.
use Prim.Native.Nat.{ℕ, ◌+◌, ◌^◌, ◌≤◌, ◌<◌}
use mathlib.Core.Path.{◌≡◌, refl, sym, ap, ap₂, ◌∙◌, subst}
use mathlib.Core.Bool.{Bool, true, false, not, ◌&&◌}
use mathlib.Core.List.{List, [], ◌∷◌, ◌++◌}
use native.Mathlib.Omega.{arith}
use borrow.Author.Tests.{le-leb, lt-leb}
use lib.Dec.{leb, ltb, eqb, lit<, lit≤}
use lib.ListN.{length, take, drop, length-append}
use lib.Seq.{take_at}
use Rattle.geometry.specs.Layout.{shares_square}
use Rattle.buffers.specs.Written.{at_front, Front}
use Rattle.tiles.specs.Tiles.{number_at}
use Rattle.forms.specs.declared.Form.{Form}
use Rattle.forms.specs.declared.Form.TheVariants.{Unknown, Heading, Metal, Fill, End}
use Rattle.forms.specs.Limits.{Limits, unit_limits}
use Rattle.forms.specs.Shapes.{rectangles}
use Rattle.forms.specs.Forms.{in_range, tiles_across, agrees, fits_layout, known}
use Rattle.lines.specs.Spellings.{spelling_of}
use Rattle.standing.specs.Faults.{Standing, before_head, check, in_turn, own_fault, shape_fault, room_of, fill_fault, line_fault}
use Rattle.jobfile.specs.File.{Outcome, refused, accepted, outcome_of}
use Rattle.jobfile.specs.Acceptance.{forms_text, LineFault, spelled, unspelled, FirstFault, faulty, unfed, unended, RefusedFile, long, lines}
use Rattle.jobfile.proofs.Files.{acceptance}
use Rattle.jobfile.specs.declared.Refusal.{Refusal}
use Rattle.std.specs.Prelude.{Result, Ok, Err, MatchResult}
use Rattle.standing.specs.Fault.{fault_number}
use Rattle.arrayvec.specs.ArrayVec.{ArrayVec}
use Rattle.answers.specs.Lines.{text_of}
use Rattle.unit.specs.Whole.{answer_of, Reply, Accepted, Refused, reply_of, reply_to, buffer_after, reply_for, buffer_for, reply_number, reply_value, code_of, printed_of, printed_for}
use Rattle.answers.specs.Room.{answer_room}
use Rattle.unit.specs.Guarantee.{Guarantee, Reported}
use Rattle.unit.specs.Rendering.{Rendering}
use Rattle.unit.proofs.Accepting.{promised, refused_positive}

-- ---- how large a fault's number and line may be

most_check : (k : ℕ) (passes : Bool) (fault next : ℕ) → fault ≤ k → next ≤ k → check passes fault next ≤ k
most_check k true fault next h o = o
most_check k false fault next h o = h

three_small : (p q r : Bool) (a b c : ℕ) → a ≤ 12 → b ≤ 12 → c ≤ 12 → check p a (check q b (check r c 0)) ≤ 12
three_small p q r a b c h k l = most_check 12 p a (check q b (check r c 0)) h (most_check 12 q b (check r c 0) k (most_check 12 r c 0 l (lit≤ tt)))

module _ (m : Limits) where
  own_small : (st : Standing) (f : Form) → own_fault m st f ≤ 12
  unfolding shape_fault fill_fault
  own_small st Unknown = lit≤ tt
  own_small st (Heading h) = most_check 12 (agrees m h) 5 0 (lit≤ tt) (lit≤ tt)
  own_small st (Metal s) =
      three_small (fits_layout st.head s.rect) (ltb (length st.shapes) m.shapes) (not (shares_square (rectangles st.shapes) s.rect)) 6 8 9
      (lit≤ tt) (lit≤ tt) (lit≤ tt)
  own_small st (Fill i j p) =
      let h = st.head in
      three_small (ltb i (tiles_across h) && ltb j (tiles_across h)) (eqb (number_at st.amounts (tiles_across h) i j) 0)
      (leb p (room_of st i j)) 7 10 11 (lit≤ tt) (lit≤ tt) (lit≤ tt)
  own_small st End = lit≤ tt

  fault_small : (st : Standing) (f : Form) → line_fault m st f ≤ 12
  unfolding line_fault
  fault_small st f =
      most_check 12 (known f) 2 (check (in_range m f) 3 (check (in_turn st.turn f) 4 (own_fault m st f))) (lit≤ tt)
      (most_check 12 (in_range m f) 3 (check (in_turn st.turn f) 4 (own_fault m st f)) (lit≤ tt)
      (most_check 12 (in_turn st.turn f) 4 (own_fault m st f) (lit≤ tt) (own_small st f)))

  line_small : (st : Standing) (line : List ℕ) (number : ℕ) → LineFault m st line number → number ≤ 12
  line_small st line number (spelled {f = f} s) = fault_small st f
  line_small st line number (unspelled none) = lit≤ tt

-- each form takes at least its line feed
forms_few : (fs : List Form) → length fs ≤ length (forms_text fs)
unfolding forms_text
forms_few [] = lit≤ tt
forms_few (f ∷ fs) = omega (arith, forms_few fs, length-append (spelling_of f) (10 ∷ forms_text fs))

-- a fault's number is at most 12, and its line at most one more than the bytes
first_small : (m : Limits) (st : Standing) (s : List ℕ) (number line : ℕ) → FirstFault m st 1 s number line → (number ≤ 12) × (line ≤ length s + 1)
first_small m st s number line (faulty fs {st' = x} l after t n g fault bad) =
    (line_small m x l number fault, omega (arith, forms_few fs, ap length t, length-append (forms_text fs) (l ++ (10 ∷ after))))
first_small m st s number line (unfed fs l t n p g) = (lit≤ tt, omega (arith, forms_few fs, ap length t, length-append (forms_text fs) l))
first_small m st s number line (unended fs t g n) = (lit≤ tt, omega (arith, forms_few fs, ap length t))

refused_small : (m : Limits) (file : List ℕ) (number line : ℕ) → RefusedFile m file number line → (number ≤ 12) × (line ≤ m.bytes + 1)
refused_small m file number line (long h) = (lit≤ tt, omega arith)
refused_small m file number line (lines h c) = let k = first_small m before_head file number line c in (k.0, omega (arith, k.1))

refused_at_most : (file : List ℕ) (number line : ℕ) → outcome_of unit_limits file ≡ refused number line → (number ≤ 12) × (line ≤ unit_limits.bytes + 1)
refused_at_most file number line e = refused_small unit_limits file number line ((acceptance unit_limits file).refused_only_if number line e)

-- a reply's number is at most 13
number_small : (file : List ℕ) (room : ℕ) → reply_number (reply_for file room) ≤ 13
number_small file room = go (outcome_of unit_limits file) refl
  where
    fits : (n : ℕ) (b : Bool) → reply_number (elim b as (λ _. Reply) [ true ↦ Accepted n | false ↦ Refused 13 0 ]) ≤ 13
    fits n true = lit≤ tt
    fits n false = lit≤ tt

    go : (o : Outcome) → outcome_of unit_limits file ≡ o → reply_number (reply_to o room) ≤ 13
    go (accepted st) e = fits (length (text_of (answer_of st))) (leb (length (text_of (answer_of st))) room)
    go (refused number line) e = omega (arith, (refused_at_most file number line e).0)

-- so it is below 2^64 as one number
pub code_small : (file before : List ℕ) (r : Reply) (after : List ℕ) → Guarantee file before r after → code_of r < 2 ^ 64
code_small file before r after g = omega (arith, g.decodes, ap reply_number g.reply, number_small file (length before))

-- ---- what the reply and the buffer say of what is printed

-- an answer that was accepted stands at the front of the buffer
accepted_front : (t before : List ℕ) (b : Bool) → let r = elim b as (λ _. Reply) [ true ↦ Accepted (length t) | false ↦ Refused 13 0 ] in
    reply_number r ≡ 0 → take (reply_value r) (elim b as (λ _. List ℕ) [ true ↦ at_front t before | false ↦ before ]) ≡ t
accepted_front t before true e = take_at t (drop (length t) before) (length t) refl
accepted_front t before false e = absurd (omega (arith, e))

printed_front : (file before : List ℕ) (o : Outcome) → outcome_of unit_limits file ≡ o → reply_number (reply_to o (length before)) ≡ 0 →
    take (reply_value (reply_to o (length before))) (buffer_after o before) ≡ printed_of o
printed_front file before (accepted st) q e =
    accepted_front (text_of (answer_of st)) before (leb (length (text_of (answer_of st))) (length before)) e
printed_front file before (refused number line) q e = absurd (refused_positive file number line q e)

-- what each return of `answer` has to say
pub record Returned (file out : List ℕ) (r : Reply) (after : List ℕ) : Type 0 where
  pub reply : r ≡ reply_for file (length out)
  pub buffer : after ≡ buffer_for file out
  pub decodes : reply_value r < 100000
  pub room_enough : answer_room ≤ length out → reply_number r ≡ 13 → ⊥

pub guaranteed : (file before : List ℕ) (r : Reply) (after : List ℕ) → Returned file before r after → Guarantee file before r after
guaranteed file before r after k =
    record {
      reply = k.reply;
      buffer = k.buffer;
      printed = λ e.
          rw (k.reply, k.buffer) (printed_front file before (outcome_of unit_limits file) refl (sym (ap reply_number k.reply) ∙ e));
      decodes = k.decodes;
      room_enough = k.room_enough;
      promised = promised file;
    }

-- the same of the reply by its definition
pub guaranteed_reply : (file before : List ℕ) (r : Reply) (after : List ℕ) → Guarantee file before r after →
    Guarantee file before (reply_for file (length before)) after
guaranteed_reply file before r after g = subst (λ (q : Reply). Guarantee file before q after) g.reply g

pub reported : {file before : List ℕ} {n : ℕ} {after : List ℕ} → Front before (printed_for file) after n → Reported file before n after
reported {file = file} f = record { printed = f; promised = promised file }

-- ---- the three ways in which `answer` returns

module _ (file : List ℕ) where
  pub answer_refused : (e : Refusal) → Rendering (outcome_of unit_limits file) (Err e) → (out : List ℕ) → Returned file out (reply_of (Err e)) out
  answer_refused e p out = go (outcome_of unit_limits file) refl p
    where
      go : (o : Outcome) → outcome_of unit_limits file ≡ o → Rendering o (Err e) → Returned file out (reply_of (Err e)) out
      go (accepted st) q r = absurd r
      go (refused number line) q r =
          let most = refused_at_most file number line q in
          record {
            reply = r ∙ sym (ap (λ (o : Outcome). reply_to o (length out)) q);
            buffer = sym (ap (λ (o : Outcome). buffer_after o out) q);
            decodes = omega (arith, most.1, ap reply_value r);
            room_enough = λ h z. omega (arith, z, most.0, ap reply_number r);
          }

  module _ (text : ArrayVec ℕ) (short : length text.items ≤ answer_room) (p : Rendering (outcome_of unit_limits file) (Ok text)) where
    -- the file is accepted, and the text is its answer's
    found : (st : Standing) × (outcome_of unit_limits file ≡ accepted st) × (text.items ≡ text_of (answer_of st))
    found = go (outcome_of unit_limits file) refl p
      where
        go : (o : Outcome) → outcome_of unit_limits file ≡ o → Rendering o (Ok text) →
            (st : Standing) × (outcome_of unit_limits file ≡ accepted st) × (text.items ≡ text_of (answer_of st))
        go (accepted st) q r = (st, q, r)
        go (refused number line) q r = absurd r

    pub answer_short : (out : List ℕ) → length out < length text.items → Returned file out (Refused 13 0) out
    answer_short out h =
        let t : leb (length (text_of (answer_of found.0))) (length out) ≡ false =
        lt-leb (length (text_of (answer_of found.0))) (length out) (omega (arith, ap length found.2)) in
        record {
          reply = rw (found.1, reply_to) (rw t);
          buffer = rw (found.1, buffer_after) (rw t);
          decodes = lit< tt;
          room_enough = λ k z. omega (arith, h, k, short);
        }

    pub answer_fits : (out after : List ℕ) (n : ℕ) → length text.items ≤ length out → Front out text.items after n → Returned file out (Accepted n) after
    answer_fits out after n h w =
        let t : leb (length (text_of (answer_of found.0))) (length out) ≡ true =
        le-leb (length (text_of (answer_of found.0))) (length out) (omega (arith, ap length found.2)) in
        record {
          reply = rw (found.1, reply_to) (rw t (ap Accepted (w.count ∙ ap length found.2)));
          buffer = rw (found.1, buffer_after) (rw t (w.buffer ∙ ap (λ (l : List ℕ). at_front l out) found.2));
          decodes = omega (arith, w.count, short);
          room_enough = λ k z. omega (arith, z);
        }

-- what a file prints: the answer's text, or else the line of its refusal
pub printed_so : {P : Refusal → Type 0} (file : List ℕ) (r : Result (ArrayVec ℕ) Refusal) → Rendering (outcome_of unit_limits file) r → (text : ArrayVec ℕ) →
    MatchResult r (λ t. text ≡ t) P → ((e : Refusal) → P e → text.items ≡ printed_of (refused (fault_number e.fault) e.line)) → text.items ≡ printed_for file
printed_so {P} file r p text h line = go (outcome_of unit_limits file) r p h
  where
    go : (o : Outcome) (q : Result (ArrayVec ℕ) Refusal) → Rendering o q → MatchResult q (λ t. text ≡ t) P → text.items ≡ printed_of o
    go (accepted st) (Ok t) k m = ap (λ (v : ArrayVec ℕ). v.items) m ∙ k
    go (accepted st) (Err e) k m = absurd k
    go (refused number l) (Ok t) k m = absurd k
    go (refused number l) (Err e) k m = line e m ∙ ap₂ (λ (n i : ℕ). printed_of (refused n i)) (ap reply_number k) (ap reply_value k)
