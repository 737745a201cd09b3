-- A line spells a form exactly if it is read as that form.
use Prim.Native.Nat.{ℕ, zero, suc}
use mathlib.Core.Path.{◌≡◌, refl, sym, ap, ◌∙◌, subst}
use mathlib.Core.Bool.{true, false≢true}
use mathlib.Core.List.{List, [], ◌∷◌}
use Rattle.std.proofs.Common.{Option, Some, None}
use native.Mathlib.Omega.{arith}
use lib.ListN.{length, get_or}
use Rattle.spelling.specs.Text.{bytes, feedless}
use Rattle.spelling.specs.Decimal.{EachShort}
use Rattle.spelling.specs.Pattern.{spell, read_as}
use Rattle.spelling.specs.Scanning.{places}
use Rattle.spelling.proofs.Inverse.{Spelled, read_is_spelled, well_formed, spelled_is_read}
use Rattle.spelling.proofs.Clashes.{clash, clash_none}
use Rattle.spelling.proofs.Feedless.{feedless_spell}
use Rattle.geometry.specs.declared.Rect.{Rect}
use Rattle.forms.specs.declared.Form.{Form}
use Rattle.forms.specs.declared.Form.TheVariants.{Unknown, Heading, Metal, Fill, End}
use Rattle.forms.specs.declared.Gap.{Gap}
use Rattle.forms.specs.declared.Gap.TheVariants.{Both, Each}
use Rattle.forms.specs.declared.Head.{Head}
use Rattle.forms.specs.declared.Kind.{Kind}
use Rattle.forms.specs.declared.Kind.TheVariants.{Drawn, Dummy}
use Rattle.forms.specs.Limits.{Limits}
use Rattle.forms.specs.Shapes.{with_gap}
use Rattle.forms.specs.Forms.{known}
use Rattle.lines.specs.Spellings.{one_gap_pattern, two_gaps_pattern, head_pattern, rect_pattern, dummy_pattern, shape_pattern, fill_pattern, end_pattern, numbers_of, spelling_of, Spells}
use Rattle.lines.specs.Reading.{one_gap_form, two_gaps_form, shape_form, fill_form, end_form, form_if, head_form, rare_form, form_of}

-- ---- what is read is spelled so

-- the first n numbers that a function gives
abbrev up_to : ℕ → (ℕ → ℕ) → List ℕ
up_to zero f = []
up_to (suc n) f = f 0 ∷ up_to n (λ i. f (suc i))

-- a list of n numbers, number by number
by_number : (n : ℕ) (s : List ℕ) → length s ≡ n → s ≡ up_to n (λ i. get_or s i 0)
by_number zero [] e = refl
by_number zero (a ∷ s) e = absurd (omega arith)
by_number (suc n) [] e = absurd (omega arith)
by_number (suc n) (a ∷ s) e = ap (λ (t : List ℕ). a ∷ t) (by_number n s (omega arith))

-- a line that was read by a pattern of n numbers is spelled by them, each short enough
record SpelledBy (most : ℕ) (p line ns : List ℕ) : Type 0 where
  pub spelling : line ≡ spell p ns
  pub short : EachShort most ns

spelled_by : (most : ℕ) (p line ns : List ℕ) (n : ℕ) → places p ≡ n → Spelled most p line ns → SpelledBy most p line (up_to n (λ i. get_or ns i 0))
spelled_by most p line ns n e k =
    subst (SpelledBy most p line) (by_number n ns (k.count ∙ e)) (record { spelling = k.spelling; short = k.short })

-- where a pattern reads a line, the line spells the pattern; the others are tried where it does not
if_read : (most : ℕ) (p line : List ℕ) (form : List ℕ → Form) (other : Form) (P : Form → Type 0) →
    ((ns : List ℕ) → Spelled most p line ns → P (form ns)) → P other → P (form_if (read_as most p line) form other)
if_read most p line form other P read not = go (read_as most p line) refl
  where
    go : (o : Option (List ℕ)) → read_as most p line ≡ o → P (form_if o form other)
    go None e = not
    go (Some ns) e = read ns (read_is_spelled most p line ns e)

module _ (m : Limits) where
  -- a known form is spelled by its line
  abbrev SpelledAs : List ℕ → Form → Type 0
  SpelledAs line f = known f ≡ true → Spells m line f

  as_form : (p line : List ℕ) (f : Form) → known f ≡ true → spelling_of f ≡ spell p (numbers_of f) → SpelledBy m.digits p line (numbers_of f) → Spells m line f
  as_form p line f e same k = record { is_known = e; spelling = k.spelling ∙ sym same; short = k.short }

  head_spelled : (line : List ℕ) → SpelledAs line (head_form m line)
  unfolding spelling_of places bytes one_gap_pattern two_gaps_pattern
  head_spelled line =
      if_read m.digits one_gap_pattern line one_gap_form _ (SpelledAs line)
      (λ ns k e. as_form one_gap_pattern line (one_gap_form ns) refl refl (spelled_by m.digits one_gap_pattern line ns 8 refl k))
      (if_read m.digits two_gaps_pattern line two_gaps_form Unknown (SpelledAs line)
      (λ ns k e. as_form two_gaps_pattern line (two_gaps_form ns) refl refl (spelled_by m.digits two_gaps_pattern line ns 9 refl k))
      (λ e. absurd (false≢true e)))

  rare_spelled : (line : List ℕ) → SpelledAs line (rare_form m line)
  unfolding spelling_of places bytes dummy_pattern end_pattern
  rare_spelled line =
      if_read m.digits dummy_pattern line (shape_form Dummy) _ (SpelledAs line)
      (λ ns k e. as_form dummy_pattern line (shape_form Dummy ns) refl refl (spelled_by m.digits dummy_pattern line ns 4 refl k))
      (if_read m.digits end_pattern line end_form _ (SpelledAs line)
      (λ ns k e. as_form end_pattern line (end_form ns) refl refl (spelled_by m.digits end_pattern line ns 0 refl k))
      (head_spelled line))

  pub form_spelled : (line : List ℕ) → known (form_of m line) ≡ true → Spells m line (form_of m line)
  unfolding form_of spelling_of places bytes fill_pattern rect_pattern
  form_spelled line =
      if_read m.digits fill_pattern line fill_form _ (SpelledAs line)
      (λ ns k e. as_form fill_pattern line (fill_form ns) refl refl (spelled_by m.digits fill_pattern line ns 3 refl k))
      (if_read m.digits rect_pattern line (shape_form Drawn) _ (SpelledAs line)
      (λ ns k e. as_form rect_pattern line (shape_form Drawn ns) refl refl (spelled_by m.digits rect_pattern line ns 4 refl k))
      (rare_spelled line))

-- ---- what is spelled so is read

module _ (m : Limits) where
  abbrev Short : Form → Type 0
  Short f = EachShort m.digits (numbers_of f)

  -- a spelling of another pattern is not read by this one
  abbrev missed : (p q : List ℕ) (f : Form) → clash p q ≡ true → length (numbers_of f) ≡ places q → Short f → read_as m.digits p (spell q (numbers_of f)) ≡ None
  missed p q f e l s = clash_none m.digits p q (numbers_of f) e l s

  abbrev found : (p : List ℕ) (f : Form) → well_formed p ≡ true → length (numbers_of f) ≡ places p → Short f →
      read_as m.digits p (spell p (numbers_of f)) ≡ Some (numbers_of f)
  found p f w l s = spelled_is_read m.digits p (numbers_of f) w l s

  -- a head's spelling, by its gaps
  heading_read : (h : Head) (g : Gap) → Short (Heading (with_gap h g)) → form_of m (spelling_of (Heading (with_gap h g))) ≡ Heading (with_gap h g)
  unfolding form_of spelling_of clash places well_formed bytes one_gap_pattern two_gaps_pattern rect_pattern dummy_pattern fill_pattern end_pattern
  heading_read h (Both b) s =
      let f = Heading (with_gap h (Both b)) in
      rw (
        missed fill_pattern one_gap_pattern f refl refl s,
        missed rect_pattern one_gap_pattern f refl refl s,
        missed dummy_pattern one_gap_pattern f refl refl s,
        missed end_pattern one_gap_pattern f refl refl s,
        found one_gap_pattern f refl refl s,
      )
  heading_read h (Each b d) s =
      let f = Heading (with_gap h (Each b d)) in
      rw (
        missed fill_pattern two_gaps_pattern f refl refl s,
        missed rect_pattern two_gaps_pattern f refl refl s,
        missed dummy_pattern two_gaps_pattern f refl refl s,
        missed end_pattern two_gaps_pattern f refl refl s,
        missed one_gap_pattern two_gaps_pattern f refl refl s,
        found two_gaps_pattern f refl refl s,
      )

  -- a shape's, by its kind
  shape_read : (k : Kind) (r : Rect) → Short (Metal (record { kind = k; rect = r })) →
      form_of m (spelling_of (Metal (record { kind = k; rect = r }))) ≡ Metal (record { kind = k; rect = r })
  unfolding form_of spelling_of clash places well_formed bytes rect_pattern dummy_pattern fill_pattern
  shape_read Drawn r s =
      let f = Metal (record { kind = Drawn; rect = r }) in
      rw (missed fill_pattern rect_pattern f refl refl s, found rect_pattern f refl refl s)
  shape_read Dummy r s =
      let f = Metal (record { kind = Dummy; rect = r }) in
      rw (missed fill_pattern dummy_pattern f refl refl s, missed rect_pattern dummy_pattern f refl refl s, found dummy_pattern f refl refl s)

  pub spelling_read : (f : Form) → known f ≡ true → EachShort m.digits (numbers_of f) → form_of m (spelling_of f) ≡ f
  unfolding form_of spelling_of clash places well_formed bytes rect_pattern dummy_pattern fill_pattern end_pattern
  spelling_read Unknown k s = absurd (false≢true k)
  spelling_read (Heading h) k s = heading_read h h.gap s
  spelling_read (Metal q) k s = shape_read q.kind q.rect s
  spelling_read (Fill i j p) k s = rw (found fill_pattern (Fill i j p) refl refl s)
  spelling_read End k s =
      rw (
        missed fill_pattern end_pattern End refl refl s,
        missed rect_pattern end_pattern End refl refl s,
        missed dummy_pattern end_pattern End refl refl s,
        found end_pattern End refl refl s,
      )

  pub spells_read : (line : List ℕ) (f : Form) → Spells m line f → form_of m line ≡ f
  spells_read line f s = ap (form_of m) s.spelling ∙ spelling_read f s.is_known s.short

-- ---- a form's spelling has no line feed

heading_feedless : (g : Gap) (ns : List ℕ) → feedless (spell (head_pattern g) ns) ≡ true
unfolding feedless bytes one_gap_pattern two_gaps_pattern
heading_feedless (Both b) ns = feedless_spell one_gap_pattern ns refl
heading_feedless (Each b d) ns = feedless_spell two_gaps_pattern ns refl

shape_feedless : (k : Kind) (ns : List ℕ) → feedless (spell (shape_pattern k) ns) ≡ true
unfolding feedless bytes rect_pattern dummy_pattern
shape_feedless Drawn ns = feedless_spell rect_pattern ns refl
shape_feedless Dummy ns = feedless_spell dummy_pattern ns refl

pub spelling_feedless : (f : Form) → feedless (spelling_of f) ≡ true
unfolding feedless spelling_of bytes fill_pattern end_pattern
spelling_feedless Unknown = refl
spelling_feedless (Heading h) = heading_feedless h.gap (numbers_of (Heading h))
spelling_feedless (Metal s) = shape_feedless s.kind (numbers_of (Metal s))
spelling_feedless (Fill i j p) = feedless_spell fill_pattern (numbers_of (Fill i j p)) refl
spelling_feedless End = feedless_spell end_pattern [] refl
