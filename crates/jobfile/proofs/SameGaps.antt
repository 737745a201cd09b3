-- Files that differ in what the head says of gaps, and not in the gap of any kind of shape that they have, come to the same.
use Prim.Native.Nat.{ℕ, suc, ◌≤◌}
use mathlib.Core.Path.{◌≡◌, refl, sym, ap, ap₂, ◌∙◌}
use mathlib.Core.Bool.{Bool, true, false}
use mathlib.Core.List.{List, [], ◌∷◌, ◌++◌, map-append}
use mathlib.Core.Logic.{◌⊎◌, inl, inr}
use native.Mathlib.Omega.{arith}
use lib.Dec.{eqb}
use lib.ListN.{length}
use borrow.Author.Tests.{eqb-true}
use Rattle.spelling.specs.Text.{pieces}
use Rattle.spelling.specs.Decimal.{EachShort}
use Rattle.spacing.specs.declared.Keepout.{Keepout}
use Rattle.spacing.specs.Eligible.{tile, fillable_area}
use Rattle.forms.specs.declared.Form.{Form}
use Rattle.forms.specs.declared.Form.TheVariants.{Unknown, Heading, Metal, Fill, End}
use Rattle.forms.specs.declared.Gap.{Gap}
use Rattle.forms.specs.declared.Head.{Head}
use Rattle.forms.specs.declared.Kind.{Kind}
use Rattle.forms.specs.declared.Shape.{Shape}
use Rattle.forms.specs.Limits.{Limits}
use Rattle.forms.specs.Shapes.{gap_for, with_gap}
use Rattle.forms.specs.Forms.{gap_in_range, in_range, tile_side, known}
use Rattle.lines.specs.Spellings.{numbers_of, spelling_of}
use Rattle.lines.specs.Reading.{form_of}
use Rattle.lines.proofs.Spelled.{form_spelled, spelling_read, spelling_feedless}
use Rattle.standing.specs.declared.Turn.{Turn}
use Rattle.standing.specs.declared.Turn.TheVariants.{Before, Shapes, Fills, Done}
use Rattle.standing.specs.Filling.{keepout_of, keepouts}
use Rattle.standing.specs.Faults.{Standing, before_head, check, in_turn, shape_fault, fill_fault, line_fault, stands_after}
use Rattle.jobfile.specs.File.{Outcome, refused, at_end, after_last, read_lines, outcome_of}
use Rattle.jobfile.specs.Gaps.{standing_with, outcome_with, file_with, NoneOf, GapsDecide}
use Rattle.standing.proofs.Faultless.{no_fault}
use Rattle.standing.proofs.Sound.{heading_turn}
use Rattle.jobfile.proofs.Lines.{read_next, short_enough}
use Rattle.jobfile.proofs.Files.{pieces_first}

-- a form is no shape for which the gaps differ
abbrev Agrees : (g g' : Gap) → Form → Type 0
Agrees g g' f = (s : Shape) → f ≡ Metal s → gap_for g s.kind ≡ gap_for g' s.kind

-- after the head, by which the gaps are g; and for no shape that stands would they differ under g'
record Same (g g' : Gap) (st : Standing) : Type 0 where
  pub begun : st.turn ≡ Before → ⊥
  pub gap : st.head.gap ≡ g
  pub shapes : keepouts g st.shapes ≡ keepouts g' st.shapes

-- ---- one line

same_fault : (m : Limits) (g g' : Gap) (st : Standing) (f : Form) → Same g g' st → line_fault m (standing_with g' st) f ≡ line_fault m st f
unfolding line_fault shape_fault fill_fault
same_fault m g g' st Unknown k = refl
same_fault m g g' st (Heading h) k = refl
same_fault m g g' st (Metal s) k = refl
same_fault m g g' st (Fill i j p) k =
    ap
    (λ (ks : List Keepout).
    check (in_range m (Fill i j p)) 3
    (check (in_turn st.turn (Fill i j p)) 4 (fill_fault st.head st.amounts (fillable_area ks (tile (tile_side st.head) i j)) i j p)))
    (sym k.shapes ∙ ap (λ (x : Gap). keepouts x st.shapes) (sym k.gap))
same_fault m g g' st End k = refl

shapes_more : (g g' : Gap) (ss : List Shape) (s : Shape) → keepouts g ss ≡ keepouts g' ss → gap_for g s.kind ≡ gap_for g' s.kind →
    keepouts g (ss ++ (s ∷ [])) ≡ keepouts g' (ss ++ (s ∷ []))
shapes_more g g' ss s e n =
    map-append (keepout_of g) ss (s ∷ [])
    ∙ ap₂ (λ (l : List Keepout) (k : ℕ). l ++ (record { rect = s.rect; gap = k } ∷ [])) e n
    ∙ sym (map-append (keepout_of g') ss (s ∷ []))

-- what stands after a good line
record After (g g' : Gap) (st : Standing) (f : Form) : Type 0 where
  pub with : stands_after (standing_with g' st) f ≡ standing_with g' (stands_after st f)
  pub same : Same g g' (stands_after st f)

same_after : (m : Limits) (g g' : Gap) (st : Standing) (f : Form) → Same g g' st → line_fault m st f ≡ 0 → Agrees g g' f → After g g' st f
unfolding stands_after
same_after m g g' st Unknown k e a = record { with = refl; same = k }
same_after m g g' st (Heading h) k e a = absurd (k.begun (heading_turn st.turn h (no_fault m st (Heading h) e).turn))
same_after m g g' st (Metal s) k e a =
    record {
      with = refl;
      same = record {
        begun = λ n. let z : ◌≡◌ {A = ℕ} 0 1 = cc in omega arith;
        gap = k.gap;
        shapes = shapes_more g g' st.shapes s k.shapes (a s refl);
      };
    }
same_after m g g' st (Fill i j p) k e a =
    record {
      with = refl;
      same = record { begun = λ n. let z : ◌≡◌ {A = ℕ} 0 1 = cc in omega arith; gap = k.gap; shapes = k.shapes };
    }
same_after m g g' st End k e a =
    record {
      with = refl;
      same = record { begun = λ n. let z : ◌≡◌ {A = ℕ} 0 1 = cc in omega arith; gap = k.gap; shapes = k.shapes };
    }

-- ---- the lines of a text

unfoldable AllAgree : (m : Limits) (g g' : Gap) → List (List ℕ) → Type 0
AllAgree m g g' [] = Unit {0}
AllAgree m g g' (line ∷ more) = Agrees g g' (form_of m line) × AllAgree m g g' more

end_with : (g : Gap) (t : Turn) (k : ℕ) (st : Standing) → at_end t k (standing_with g st) ≡ outcome_with g (at_end t k st)
end_with g Before k st = refl
end_with g Shapes k st = refl
end_with g Fills k st = refl
end_with g Done k st = refl

last_with : (g : Gap) (line : List ℕ) (k : ℕ) (st : Standing) → after_last (standing_with g st) k line ≡ outcome_with g (after_last st k line)
last_with g [] k st = end_with g st.turn k st
last_with g (b ∷ s) k st = refl

-- a fault, or else what follows
abbrev fault_or : (fault k : ℕ) → Outcome → Outcome
fault_or fault k rest = elim (eqb fault 0) [ true ↦ rest | false ↦ refused fault k ]

fault_with : (g : Gap) (fault' fault k : ℕ) (o' o : Outcome) → fault' ≡ fault → (fault ≡ 0 → o' ≡ outcome_with g o) →
    fault_or fault' k o' ≡ outcome_with g (fault_or fault k o)
fault_with g fault' fault k o' o e s = ap (λ (n : ℕ). fault_or n k o') e ∙ go (eqb fault 0) refl
  where
    go : (x : Bool) → eqb fault 0 ≡ x → elim x [ true ↦ o' | false ↦ refused fault k ] ≡ outcome_with g (elim x [ true ↦ o | false ↦ refused fault k ])
    go true h = s (eqb-true fault 0 h)
    go false h = refl

lines_with : (m : Limits) (g g' : Gap) (st : Standing) (k : ℕ) (ps : List (List ℕ)) → Same g g' st → AllAgree m g g' ps →
    read_lines m (standing_with g' st) k ps ≡ outcome_with g' (read_lines m st k ps)
unfolding read_lines AllAgree
lines_with m g g' st k [] s a = end_with g' st.turn k st
lines_with m g g' st k (line ∷ []) s a = last_with g' line k st
lines_with m g g' st k (line ∷ next ∷ more) s a =
    let f = form_of m line in
    fault_with g' (line_fault m (standing_with g' st) f) (line_fault m st f) k (read_lines m (stands_after (standing_with g' st) f) (suc k) (next ∷ more))
    (read_lines m (stands_after st f) (suc k) (next ∷ more)) (same_fault m g g' st f s)
    (λ e.
    let after = same_after m g g' st f s e a.0 in
    ap (λ (x : Standing). read_lines m x (suc k) (next ∷ more)) after.with
    ∙ lines_with m g g' (stands_after st f) (suc k) (next ∷ more) after.same a.1)

-- ---- the file

-- what a file comes to by its head and the text after it
file_outcome : (m : Limits) (h : Head) (g : Gap) (rest : List ℕ) → EachShort m.digits (numbers_of (Heading (with_gap h g))) →
    length (file_with h g rest) ≤ m.bytes →
    outcome_of m (file_with h g rest)
    ≡ fault_or (line_fault m before_head (Heading (with_gap h g))) 1 (read_lines m (stands_after before_head (Heading (with_gap h g))) 2 (pieces rest))
file_outcome m h g rest short fits =
    sym (short_enough m (file_with h g rest) fits)
    ∙ ap (read_lines m before_head 1) (pieces_first line rest (spelling_feedless (Heading (with_gap h g))))
    ∙ read_next m before_head 1 line rest
    ∙ ap (λ (f : Form). fault_or (line_fault m before_head f) 1 (read_lines m (stands_after before_head f) 2 (pieces rest))) (spelling_read m (Heading (with_gap h g)) refl short)
  where
    line : List ℕ
    line = spelling_of (Heading (with_gap h g))

head_fault : (m : Limits) (h : Head) (g g' : Gap) → gap_in_range m g ≡ true → gap_in_range m g' ≡ true →
    line_fault m before_head (Heading (with_gap h g')) ≡ line_fault m before_head (Heading (with_gap h g))
unfolding line_fault
head_fault m h g g' r r' = rw (r, r')

-- the gaps agree for a line that is read as a shape, since no line is one of a kind for which they differ
agree : (m : Limits) (g g' : Gap) (line : List ℕ) (more : List (List ℕ)) (s : Shape) → form_of m line ≡ Metal s →
    (gap_for g s.kind ≡ gap_for g' s.kind) ⊎ NoneOf m s.kind (line ∷ more) → gap_for g s.kind ≡ gap_for g' s.kind
unfolding NoneOf
agree m g g' line more s q (inl e) = e
agree m g g' line more s q (inr n) = absurd (n.0 s refl (rw q at (form_spelled m line (ap known q))))

further : (m : Limits) (g g' : Gap) (line : List ℕ) (more : List (List ℕ)) (k : Kind) → (gap_for g k ≡ gap_for g' k) ⊎ NoneOf m k (line ∷ more) →
    (gap_for g k ≡ gap_for g' k) ⊎ NoneOf m k more
unfolding NoneOf
further m g g' line more k (inl e) = inl e
further m g g' line more k (inr n) = inr n.1

all_agree : (m : Limits) (g g' : Gap) (ps : List (List ℕ)) → ((k : Kind) → (gap_for g k ≡ gap_for g' k) ⊎ NoneOf m k ps) → AllAgree m g g' ps
unfolding AllAgree
all_agree m g g' [] same = tt
all_agree m g g' (line ∷ more) same =
    (λ s q. agree m g g' line more s q (same s.kind), all_agree m g g' more (λ k. further m g g' line more k (same k)))

pub gaps_decide : GapsDecide
unfolding stands_after
gaps_decide m h g g' rest k k' same =
    file_outcome m h g' rest k'.short k'.fits
    ∙ fault_with g' (line_fault m before_head (Heading (with_gap h g'))) (line_fault m before_head (Heading (with_gap h g))) 1
    (read_lines m (stands_after before_head (Heading (with_gap h g'))) 2 (pieces rest)) (read_lines m (stands_after before_head (Heading (with_gap h g))) 2 (pieces rest))
    (head_fault m h g g' k.range k'.range)
    (λ e. lines_with m g g' (stands_after before_head (Heading (with_gap h g))) 2 (pieces rest) first (all_agree m g g' (pieces rest) same))
    ∙ sym (ap (outcome_with g') (file_outcome m h g rest k.short k.fits))
  where
    first : Same g g' (stands_after before_head (Heading (with_gap h g)))
    first = record { begun = λ n. let z : ◌≡◌ {A = ℕ} 0 1 = cc in omega arith; gap = refl; shapes = refl }
