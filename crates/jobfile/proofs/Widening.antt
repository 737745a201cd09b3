-- Where limits are widened, every file that was accepted still is, with the same standing: its forms stay good.
use Prim.Native.Nat.{ℕ, ◌≤◌}
use mathlib.Core.Path.{◌≡◌}
use mathlib.Core.Bool.{true}
use mathlib.Core.List.{List, [], ◌∷◌}
use native.Mathlib.Nat.{le_trans}
use native.Mathlib.Omega.{arith}
use borrow.Author.Tests.{le-leb}
use Rattle.spelling.specs.Decimal.{EachShort}
use Rattle.geometry.specs.declared.Rect.{Rect}
use Rattle.forms.specs.declared.Head.{Head}
use Rattle.forms.specs.declared.Form.{Form}
use Rattle.forms.specs.declared.Form.TheVariants.{Unknown, Heading, Metal, Fill, End}
use Rattle.forms.specs.declared.Gap.{Gap}
use Rattle.forms.specs.Limits.{Limits, Widened}
use Rattle.forms.specs.Forms.{in_span, gap_in_range, head_in_range, rect_in_range, fill_in_range, in_range, agrees}
use Rattle.lines.specs.Spellings.{numbers_of}
use Rattle.forms.proofs.Spans.{Between, ranges}
use Rattle.standing.specs.Faults.{Standing, line_fault, own_fault}
use Rattle.jobfile.specs.Acceptance.{Good, none, next, AcceptedFile, Widening}
use Rattle.standing.proofs.Faultless.{head_faultless, no_fault, faultless, no_shape_fault, shape_faultless}
use Rattle.jobfile.proofs.Files.{acceptance}

each_short : {old new : ℕ} → old ≤ new → (ns : List ℕ) → EachShort old ns → EachShort new ns
each_short h [] e = tt
each_short h (n ∷ ns) e = (le_trans e.0 h, each_short h ns e.1)

-- a number in a range is in every wider one
wider : (lo hi n : ℕ) {most : ℕ} → most ≤ hi → Between lo most n → in_span lo hi n ≡ true
wider lo hi n h b = rw (le-leb lo n b.least, le-leb n hi (le_trans b.most h))

module _ (old new : Limits) (w : Widened old new) where
  gap_range : (g : Gap) → gap_in_range old g ≡ true → gap_in_range new g ≡ true
  gap_range g e = grind arith

  head_range : (h : Head) → head_in_range old h ≡ true → head_in_range new h ≡ true
  head_range h e =
      let r = ranges old h e in
      rw (
        wider 1 new.side h.size w.side r.size,
        wider 1 new.side h.window w.side r.window,
        wider 1 new.tiles h.cut w.tiles r.cut,
        gap_range h.gap r.gap,
        wider 0 new.bound h.lower w.bound r.lower,
        wider 0 new.bound h.upper w.bound r.upper,
        wider 0 new.accuracy h.accuracy w.accuracy r.accuracy,
        wider 1 new.levels h.levels w.levels r.levels,
      )

  rect_range : (r : Rect) → rect_in_range old r ≡ true → rect_in_range new r ≡ true
  rect_range r e = grind arith

  fill_range : (i j p : ℕ) → fill_in_range old i j p ≡ true → fill_in_range new i j p ≡ true
  fill_range i j p e = grind arith

  range : (f : Form) → in_range old f ≡ true → in_range new f ≡ true
  range Unknown e = e
  range (Heading h) e = head_range h e
  range (Metal s) e = rect_range s.rect e
  range (Fill i j p) e = fill_range i j p e
  range End e = e

  agree : (h : Head) → agrees old h ≡ true → agrees new h ≡ true
  agree h e = grind arith

  own : (st : Standing) (f : Form) → own_fault old st f ≡ 0 → own_fault new st f ≡ 0
  own st Unknown e = e
  own st (Heading h) e = rw (agree h (head_faultless old h e))
  own st (Metal s) e =
      let g = no_shape_fault old st s.rect e in
      shape_faultless new st s.rect (record { fits = g.fits; room = le_trans g.room w.shapes; free = g.free })
  own st (Fill i j p) e = e
  own st End e = e

  fault : (st : Standing) (f : Form) → line_fault old st f ≡ 0 → line_fault new st f ≡ 0
  fault st f e =
      let g = no_fault old st f e in
      faultless new st f (record { spelled = g.spelled; range = range f g.range; turn = g.turn; own = own st f g.own })

  still_good : {st st' : Standing} {fs : List Form} → Good old st fs st' → Good new st fs st'
  still_good none = none
  still_good (next {st = x} {f = f} short e g) = next (each_short w.digits (numbers_of f) short) (fault x f e) (still_good g)

  still_accepted : (file : List ℕ) (st : Standing) → AcceptedFile old file st → AcceptedFile new file st
  still_accepted file st a =
      record { forms = a.forms; fits = le_trans a.fits w.bytes; text = a.text; good = still_good a.good; ended = a.ended }

pub widening : Widening
widening old new w file st e =
    (acceptance new file).accepted_if st (still_accepted old new w file st ((acceptance old file).accepted_only_if st e))
