-- A file that was accepted while corner gaps were square is accepted with the same standing: no fillable area falls, so a fill line that was good is
-- good.
use Prim.Native.Nat.{ℕ, ◌≤◌}
use mathlib.Core.Path.{◌≡◌}
use mathlib.Core.List.{List}
use native.Mathlib.Omega.{arith}
use Rattle.spacing.specs.Eligible.{tile}
use Rattle.spacing.proofs.Rounded.{no_area_falls}
use Rattle.forms.specs.declared.Head.{Head}
use Rattle.forms.specs.declared.Form.{Form}
use Rattle.forms.specs.declared.Form.TheVariants.{Unknown, Heading, Metal, Fill, End}
use Rattle.forms.specs.Limits.{Limits}
use Rattle.forms.specs.Forms.{tile_side}
use Rattle.standing.specs.Filling.{keepouts}
use Rattle.standing.specs.Faults.{Standing, fill_fault, own_fault, line_fault, room_of}
use Rattle.jobfile.specs.Acceptance.{Good, none, next}
use Rattle.jobfile.specs.SquareCorners.{room_before, own_fault_before, fault_before, GoodBefore, StillAccepted}
use Rattle.jobfile.proofs.Files.{acceptance}

-- a fill that is good for a room is good for a larger one
fill_still : (h : Head) (amounts : List ℕ) (room room' i j p : ℕ) → room ≤ room' → fill_fault h amounts room i j p ≡ 0 → fill_fault h amounts room' i j p ≡ 0
unfolding fill_fault
fill_still h amounts room room' i j p more e = grind arith

module _ (limits : Limits) where
  own : (st : Standing) (f : Form) → own_fault_before limits st f ≡ 0 → own_fault limits st f ≡ 0
  own st Unknown e = e
  own st (Heading h) e = e
  own st (Metal s) e = e
  own st (Fill i j p) e =
      fill_still st.head st.amounts (room_before st i j) (room_of st i j) i j p
      (no_area_falls (keepouts st.head.gap st.shapes) (tile (tile_side st.head) i j)) e
  own st End e = e

  fault : (st : Standing) (f : Form) → fault_before limits st f ≡ 0 → line_fault limits st f ≡ 0
  unfolding line_fault
  fault st f e = let k : own_fault limits st f ≡ 0 = own st f (grind arith) in grind arith

  still_good : {st st' : Standing} {fs : List Form} → GoodBefore limits st fs st' → Good limits st fs st'
  still_good GoodBefore.none = none
  still_good (GoodBefore.next {st = x} {f = f} short e g) = next short (fault x f e) (still_good g)

pub still_accepted : StillAccepted
still_accepted limits file st a =
    (acceptance limits file).accepted_if st
    (record { forms = a.forms; fits = a.fits; text = a.text; good = still_good limits a.good; ended = a.ended })
