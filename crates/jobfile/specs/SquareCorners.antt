-- Document 02, request 6: a file that was accepted while corner gaps were square is accepted now, with what stood then. Only the fault of a fill looked
-- at a fillable area, so it alone has an earlier form here, and the rest is as in standing's Faults and in Acceptance. The unit's specs/Guarantee.antt says what follows for what is printed.
use Rattle.std.specs.Prelude.{ℕ, ◌≤◌, ◌≡◌, List, [], ◌∷◌, length}
use Rattle.spelling.specs.Decimal.{EachShort}
use Rattle.spacing.specs.Eligible.{tile}
use Rattle.spacing.specs.SquareCorners.{fillable_before}
use Rattle.forms.specs.declared.Form.{Form}
use Rattle.forms.specs.declared.Form.TheVariants.{Unknown, Heading, Metal, Fill, End}
use Rattle.forms.specs.Limits.{Limits}
use Rattle.forms.specs.Forms.{known, in_range, tile_side}
use Rattle.lines.specs.Spellings.{numbers_of}
use Rattle.standing.specs.declared.Turn.TheVariants.{Done}
use Rattle.standing.specs.Filling.{keepouts}
use Rattle.standing.specs.Faults.{Standing, before_head, in_turn, check, fill_fault, own_fault, stands_after}
use Rattle.jobfile.specs.File.{outcome_of, accepted}
use Rattle.jobfile.specs.Acceptance.{forms_text}

-- the fillable area of tile (i, j), by square corners
abbrev pub room_before : Standing → (i j : ℕ) → ℕ
room_before st i j = fillable_before (keepouts st.head.gap st.shapes) (tile (tile_side st.head) i j)

-- the fault of a line, by that area
abbrev pub own_fault_before : Limits → Standing → Form → ℕ
own_fault_before limits st Unknown = own_fault limits st Unknown
own_fault_before limits st (Heading h) = own_fault limits st (Heading h)
own_fault_before limits st (Metal s) = own_fault limits st (Metal s)
own_fault_before limits st (Fill i j p) = fill_fault st.head st.amounts (room_before st i j) i j p
own_fault_before limits st End = own_fault limits st End

abbrev pub fault_before : Limits → Standing → Form → ℕ
fault_before limits st f = check (known f) 2 (check (in_range limits f) 3 (check (in_turn st.turn f) 4 (own_fault_before limits st f)))

-- every form was good where it stood
pub data GoodBefore (limits : Limits) : Standing → List Form → Standing → Type 0 where
  none : {st : Standing} → GoodBefore limits st [] st
  next : {st st' : Standing} {f : Form} {fs : List Form} → EachShort limits.digits (numbers_of f) → fault_before limits st f ≡ 0 →
      GoodBefore limits (stands_after st f) fs st' → GoodBefore limits st (f ∷ fs) st'

-- a file was accepted with what stood at its end
pub record AcceptedBefore (limits : Limits) (file : List ℕ) (st : Standing) : Type 0 where
  pub forms : List Form
  pub fits : length file ≤ limits.bytes
  pub text : file ≡ forms_text forms
  pub good : GoodBefore limits before_head forms st
  pub ended : st.turn ≡ Done

-- then it still is; proofs/StillAccepted.antt proves it for all limits
abbrev pub StillAccepted : Type 0
StillAccepted = (limits : Limits) (file : List ℕ) (st : Standing) → AcceptedBefore limits file st → outcome_of limits file ≡ accepted st
