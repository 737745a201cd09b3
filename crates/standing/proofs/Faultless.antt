-- A form has no fault exactly if it passes every test.
use Prim.Native.Nat.{ℕ, ◌≤◌, ◌<◌}
use mathlib.Core.Path.{◌≡◌}
use mathlib.Core.Bool.{true, false}
use mathlib.Core.List.{List}
use native.Mathlib.Omega.{arith}
use lib.ListN.{length}
use borrow.Author.Tests.{lt-ltb}
use Rattle.geometry.specs.declared.Rect.{Rect}
use Rattle.geometry.specs.Layout.{shares_square}
use Rattle.tiles.specs.Tiles.{number_at}
use Rattle.forms.specs.declared.Form.{Form}
use Rattle.forms.specs.declared.Head.{Head}
use Rattle.forms.specs.Limits.{Limits}
use Rattle.forms.specs.Shapes.{rectangles}
use Rattle.forms.specs.Forms.{known, in_range, tiles_across, agrees, fits_layout}
use Rattle.standing.specs.declared.fault.Fault.{Fault}
use Rattle.standing.specs.Fault.{fault_number}
use Rattle.standing.specs.Faults.{Standing, in_turn, check, shape_fault, fill_fault, own_fault, line_fault}

-- no fault has the number 0
pub numbered : (f : Fault) → 1 ≤ fault_number f
numbered f = grind arith

pub record NoFault (m : Limits) (st : Standing) (f : Form) : Type 0 where
  pub spelled : known f ≡ true
  pub range : in_range m f ≡ true
  pub turn : in_turn st.turn f ≡ true
  pub own : own_fault m st f ≡ 0

pub no_fault : (m : Limits) (st : Standing) (f : Form) → line_fault m st f ≡ 0 → NoFault m st f
unfolding line_fault
no_fault m st f e = record { spelled = grind arith; range = grind arith; turn = grind arith; own = grind arith }

pub faultless : (m : Limits) (st : Standing) (f : Form) → NoFault m st f → line_fault m st f ≡ 0
unfolding line_fault
faultless m st f g = rw (g.spelled, g.range, g.turn, g.own)

pub head_faultless : (m : Limits) (h : Head) → check (agrees m h) 5 0 ≡ 0 → agrees m h ≡ true
head_faultless m h e = grind arith

pub record NoShapeFault (m : Limits) (st : Standing) (r : Rect) : Type 0 where
  pub fits : fits_layout st.head r ≡ true
  pub room : length st.shapes < m.shapes
  pub free : shares_square (rectangles st.shapes) r ≡ false

pub no_shape_fault : (m : Limits) (st : Standing) (r : Rect) → shape_fault m st r ≡ 0 → NoShapeFault m st r
unfolding shape_fault
no_shape_fault m st r e = record { fits = grind arith; room = grind arith; free = grind arith }

pub shape_faultless : (m : Limits) (st : Standing) (r : Rect) → NoShapeFault m st r → shape_fault m st r ≡ 0
unfolding shape_fault
shape_faultless m st r g = rw (g.fits, lt-ltb (length st.shapes) m.shapes g.room, g.free)

pub record NoFillFault (h : Head) (amounts : List ℕ) (room i j p : ℕ) : Type 0 where
  pub column : i < tiles_across h
  pub row : j < tiles_across h
  pub free : number_at amounts (tiles_across h) i j ≡ 0
  pub fits : p ≤ room

pub no_fill_fault : (h : Head) (amounts : List ℕ) (room i j p : ℕ) → fill_fault h amounts room i j p ≡ 0 → NoFillFault h amounts room i j p
unfolding fill_fault
no_fill_fault h amounts room i j p e = record { column = grind arith; row = grind arith; free = grind arith; fits = grind arith }
