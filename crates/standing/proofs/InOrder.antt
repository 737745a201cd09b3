-- Of several faults of a line the lowest number is given: a fault comes where the tests before its own pass and its own fails, whatever the tests after
-- it say.
use Prim.Native.Nat.{ℕ}
use mathlib.Core.Path.{◌≡◌}
use mathlib.Core.Bool.{true, false}
use mathlib.Core.List.{List}
use lib.Dec.{leb, ltb, eqb}
use lib.ListN.{length}
use Rattle.geometry.specs.declared.Rect.{Rect}
use Rattle.geometry.specs.Layout.{shares_square}
use Rattle.tiles.specs.Tiles.{number_at}
use Rattle.forms.specs.declared.Head.{Head}
use Rattle.forms.specs.Limits.{Limits}
use Rattle.forms.specs.Shapes.{rectangles}
use Rattle.forms.specs.Forms.{tiles_across, fits_layout, has_tile}
use Rattle.standing.specs.Faults.{Standing, shape_fault, fill_fault}

-- a shape: 6, 8, 9
module _ (m : Limits) (st : Standing) (r : Rect) where
  pub outside_first : fits_layout st.head r ≡ false → 6 ≡ shape_fault m st r
  unfolding shape_fault
  outside_first a = rw a

  module _ (a : fits_layout st.head r ≡ true) where
    pub many_next : ltb (length st.shapes) m.shapes ≡ false → 8 ≡ shape_fault m st r
    unfolding shape_fault
    many_next b = rw (a, b)

    pub shared_last : ltb (length st.shapes) m.shapes ≡ true → shares_square (rectangles st.shapes) r ≡ true → 9 ≡ shape_fault m st r
    unfolding shape_fault
    shared_last b c = rw (a, b, c)

-- a fill: 7, 10, 11
module _ (h : Head) (amounts : List ℕ) (room i j p : ℕ) where
  pub no_tile_first : has_tile h i j ≡ false → 7 ≡ fill_fault h amounts room i j p
  unfolding fill_fault
  no_tile_first a = rw a

  module _ (a : has_tile h i j ≡ true) where
    pub filled_next : eqb (number_at amounts (tiles_across h) i j) 0 ≡ false → 10 ≡ fill_fault h amounts room i j p
    unfolding fill_fault
    filled_next b = rw (a, b)

    pub over_last : eqb (number_at amounts (tiles_across h) i j) 0 ≡ true → leb p room ≡ false → 11 ≡ fill_fault h amounts room i j p
    unfolding fill_fault
    over_last b c = rw (a, b, c)
