-- Rows for document 02's request 2: the area of the box from (2, 2) to (6, 6), or of an empty one in the last row, and the shapes under it.
use Rattle.std.specs.Prelude.{ℕ, List, [], ◌∷◌}
use Rattle.geometry.specs.declared.Rect.{Rect}
use Rattle.geometry.specs.Layout.{covered_area, shapes_under}
use Rattle.cases.specs.Row.{Row, row}

abbrev corners : (x1 y1 x2 y2 : ℕ) → Rect
corners x1 y1 x2 y2 = record { x1 = x1; y1 = y1; x2 = x2; y2 = y2 }

abbrev numbers : List Rect → Rect → List ℕ
numbers rs b = covered_area rs b ∷ shapes_under rs b ∷ []

abbrev middle : List Rect → List ℕ
middle rs = numbers rs (corners 2 2 6 6)

abbrev pub area_rows : List Row
area_rows =
    row "no rectangle" (middle []) (0 ∷ 0 ∷ [])
    ∷ row "touched at its sides" (middle (corners 0 2 2 6 ∷ corners 6 2 8 6 ∷ corners 2 0 6 2 ∷ corners 2 6 6 8 ∷ [])) (0 ∷ 0 ∷ [])
    ∷ row "touched at its corners" (middle (corners 0 0 2 2 ∷ corners 6 0 8 2 ∷ corners 0 6 2 8 ∷ corners 6 6 8 8 ∷ [])) (0 ∷ 0 ∷ [])
    ∷ row "covered entirely" (middle (corners 0 0 8 8 ∷ [])) (16 ∷ 1 ∷ [])
    ∷ row "crossed, with no corner inside" (middle (corners 0 3 8 4 ∷ corners 0 5 8 6 ∷ [])) (8 ∷ 2 ∷ [])
    ∷ row "one square of each at the corners" (middle (corners 1 1 3 3 ∷ corners 5 1 7 3 ∷ corners 1 5 3 7 ∷ corners 5 5 7 7 ∷ [])) (4 ∷ 4 ∷ [])
    ∷ row "inside, across a side, touching" (middle (corners 3 3 5 5 ∷ corners 5 3 9 4 ∷ corners 6 4 7 5 ∷ [])) (5 ∷ 2 ∷ [])
    ∷ row "a square that two share" (middle (corners 2 2 4 4 ∷ corners 3 3 5 5 ∷ [])) (7 ∷ 2 ∷ [])
    ∷ row "a rectangle without a square" (middle (corners 3 3 3 5 ∷ [])) (0 ∷ 0 ∷ [])
    ∷ row "an empty box inside a rectangle" (numbers (corners 0 0 8 8 ∷ []) (corners 4 2 4 6)) (0 ∷ 0 ∷ [])
    ∷ []
