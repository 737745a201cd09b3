-- Rows of request 7: positions under, within and over the bounds, of job A and of small layouts, and files by their bytes. In job A 4 positions have
-- the area 1, 12 the area 2 and 9 the area 4, of 16.
use Rattle.std.specs.Prelude.{ℕ, List, [], ◌∷◌}
use Rattle.geometry.specs.declared.Rect.{Rect}
use Rattle.positions.specs.Tallies.{tally_of}
use Rattle.cases.specs.Row.{Row, row}
use Rattle.cases.specs.JobA.{shapes_a}
use Rattle.cases.specs.Printing.{prints, printed_lines}

-- under, within and over
abbrev tells : List Rect → (n w lower upper : ℕ) → List ℕ
tells rs n w lower upper = let t = tally_of rs n w lower upper in t.under ∷ t.within ∷ t.over ∷ []

-- one unit square of metal at the corner of the layout
abbrev corner : List Rect
corner = record { x1 = 0; y1 = 0; x2 = 1; y2 = 1 } ∷ []

-- two rows of three squares
abbrev slab : List Rect
slab = record { x1 = 0; y1 = 0; x2 = 3; y2 = 2 } ∷ []

-- three shapes that touch, from the lower left corner to the right
abbrev three : List Rect
three = record { x1 = 0; y1 = 0; x2 = 1; y2 = 1 } ∷ record { x1 = 1; y1 = 0; x2 = 3; y2 = 2 } ∷ record { x1 = 3; y1 = 0; x2 = 5; y2 = 1 } ∷ []

abbrev pub position_rows : List Row
position_rows =
    row "job A: all within" (tells shapes_a 8 4 0 5000) (0 ∷ 25 ∷ 0 ∷ [])
    ∷ row "L at the least area" (tells shapes_a 8 4 625 10000) (0 ∷ 25 ∷ 0 ∷ [])
    ∷ row "L one ten-thousandth above the least area" (tells shapes_a 8 4 626 10000) (4 ∷ 21 ∷ 0 ∷ [])
    ∷ row "U at the greatest area" (tells shapes_a 8 4 0 2500) (0 ∷ 25 ∷ 0 ∷ [])
    ∷ row "U one ten-thousandth below the greatest area" (tells shapes_a 8 4 0 2499) (0 ∷ 16 ∷ 9 ∷ [])
    ∷ row "L and U at 2 of 16, the area of most positions" (tells shapes_a 8 4 1250 1250) (4 ∷ 12 ∷ 9 ∷ [])
    ∷ row "L above 2 of 16, U below 4 of 16" (tells shapes_a 8 4 1251 2499) (16 ∷ 0 ∷ 9 ∷ [])
    ∷ row "U below 2 of 16" (tells shapes_a 8 4 0 1249) (0 ∷ 4 ∷ 21 ∷ [])
    ∷ row "L and U of 0: every window with metal is over" (tells shapes_a 8 4 0 0) (0 ∷ 0 ∷ 25 ∷ [])
    ∷ row "L and U of 10000: every window that is not full is under" (tells shapes_a 8 4 10000 10000) (25 ∷ 0 ∷ 0 ∷ [])
    ∷ row "no shape, L of 0" (tells [] 8 4 0 0) (0 ∷ 25 ∷ 0 ∷ [])
    ∷ row "no shape, L of 1" (tells [] 8 4 1 10000) (25 ∷ 0 ∷ 0 ∷ [])
    ∷ row "the window is the layout: one position" (tells shapes_a 8 8 626 10000) (1 ∷ 0 ∷ 0 ∷ [])
    ∷ row "the window is the layout, at its area" (tells shapes_a 8 8 625 625) (0 ∷ 1 ∷ 0 ∷ [])
    ∷ row "a window of 1: every square is a position" (tells shapes_a 8 1 1 10000) (60 ∷ 4 ∷ 0 ∷ [])
    ∷ row "a window of 1, U below 10000" (tells shapes_a 8 1 0 9999) (0 ∷ 60 ∷ 4 ∷ [])
    ∷ row "one of 9 squares is 1111.1 ten-thousandths: L of 1111 is kept, of 1112 not" (tells corner 4 3 1111 10000) (3 ∷ 1 ∷ 0 ∷ [])
    ∷ row "the same, L of 1112" (tells corner 4 3 1112 10000) (4 ∷ 0 ∷ 0 ∷ [])
    ∷ row "U of 1112 is kept, of 1111 not" (tells corner 4 3 0 1112) (0 ∷ 4 ∷ 0 ∷ [])
    ∷ row "the same, U of 1111" (tells corner 4 3 0 1111) (0 ∷ 3 ∷ 1 ∷ [])
    ∷ row "6 of 9 squares are 6666.7 ten-thousandths: L of 6667 is not kept, though the density is rounded to it" (tells slab 3 3 6667 10000) (1 ∷ 0 ∷ 0 ∷ [])
    ∷ row "6 of 64 squares are 937.5, which is rounded to 938: L of 938 is not kept" (tells slab 8 8 938 10000) (1 ∷ 0 ∷ 0 ∷ [])
    ∷ row "three shapes beside each other: the last one counts too" (tells three 5 2 2500 5000) (9 ∷ 4 ∷ 3 ∷ [])
    ∷ row "job A, L and U both at the area that most positions have: equal is within"
    (prints "(job (size 8) (window 4) (cut 2) (gap 1) (bounds 1250 1250) (zoom 0 6))\n(rect 3 3 5 5)\n(end)\n")
    (printed_lines
    ("(exact (max 4 1 1 1) (min 1 0 0 1))"
    ∷ "(zoom met (levels 2) (floor 4 2 2 1) (ceiling 4) (kept 0))"
    ∷ "(zoommin exact (levels 4) (low 1) (high 1 0 0 1) (kept 0))"
    ∷ "(density 2500)"
    ∷ "(positions 4 12 9)"
    ∷ "(fill broken under 0 0)"
    ∷ []))
    ∷ row "job A, L above 2 of 16 and U below 4 of 16: no position is within"
    (prints "(job (size 8) (window 4) (cut 2) (gap 1) (bounds 1251 2499) (zoom 0 6))\n(rect 3 3 5 5)\n(end)\n")
    (printed_lines
    ("(exact (max 4 1 1 1) (min 1 0 0 1))"
    ∷ "(zoom met (levels 2) (floor 4 2 2 1) (ceiling 4) (kept 0))"
    ∷ "(zoommin exact (levels 4) (low 1) (high 1 0 0 1) (kept 0))"
    ∷ "(density 2500)"
    ∷ "(positions 16 0 9)"
    ∷ "(fill broken under 0 0)"
    ∷ []))
    ∷ row "the fill breaks U, and no position of the shapes alone does"
    (prints "(job (size 8) (window 4) (cut 2) (gap 1) (bounds 0 2500) (zoom 0 6))\n(rect 3 3 5 5)\n(fill 0 0 4)\n(end)\n")
    (printed_lines
    ("(exact (max 4 1 1 1) (min 1 0 0 1))"
    ∷ "(zoom met (levels 2) (floor 4 2 2 1) (ceiling 4) (kept 0))"
    ∷ "(zoommin exact (levels 4) (low 1) (high 1 0 0 1) (kept 0))"
    ∷ "(density 2500)"
    ∷ "(positions 0 25 0)"
    ∷ "(fill broken over 0 0)"
    ∷ []))
    ∷ row "drawn metal and a dummy beside it: both count"
    (prints "(job (size 8) (window 4) (cut 2) (gap 1) (bounds 0 3000) (zoom 0 6))\n(rect 3 3 5 5)\n(dummy 5 3 7 5)\n(end)\n")
    (printed_lines
    ("(exact (max 8 3 1 2) (min 1 0 0 1))"
    ∷ "(zoom met (levels 3) (floor 8 3 1 2) (ceiling 8) (kept 0))"
    ∷ "(zoommin exact (levels 4) (low 1) (high 1 0 0 1) (kept 0))"
    ∷ "(density 5000)"
    ∷ "(positions 0 16 9)"
    ∷ "(fill broken over 1 1)"
    ∷ []))
    ∷ []
