-- Document 02's request 6, round corners: squares on both sides of the boundary, and files by their bytes in which one square decides.
use Rattle.std.specs.Prelude.{ℕ, ◌+◌, List, [], ◌∷◌, ◌++◌, map}
use Prim.Native.String.{String}
use Rattle.spelling.specs.Text.{bytes}
use Rattle.geometry.specs.Count.{one_if}
use Rattle.spacing.specs.declared.Keepout.{Keepout}
use Rattle.spacing.specs.Eligible.{eligible, fillable_area}
use Rattle.spacing.specs.SquareCorners.{eligible_before, fillable_before}
use Rattle.cases.specs.Row.{Row, row}
use Rattle.cases.specs.Printing.{prints, printed_lines}

-- a shape of one unit square at (x, y), with a gap
abbrev shape_at : (x y gap : ℕ) → Keepout
shape_at x y gap = record { rect = record { x1 = x; y1 = y; x2 = x + 1; y2 = y + 1 }; gap = gap }

-- which of some squares are eligible, 1 for yes
abbrev tells : List Keepout → List (ℕ × ℕ) → List ℕ
tells ks squares = map (λ s. one_if (eligible ks s.0 s.1)) squares

-- the answer for a layout of side 8 whose window is all of it, with one unit square of metal and a fill that keeps both bounds
abbrev lines_corner : List String
lines_corner =
    "(exact (max 1 0 0 1) (min 1 0 0 1))"
    ∷ "(zoom met (levels 1) (floor 1 0 0 1) (ceiling 1) (kept 0))"
    ∷ "(zoommin exact (levels 5) (low 1) (high 1 0 0 1) (kept 0))"
    ∷ "(density 156)"
    ∷ "(positions 0 1 0)"
    ∷ "(fill safe)"
    ∷ []

abbrev pub corner_rows : List Row
corner_rows =
    row "B = 4: 3 across and 3 down, at each corner" (tells (shape_at 5 5 4 ∷ []) ((9, 9) ∷ (1, 9) ∷ (9, 1) ∷ (1, 1) ∷ [])) (1 ∷ 1 ∷ 1 ∷ 1 ∷ [])
    ∷ row "B = 4: a square nearer than that, across or down" (tells (shape_at 5 5 4 ∷ []) ((9, 8) ∷ (8, 9) ∷ (1, 2) ∷ (2, 1) ∷ [])) (0 ∷ 0 ∷ 0 ∷ 0 ∷ [])
    ∷ row "B = 4: straight beside the shape" (tells (shape_at 5 5 4 ∷ []) ((10, 5) ∷ (9, 5) ∷ (5, 0) ∷ (5, 1) ∷ [])) (1 ∷ 0 ∷ 1 ∷ 0 ∷ [])
    ∷ row "B = 5: 3 and 4 are the gap itself" (tells (shape_at 5 5 5 ∷ []) ((9, 10) ∷ (10, 9) ∷ (9, 9) ∷ (8, 10) ∷ (10, 8) ∷ [])) (1 ∷ 1 ∷ 0 ∷ 0 ∷ 0 ∷ [])
    ∷ row "B = 1: the squares that touch, at a side and at a corner" (tells (shape_at 5 5 1 ∷ []) ((6, 5) ∷ (6, 6) ∷ (7, 5) ∷ (7, 6) ∷ [])) (0 ∷ 0 ∷ 1 ∷ 1 ∷ [])
    ∷ row "B = 0: only the covered square" (tells (shape_at 5 5 0 ∷ []) ((5, 5) ∷ (6, 5) ∷ (4, 5) ∷ (6, 6) ∷ [])) (0 ∷ 1 ∷ 1 ∷ 1 ∷ [])
    ∷ row "each shape by itself and by its own gap"
    (tells (shape_at 0 0 4 ∷ shape_at 8 8 4 ∷ []) ((4, 4) ∷ []) ++ tells (shape_at 0 0 4 ∷ shape_at 8 8 5 ∷ []) ((4, 4) ∷ []))
    (1 ∷ 0 ∷ [])
    ∷ row "the first shape's gap, and the farther one's, count too"
    (tells (shape_at 0 0 5 ∷ shape_at 8 8 4 ∷ []) ((4, 4) ∷ []) ++ tells (shape_at 3 3 0 ∷ shape_at 8 8 5 ∷ []) ((4, 4) ∷ [])
    ++ tells (shape_at 8 8 5 ∷ shape_at 3 3 0 ∷ []) ((4, 4) ∷ []))
    (0 ∷ 0 ∷ 0 ∷ [])
    ∷ row "a wide shape, B = 4"
    (tells (record { rect = record { x1 = 4; y1 = 5; x2 = 8; y2 = 6 }; gap = 4 } ∷ []) ((11, 9) ∷ (10, 9) ∷ (0, 1) ∷ (1, 1) ∷ (0, 2) ∷ []))
    (1 ∷ 0 ∷ 1 ∷ 0 ∷ 0 ∷ [])
    ∷ row "the largest gap: 600,000 and 800,000 are just it"
    (tells (shape_at 0 0 1000000 ∷ []) ((600001, 800001) ∷ (600000, 800001) ∷ (600001, 800000) ∷ (1000000, 1000000) ∷ (1000000, 0) ∷ (1000001, 0) ∷ []))
    (1 ∷ 0 ∷ 0 ∷ 1 ∷ 0 ∷ 1 ∷ [])
    ∷ row "what becomes eligible with B = 4: squares before and now, and all around a shape"
    (one_if (eligible_before (shape_at 5 5 4 ∷ []) 9 9) ∷ one_if (eligible (shape_at 5 5 4 ∷ []) 9 9)
    ∷ one_if (eligible_before (shape_at 5 5 4 ∷ []) 10 5) ∷ one_if (eligible (shape_at 5 5 4 ∷ []) 10 5)
    ∷ fillable_before (shape_at 5 5 4 ∷ []) (record { x1 = 0; y1 = 0; x2 = 11; y2 = 11 })
    ∷ fillable_area (shape_at 5 5 4 ∷ []) (record { x1 = 0; y1 = 0; x2 = 11; y2 = 11 }) ∷ [])
    (0 ∷ 1 ∷ 1 ∷ 1 ∷ 40 ∷ 44 ∷ [])
    ∷ row "a tile that B = 4 leaves whole"
    (prints "(job (size 8) (window 8) (cut 2) (gap 4) (bounds 0 5000) (zoom 0 6))\n(rect 0 0 1 1)\n(fill 1 1 16)\n(end)\n")
    (printed_lines lines_corner)
    ∷ row "one unit of fill more than its squares"
    (prints "(job (size 8) (window 8) (cut 2) (gap 4) (bounds 0 5000) (zoom 0 6))\n(rect 0 0 1 1)\n(fill 1 1 17)\n")
    (bytes "(refused 11 3)\n")
    ∷ row "a tile less the one square that B = 5 takes"
    (prints "(job (size 8) (window 8) (cut 2) (gap 5 4) (bounds 0 5000) (zoom 0 6))\n(rect 0 0 1 1)\n(fill 1 1 15)\n(end)\n")
    (printed_lines lines_corner)
    ∷ row "one unit of fill more than B = 5 leaves"
    (prints "(job (size 8) (window 8) (cut 2) (gap 5 4) (bounds 0 5000) (zoom 0 6))\n(rect 0 0 1 1)\n(fill 1 1 16)\n")
    (bytes "(refused 11 3)\n")
    ∷ row "a tile that D = 4 leaves whole"
    (prints "(job (size 8) (window 8) (cut 2) (gap 5 4) (bounds 0 5000) (zoom 0 6))\n(dummy 0 0 1 1)\n(fill 1 1 16)\n(end)\n")
    (printed_lines lines_corner)
    ∷ row "one unit of fill more than D = 5 leaves"
    (prints "(job (size 8) (window 8) (cut 2) (gap 4 5) (bounds 0 5000) (zoom 0 6))\n(dummy 7 0 8 1)\n(fill 0 1 16)\n")
    (bytes "(refused 11 3)\n")
    ∷ []
