-- Files by their bytes, for document 02's request 5: dummies, and what the head says of gaps.
use Rattle.std.specs.Prelude.{ℕ, List, [], ◌∷◌}
use Prim.Native.String.{String}
use Rattle.spelling.specs.Text.{bytes}
use Rattle.forms.specs.Limits.{unit_limits}
use Rattle.jobfile.specs.File.{outcome_of}
use Rattle.unit.specs.Whole.{printed_of}
use Rattle.cases.specs.Row.{Row, row}
use Rattle.cases.specs.Printing.{prints, printed_lines, lines_a}

-- what the program would print for a file, were no more than two shapes allowed
abbrev prints_two : String → List ℕ
prints_two file =
    let m = unit_limits in
    printed_of
    (outcome_of
    (record {
      bytes = m.bytes;
      digits = m.digits;
      shapes = 2;
      side = m.side;
      tiles = m.tiles;
      bound = m.bound;
      accuracy = m.accuracy;
      levels = m.levels;
      amount = m.amount;
    })
    (bytes file))

abbrev pub dummy_rows : List Row
dummy_rows =
    row "one unit of fill more than D leaves"
    (prints "(job (size 8) (window 4) (cut 2) (gap 1 2) (bounds 0 5000) (zoom 0 6))\n(dummy 3 3 5 5)\n(fill 0 0 4)\n")
    (bytes "(refused 11 3)\n")
    ∷ row "a greater B keeps fill from drawn metal"
    (prints "(job (size 8) (window 4) (cut 2) (gap 2 1) (bounds 0 5000) (zoom 0 6))\n(rect 3 3 5 5)\n(fill 0 0 4)\n")
    (bytes "(refused 11 3)\n")
    ∷ row "D is B where the head has one gap"
    (prints "(job (size 8) (window 4) (cut 2) (gap 1) (bounds 0 5000) (zoom 0 6))\n(dummy 3 3 5 5)\n(fill 1 1 1)\n")
    (bytes "(refused 11 3)\n")
    ∷ row "D of 0: all but what the dummy covers"
    (prints "(job (size 8) (window 4) (cut 2) (gap 1 0) (bounds 0 5000) (zoom 0 6))\n(dummy 3 3 5 5)\n(fill 1 1 3)\n(end)\n")
    (printed_lines lines_a)
    ∷ row "D of 0: a covered square"
    (prints "(job (size 8) (window 4) (cut 2) (gap 1 0) (bounds 0 5000) (zoom 0 6))\n(dummy 3 3 5 5)\n(fill 1 1 4)\n")
    (bytes "(refused 11 3)\n")
    ∷ row "both kinds in areas, counts and loads"
    (prints "(job (size 8) (window 4) (cut 2) (gap 1 2) (bounds 0 5000) (zoom 0 6))\n(dummy 5 3 6 5)\n(rect 3 3 5 5)\n(dummy 1 1 3 3)\n(end)\n")
    (printed_lines
    ("(exact (max 8 1 1 2) (min 1 0 4 1))"
    ∷ "(zoom exact (levels 4) (floor 8 1 1 2) (ceiling 8) (kept 0))"
    ∷ "(zoommin exact (levels 4) (low 1) (high 1 0 4 1) (kept 0))"
    ∷ "(density 5000)"
    ∷ "(positions 0 25 0)"
    ∷ "(fill undecided over 0 0)"
    ∷ []))
    ∷ row "a dummy on drawn metal"
    (prints "(job (size 8) (window 4) (cut 2) (gap 1 2) (bounds 0 5000) (zoom 0 6))\n(rect 3 3 5 5)\n(dummy 4 4 6 6)\n")
    (bytes "(refused 9 3)\n")
    ∷ row "drawn metal on a dummy"
    (prints "(job (size 8) (window 4) (cut 2) (gap 1 2) (bounds 0 5000) (zoom 0 6))\n(dummy 3 3 5 5)\n(rect 4 4 6 6)\n")
    (bytes "(refused 9 3)\n")
    ∷ row "both kinds, each with its gap to fill"
    (prints "(job (size 8) (window 4) (cut 2) (gap 1 2) (bounds 0 5000) (zoom 0 6))\n(rect 3 3 5 5)\n(dummy 7 7 8 8)\n(fill 0 0 4)\n(fill 2 3 2)\n(end)\n")
    (printed_lines
    ("(exact (max 4 1 1 1) (min 1 0 0 1))"
    ∷ "(zoom exact (levels 4) (floor 4 2 2 1) (ceiling 4) (kept 0))"
    ∷ "(zoommin exact (levels 4) (low 1) (high 1 0 0 1) (kept 0))"
    ∷ "(density 2500)"
    ∷ "(positions 0 25 0)"
    ∷ "(fill safe)"
    ∷ []))
    ∷ row "both kinds, one unit of fill too many"
    (prints "(job (size 8) (window 4) (cut 2) (gap 1 2) (bounds 0 5000) (zoom 0 6))\n(rect 3 3 5 5)\n(dummy 7 7 8 8)\n(fill 2 3 3)\n")
    (bytes "(refused 11 4)\n")
    ∷ row "D is B and no more where the head has one gap"
    (prints "(job (size 8) (window 4) (cut 2) (gap 1) (bounds 0 5000) (zoom 0 6))\n(dummy 3 3 5 5)\n(fill 0 0 4)\n(end)\n")
    (printed_lines lines_a)
    ∷ row "a dummy on a dummy"
    (prints "(job (size 8) (window 4) (cut 2) (gap 1 2) (bounds 0 5000) (zoom 0 6))\n(dummy 3 3 5 5)\n(dummy 4 4 6 6)\n")
    (bytes "(refused 9 3)\n")
    ∷ row "a dummy whose corners are exchanged"
    (prints "(job (size 8) (window 4) (cut 2) (gap 1) (bounds 0 5000) (zoom 0 6))\n(dummy 5 5 3 3)\n")
    (bytes "(refused 6 2)\n")
    ∷ row "dummies in loads for the lower bound; D as large as may be"
    (prints "(job (size 2) (window 2) (cut 2) (gap 0 1000000) (bounds 10000 10000) (zoom 0 6))\n(dummy 0 0 2 2)\n(end)\n")
    (printed_lines
    ("(exact (max 4 0 0 1) (min 4 0 0 1))"
    ∷ "(zoom met (levels 1) (floor 4 0 0 1) (ceiling 4) (kept 0))"
    ∷ "(zoommin exact (levels 3) (low 4) (high 4 0 0 1) (kept 0))"
    ∷ "(density 10000)"
    ∷ "(positions 0 1 0)"
    ∷ "(fill undecided under 0 0)"
    ∷ []))
    ∷ row "a third shape of two allowed, a rectangle"
    (prints_two "(job (size 8) (window 4) (cut 2) (gap 1) (bounds 0 5000) (zoom 0 6))\n(rect 0 0 1 1)\n(dummy 2 2 3 3)\n(rect 4 4 5 5)\n")
    (bytes "(refused 8 4)\n")
    ∷ row "a third shape of two allowed, a dummy"
    (prints_two "(job (size 8) (window 4) (cut 2) (gap 1) (bounds 0 5000) (zoom 0 6))\n(rect 0 0 1 1)\n(dummy 2 2 3 3)\n(dummy 4 4 5 5)\n")
    (bytes "(refused 8 4)\n")
    ∷ row "a third shape of two allowed, a dummy past the layout"
    (prints_two "(job (size 8) (window 4) (cut 2) (gap 1) (bounds 0 5000) (zoom 0 6))\n(rect 0 0 1 1)\n(dummy 2 2 3 3)\n(dummy 4 4 9 5)\n")
    (bytes "(refused 6 4)\n")
    ∷ row "a third shape of two allowed, a dummy on another"
    (prints_two "(job (size 8) (window 4) (cut 2) (gap 1) (bounds 0 5000) (zoom 0 6))\n(rect 0 0 1 1)\n(dummy 2 2 3 3)\n(dummy 2 2 3 3)\n")
    (bytes "(refused 8 4)\n")
    ∷ row "a dummy past the layout"
    (prints "(job (size 8) (window 4) (cut 2) (gap 1) (bounds 0 5000) (zoom 0 6))\n(dummy 3 3 9 5)\n")
    (bytes "(refused 6 2)\n")
    ∷ row "a dummy after a fill"
    (prints "(job (size 8) (window 4) (cut 2) (gap 1) (bounds 0 5000) (zoom 0 6))\n(fill 0 0 1)\n(dummy 3 3 5 5)\n")
    (bytes "(refused 4 3)\n")
    ∷ row "a dummy before the head" (prints "(dummy 3 3 5 5)\n") (bytes "(refused 4 1)\n")
    ∷ row "a dummy after the end" (prints "(job (size 8) (window 4) (cut 2) (gap 1) (bounds 0 5000) (zoom 0 6))\n(end)\n(dummy 3 3 5 5)\n") (bytes "(refused 4 3)\n")
    ∷ row "a dummy with three corners"
    (prints "(job (size 8) (window 4) (cut 2) (gap 1) (bounds 0 5000) (zoom 0 6))\n(dummy 3 3 5)\n")
    (bytes "(refused 2 2)\n")
    ∷ row "a head with D that disagrees"
    (prints "(job (size 8) (window 9) (cut 9) (gap 1 1000000) (bounds 0 5000) (zoom 0 6))\n")
    (bytes "(refused 5 1)\n")
    ∷ []
