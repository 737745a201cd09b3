-- Files by their bytes: job A's six lines, the other ends and verdicts, and refusals with their number and line.
use Rattle.std.specs.Prelude.{List, [], ◌∷◌}
use Rattle.spelling.specs.Text.{bytes}
use Rattle.cases.specs.Row.{Row, row}
use Rattle.cases.specs.Printing.{prints, printed_lines, lines_a}

abbrev pub file_rows : List Row
file_rows =
    row "job A"
    (prints "(job (size 8) (window 4) (cut 2) (gap 1) (bounds 0 5000) (zoom 0 6))\n(rect 3 3 5 5)\n(fill 0 0 2)\n(end)\n")
    (printed_lines lines_a)
    ∷ row "empty file" (prints "") (bytes "(refused 12 1)\n")
    ∷ row "one line feed" (prints "\n") (bytes "(refused 2 1)\n")
    ∷ row "no end"
    (prints "(job (size 8) (window 4) (cut 2) (gap 1) (bounds 0 5000) (zoom 0 6))\n(rect 3 3 5 5)\n(fill 0 0 2)\n")
    (bytes "(refused 12 4)\n")
    ∷ row "no last line feed" (prints "(job (size 8) (window 4) (cut 2) (gap 1) (bounds 0 5000) (zoom 0 6))\n(end)") (bytes "(refused 2 2)\n")
    ∷ row "doubled space" (prints "(job (size 8) (window 4) (cut 2) (gap 1) (bounds 0  5000) (zoom 0 6))\n") (bytes "(refused 2 1)\n")
    ∷ row "leading zero" (prints "(job (size 08) (window 4) (cut 2) (gap 1) (bounds 0 5000) (zoom 0 6))\n") (bytes "(refused 2 1)\n")
    ∷ row "rectangle first" (prints "(rect 3 3 5 5)\n") (bytes "(refused 4 1)\n")
    ∷ row "second head"
    (prints
    "(job (size 8) (window 4) (cut 2) (gap 1) (bounds 0 5000) (zoom 0 6))\n(job (size 8) (window 9) (cut 2) (gap 1) (bounds 0 5000) (zoom 0 6))\n")
    (bytes "(refused 4 2)\n")
    ∷ row "window past the layout" (prints "(job (size 8) (window 9) (cut 9) (gap 1) (bounds 0 5000) (zoom 0 6))\n") (bytes "(refused 5 1)\n")
    ∷ row "rectangle past the layout"
    (prints "(job (size 8) (window 4) (cut 2) (gap 1) (bounds 0 5000) (zoom 0 6))\n(rect 3 3 9 5)\n")
    (bytes "(refused 6 2)\n")
    ∷ row "tile past the layout"
    (prints "(job (size 8) (window 4) (cut 2) (gap 1) (bounds 0 5000) (zoom 0 6))\n(fill 0 4 2)\n")
    (bytes "(refused 7 2)\n")
    ∷ row "shared unit square"
    (prints "(job (size 8) (window 4) (cut 2) (gap 1) (bounds 0 5000) (zoom 0 6))\n(rect 3 3 5 5)\n(rect 4 4 6 6)\n")
    (bytes "(refused 9 3)\n")
    ∷ row "filled twice"
    (prints "(job (size 8) (window 4) (cut 2) (gap 1) (bounds 0 5000) (zoom 0 6))\n(fill 0 0 2)\n(fill 0 0 1)\n")
    (bytes "(refused 10 3)\n")
    ∷ row "one unit of fill too many"
    (prints "(job (size 8) (window 4) (cut 2) (gap 1) (bounds 0 5000) (zoom 0 6))\n(rect 3 3 5 5)\n(fill 0 0 5)\n")
    (bytes "(refused 11 3)\n")
    ∷ row "form after the end" (prints "(job (size 8) (window 4) (cut 2) (gap 1) (bounds 0 5000) (zoom 0 6))\n(end)\n(end)\n") (bytes "(refused 4 3)\n")
    ∷ row "bytes after the end" (prints "(job (size 8) (window 4) (cut 2) (gap 1) (bounds 0 5000) (zoom 0 6))\n(end)\n(end)") (bytes "(refused 2 3)\n")
    ∷ row "stopped at one level"
    (prints "(job (size 8) (window 4) (cut 2) (gap 1) (bounds 0 5000) (zoom 0 1))\n(rect 3 3 5 5)\n(end)\n")
    (printed_lines
    ("(exact (max 4 1 1 1) (min 1 0 0 1))"
    ∷ "(zoom stopped (levels 1) (floor 1 0 0 1) (ceiling 4) (kept 3))"
    ∷ "(zoommin stopped (levels 1) (low 0) (high 1 0 0 1) (kept 4))"
    ∷ "(density 1562)"
    ∷ "(positions 0 25 0)"
    ∷ "(fill safe)"
    ∷ []))
    ∷ row "exact after the last level"
    (prints "(job (size 5) (window 3) (cut 3) (gap 1) (bounds 0 10000) (zoom 0 6))\n(rect 2 2 4 4)\n(end)\n")
    (printed_lines
    ("(exact (max 4 1 1 1) (min 1 0 0 1))"
    ∷ "(zoom exact (levels 2) (floor 4 1 1 1) (ceiling 4) (kept 0))"
    ∷ "(zoommin exact (levels 2) (low 1) (high 1 0 0 1) (kept 0))"
    ∷ "(density 4444)"
    ∷ "(positions 0 9 0)"
    ∷ "(fill safe)"
    ∷ []))
    ∷ row "stopped before the exact search"
    (prints "(job (size 5) (window 3) (cut 3) (gap 1) (bounds 0 10000) (zoom 0 1))\n(rect 2 2 4 4)\n(end)\n")
    (printed_lines
    ("(exact (max 4 1 1 1) (min 1 0 0 1))"
    ∷ "(zoom stopped (levels 1) (floor 1 0 0 1) (ceiling 4) (kept 1))"
    ∷ "(zoommin stopped (levels 1) (low 0) (high 1 0 0 1) (kept 1))"
    ∷ "(density 2778)"
    ∷ "(positions 0 9 0)"
    ∷ "(fill safe)"
    ∷ []))
    ∷ row "the least met above 0, a level later than the greatest"
    (prints "(job (size 6) (window 4) (cut 2) (gap 1) (bounds 0 10000) (zoom 250 3))\n(rect 0 3 5 6)\n(end)\n")
    (printed_lines
    ("(exact (max 12 0 2 1) (min 3 2 0 1))"
    ∷ "(zoom met (levels 2) (floor 12 0 2 1) (ceiling 15) (kept 2))"
    ∷ "(zoommin met (levels 3) (low 2) (high 3 2 0 1) (kept 1))"
    ∷ "(density 8438)"
    ∷ "(positions 0 9 0)"
    ∷ "(fill safe)"
    ∷ []))
    ∷ row "the least stopped, at one thousandth less"
    (prints "(job (size 6) (window 4) (cut 2) (gap 1) (bounds 0 10000) (zoom 249 3))\n(rect 0 3 5 6)\n(end)\n")
    (printed_lines
    ("(exact (max 12 0 2 1) (min 3 2 0 1))"
    ∷ "(zoom met (levels 2) (floor 12 0 2 1) (ceiling 15) (kept 2))"
    ∷ "(zoommin stopped (levels 3) (low 2) (high 3 2 0 1) (kept 1))"
    ∷ "(density 8438)"
    ∷ "(positions 0 9 0)"
    ∷ "(fill safe)"
    ∷ []))
    ∷ row "four windows, each with its own count; floor and high are of an earlier level and have the areas of max and min"
    (prints
    "(job (size 8) (window 4) (cut 2) (gap 1) (bounds 0 10000) (zoom 0 6))\n(rect 3 6 7 8)\n(rect 7 2 8 8)\n(rect 4 2 7 5)\n(rect 3 0 4 3)\n(rect 3 5 6 6)\n(end)\n")
    (printed_lines
    ("(exact (max 15 4 2 3) (min 2 0 1 1))"
    ∷ "(zoom exact (levels 4) (floor 15 4 4 4) (ceiling 15) (kept 0))"
    ∷ "(zoommin exact (levels 4) (low 2) (high 2 0 2 2) (kept 0))"
    ∷ "(density 9375)"
    ∷ "(positions 0 25 0)"
    ∷ "(fill undecided over 1 0)"
    ∷ []))
    ∷ row "a shape around the greatest window"
    (prints "(job (size 8) (window 4) (cut 2) (gap 1) (bounds 0 10000) (zoom 0 6))\n(rect 1 1 7 7)\n(end)\n")
    (printed_lines
    ("(exact (max 16 1 1 1) (min 9 0 0 1))"
    ∷ "(zoom exact (levels 4) (floor 16 2 2 1) (ceiling 16) (kept 0))"
    ∷ "(zoommin exact (levels 4) (low 9) (high 9 0 0 1) (kept 0))"
    ∷ "(density 10000)"
    ∷ "(positions 0 25 0)"
    ∷ "(fill undecided over 0 0)"
    ∷ []))
    ∷ row "312 and a half, rounded to the even neighbour below"
    (prints "(job (size 8) (window 8) (cut 1) (gap 0) (bounds 0 10000) (zoom 0 6))\n(rect 0 0 2 1)\n(end)\n")
    (printed_lines
    ("(exact (max 2 0 0 1) (min 2 0 0 1))"
    ∷ "(zoom met (levels 1) (floor 2 0 0 1) (ceiling 2) (kept 0))"
    ∷ "(zoommin exact (levels 5) (low 2) (high 2 0 0 1) (kept 0))"
    ∷ "(density 312)"
    ∷ "(positions 0 1 0)"
    ∷ "(fill safe)"
    ∷ []))
    ∷ row "937 and a half, rounded to the even neighbour above"
    (prints "(job (size 8) (window 8) (cut 1) (gap 0) (bounds 0 10000) (zoom 0 6))\n(rect 0 0 3 2)\n(end)\n")
    (printed_lines
    ("(exact (max 6 0 0 1) (min 6 0 0 1))"
    ∷ "(zoom met (levels 1) (floor 6 0 0 1) (ceiling 6) (kept 0))"
    ∷ "(zoommin exact (levels 5) (low 6) (high 6 0 0 1) (kept 0))"
    ∷ "(density 938)"
    ∷ "(positions 0 1 0)"
    ∷ "(fill safe)"
    ∷ []))
    ∷ row "broken under"
    (prints "(job (size 2) (window 1) (cut 1) (gap 0) (bounds 1 10000) (zoom 0 6))\n(fill 0 0 1)\n(end)\n")
    (printed_lines
    ("(exact (max 0 0 0 0) (min 0 0 0 0))"
    ∷ "(zoom met (levels 1) (floor 0 0 0 0) (ceiling 0) (kept 0))"
    ∷ "(zoommin met (levels 1) (low 0) (high 0 0 0 0) (kept 0))"
    ∷ "(density 0)"
    ∷ "(positions 4 0 0)"
    ∷ "(fill broken under 1 0)"
    ∷ []))
    ∷ row "undecided under, one tile to the window"
    (prints "(job (size 1) (window 1) (cut 1) (gap 0) (bounds 1 10000) (zoom 0 6))\n(fill 0 0 1)\n(end)\n")
    (printed_lines
    ("(exact (max 0 0 0 0) (min 0 0 0 0))"
    ∷ "(zoom met (levels 1) (floor 0 0 0 0) (ceiling 0) (kept 0))"
    ∷ "(zoommin met (levels 1) (low 0) (high 0 0 0 0) (kept 0))"
    ∷ "(density 0)"
    ∷ "(positions 1 0 0)"
    ∷ "(fill undecided under 0 0)"
    ∷ []))
    ∷ []
