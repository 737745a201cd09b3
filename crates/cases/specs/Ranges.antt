-- Files by their bytes, for document 02's request 8: each number at the ends of its range and past them, and with as many digits as a number may have
-- and one more.
use Rattle.std.specs.Prelude.{ℕ, List, [], ◌∷◌, ◌++◌}
use Prim.Native.String.{String}
use Rattle.spelling.specs.Text.{bytes}
use Rattle.spelling.specs.Pattern.{spell}
use Rattle.forms.specs.Limits.{earlier_limits}
use Rattle.jobfile.specs.File.{outcome_of}
use Rattle.unit.specs.Whole.{printed_of, printed_for}
use Rattle.cases.specs.Row.{Row, row}
use Rattle.cases.specs.Printing.{prints, printed_lines, lines_a}

-- what is printed for files that differ in one number, which stands for # in their last line
unfoldable pub prints_each : (before : List ℕ) (line : String) → List ℕ → List ℕ
prints_each before line [] = []
prints_each before line (n ∷ ns) = printed_for (before ++ spell (bytes line) (n ∷ [])) ++ prints_each before line ns

-- the same of heads. Those below disagree, which is 5, whatever number in its range stands there
abbrev heads : (line : String) → List ℕ → List ℕ
heads line = prints_each [] line

-- the same of lines behind job A's head
abbrev behind_head : (line : String) → List ℕ → List ℕ
behind_head line = prints_each (bytes "(job (size 8) (window 4) (cut 2) (gap 1) (bounds 0 5000) (zoom 0 6))\n") line

-- refusals of one line, by their faults
unfoldable pub refusals : (line : ℕ) (faults : List ℕ) → List ℕ
refusals line [] = []
refusals line (f ∷ fs) = spell (bytes "(refused # #)\n") (f ∷ line ∷ []) ++ refusals line fs

-- what is printed for a file, and what was under the earlier limits
abbrev prints_now_and_before : (file : String) → List ℕ
prints_now_and_before file = prints file ++ printed_of (outcome_of earlier_limits (bytes file))

abbrev pub range_rows : List Row
range_rows =
    row "N: from 1 to 1,000,000"
    (heads "(job (size #) (window 9) (cut 2) (gap 1) (bounds 0 5000) (zoom 0 6))\n" (1 ∷ 0 ∷ 1000000 ∷ 1000001 ∷ 9999999999999 ∷ 10000000000000 ∷ []))
    (refusals 1 (5 ∷ 3 ∷ 5 ∷ 3 ∷ 3 ∷ 2 ∷ []))
    ∷ row "W: from 1 to 1,000,000"
    (heads "(job (size 8) (window #) (cut 2) (gap 1) (bounds 0 5000) (zoom 0 6))\n" (1 ∷ 0 ∷ 1000000 ∷ 1000001 ∷ 1000000000000 ∷ 10000000000000 ∷ []))
    (refusals 1 (5 ∷ 3 ∷ 5 ∷ 3 ∷ 3 ∷ 2 ∷ []))
    ∷ row "R: from 1 to 64"
    (heads "(job (size 8) (window 9) (cut #) (gap 1) (bounds 0 5000) (zoom 0 6))\n" (1 ∷ 0 ∷ 64 ∷ 65 ∷ 1000000000000 ∷ 10000000000000 ∷ []))
    (refusals 1 (5 ∷ 3 ∷ 5 ∷ 3 ∷ 3 ∷ 2 ∷ []))
    ∷ row "B: from 0 to 1,000,000"
    (heads "(job (size 8) (window 9) (cut 2) (gap #) (bounds 0 5000) (zoom 0 6))\n" (0 ∷ 1000000 ∷ 1000001 ∷ 9999999999999 ∷ 10000000000000 ∷ []))
    (refusals 1 (5 ∷ 5 ∷ 3 ∷ 3 ∷ 2 ∷ []))
    ∷ row "B beside D: the same"
    (heads "(job (size 8) (window 9) (cut 2) (gap # 1) (bounds 0 5000) (zoom 0 6))\n" (0 ∷ 1000000 ∷ 1000001 ∷ 9999999999999 ∷ 10000000000000 ∷ []))
    (refusals 1 (5 ∷ 5 ∷ 3 ∷ 3 ∷ 2 ∷ []))
    ∷ row "D: the same"
    (heads "(job (size 8) (window 9) (cut 2) (gap 1 #) (bounds 0 5000) (zoom 0 6))\n" (0 ∷ 1000000 ∷ 1000001 ∷ 1000000000000 ∷ 10000000000000 ∷ []))
    (refusals 1 (5 ∷ 5 ∷ 3 ∷ 3 ∷ 2 ∷ []))
    ∷ row "L: from 0 to 10000"
    (heads "(job (size 8) (window 9) (cut 2) (gap 1) (bounds # 5000) (zoom 0 6))\n" (0 ∷ 10000 ∷ 10001 ∷ 9999999999999 ∷ 10000000000000 ∷ []))
    (refusals 1 (5 ∷ 5 ∷ 3 ∷ 3 ∷ 2 ∷ []))
    ∷ row "U: from 0 to 10000"
    (heads "(job (size 8) (window 9) (cut 2) (gap 1) (bounds 0 #) (zoom 0 6))\n" (0 ∷ 10000 ∷ 10001 ∷ 1000000000000 ∷ 10000000000000 ∷ []))
    (refusals 1 (5 ∷ 5 ∷ 3 ∷ 3 ∷ 2 ∷ []))
    ∷ row "E: from 0 to 1000"
    (heads "(job (size 8) (window 9) (cut 2) (gap 1) (bounds 0 5000) (zoom # 6))\n" (0 ∷ 1000 ∷ 1001 ∷ 9999999999999 ∷ 10000000000000 ∷ []))
    (refusals 1 (5 ∷ 5 ∷ 3 ∷ 3 ∷ 2 ∷ []))
    ∷ row "V: from 1 to 6"
    (heads "(job (size 8) (window 9) (cut 2) (gap 1) (bounds 0 5000) (zoom 0 #))\n" (1 ∷ 0 ∷ 6 ∷ 7 ∷ 1000000000000 ∷ 10000000000000 ∷ []))
    (refusals 1 (5 ∷ 3 ∷ 5 ∷ 3 ∷ 3 ∷ 2 ∷ []))
    ∷ row "X1 of a rectangle: to 1,000,000" (behind_head "(rect # 3 5 5)\n" (1000000 ∷ 1000001 ∷ 9999999999999 ∷ 10000000000000 ∷ [])) (refusals 2 (6 ∷ 3 ∷ 3 ∷ 2 ∷ []))
    ∷ row "X1 of a dummy: to 1,000,000" (behind_head "(dummy # 3 5 5)\n" (1000000 ∷ 1000001 ∷ 1000000000000 ∷ 10000000000000 ∷ [])) (refusals 2 (6 ∷ 3 ∷ 3 ∷ 2 ∷ []))
    ∷ row "Y1 of a rectangle: to 1,000,000" (behind_head "(rect 3 # 5 5)\n" (1000000 ∷ 1000001 ∷ 9999999999999 ∷ 10000000000000 ∷ [])) (refusals 2 (6 ∷ 3 ∷ 3 ∷ 2 ∷ []))
    ∷ row "Y1 of a dummy: to 1,000,000" (behind_head "(dummy 3 # 5 5)\n" (1000000 ∷ 1000001 ∷ 1000000000000 ∷ 10000000000000 ∷ [])) (refusals 2 (6 ∷ 3 ∷ 3 ∷ 2 ∷ []))
    ∷ row "X2 of a rectangle: to 1,000,000" (behind_head "(rect 3 3 # 5)\n" (0 ∷ 1000000 ∷ 1000001 ∷ 9999999999999 ∷ 10000000000000 ∷ [])) (refusals 2 (6 ∷ 6 ∷ 3 ∷ 3 ∷ 2 ∷ []))
    ∷ row "X2 of a dummy: to 1,000,000" (behind_head "(dummy 3 3 # 5)\n" (0 ∷ 1000000 ∷ 1000001 ∷ 1000000000000 ∷ 10000000000000 ∷ [])) (refusals 2 (6 ∷ 6 ∷ 3 ∷ 3 ∷ 2 ∷ []))
    ∷ row "Y2 of a rectangle: to 1,000,000" (behind_head "(rect 3 3 5 #)\n" (0 ∷ 1000000 ∷ 1000001 ∷ 9999999999999 ∷ 10000000000000 ∷ [])) (refusals 2 (6 ∷ 6 ∷ 3 ∷ 3 ∷ 2 ∷ []))
    ∷ row "Y2 of a dummy: to 1,000,000" (behind_head "(dummy 3 3 5 #)\n" (0 ∷ 1000000 ∷ 1000001 ∷ 1000000000000 ∷ 10000000000000 ∷ [])) (refusals 2 (6 ∷ 6 ∷ 3 ∷ 3 ∷ 2 ∷ []))
    ∷ row "I: to 63" (behind_head "(fill # 0 2)\n" (63 ∷ 64 ∷ 1000000000000 ∷ 10000000000000 ∷ [])) (refusals 2 (7 ∷ 3 ∷ 3 ∷ 2 ∷ []))
    ∷ row "J: to 63" (behind_head "(fill 0 # 2)\n" (63 ∷ 64 ∷ 9999999999999 ∷ 10000000000000 ∷ [])) (refusals 2 (7 ∷ 3 ∷ 3 ∷ 2 ∷ []))
    ∷ row "P: from 1 to 1,000,000,000,000" (behind_head "(fill 0 0 #)\n" (0 ∷ 1000000000000 ∷ 1000000000001 ∷ 9999999999999 ∷ 10000000000000 ∷ [])) (refusals 2 (3 ∷ 11 ∷ 3 ∷ 3 ∷ 2 ∷ []))
    ∷ row "the widest B"
    (prints "(job (size 8) (window 4) (cut 2) (gap 1000000) (bounds 0 5000) (zoom 0 6))\n(rect 3 3 5 5)\n(end)\n")
    (printed_lines lines_a)
    ∷ row "the widest B beside a D"
    (prints "(job (size 8) (window 4) (cut 2) (gap 1000000 1) (bounds 0 5000) (zoom 0 6))\n(rect 3 3 5 5)\n(end)\n")
    (printed_lines lines_a)
    ∷ row "the widest D"
    (prints "(job (size 8) (window 4) (cut 2) (gap 1 1000000) (bounds 0 5000) (zoom 0 6))\n(dummy 3 3 5 5)\n(end)\n")
    (printed_lines lines_a)
    ∷ row "the widest gaps leave no square of a small layout"
    (prints "(job (size 8) (window 4) (cut 2) (gap 1000000 0) (bounds 0 5000) (zoom 0 6))\n(rect 0 0 1 1)\n(fill 3 3 1)\n"
    ++ prints "(job (size 8) (window 4) (cut 2) (gap 0 1000000) (bounds 0 5000) (zoom 0 6))\n(dummy 0 0 1 1)\n(fill 3 3 1)\n")
    (refusals 3 (11 ∷ 11 ∷ []))
    ∷ row "11 digits were too many"
    (prints_now_and_before "(job (size 10000000000) (window 4) (cut 2) (gap 1) (bounds 0 5000) (zoom 0 6))\n")
    (refusals 1 (3 ∷ 2 ∷ []))
    ∷ row "a gap of 65,536 was out of range"
    (prints_now_and_before "(job (size 8) (window 4) (cut 2) (gap 65536) (bounds 0 5000) (zoom 0 6))\n(rect 3 3 5 5)\n(end)\n")
    (printed_lines lines_a ++ bytes "(refused 3 1)\n")
    ∷ row "job A as before"
    (prints_now_and_before "(job (size 8) (window 4) (cut 2) (gap 1) (bounds 0 5000) (zoom 0 6))\n(rect 3 3 5 5)\n(fill 0 0 2)\n(end)\n")
    (printed_lines lines_a ++ printed_lines lines_a)
    ∷ []
