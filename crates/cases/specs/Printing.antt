-- What the program prints, as rows state it: files and answers by their bytes.
use Rattle.std.specs.Prelude.{ℕ, List, [], ◌∷◌, ◌++◌}
use Prim.Native.String.{String}
use Rattle.spelling.specs.Text.{bytes}
use Rattle.unit.specs.Whole.{printed_for}

-- what the program prints for a file
abbrev pub prints : String → List ℕ
prints file = printed_for (bytes file)

-- an answer by its lines; 10 is the line feed
unfoldable pub printed_lines : List String → List ℕ
printed_lines [] = []
printed_lines (l ∷ ls) = bytes l ++ 10 ∷ printed_lines ls

-- job A's six lines
abbrev pub lines_a : List String
lines_a =
    "(exact (max 4 1 1 1) (min 1 0 0 1))"
    ∷ "(zoom met (levels 2) (floor 4 2 2 1) (ceiling 4) (kept 0))"
    ∷ "(zoommin exact (levels 4) (low 1) (high 1 0 0 1) (kept 0))"
    ∷ "(density 2500)"
    ∷ "(positions 0 25 0)"
    ∷ "(fill safe)"
    ∷ []
