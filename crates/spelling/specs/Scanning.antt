-- What the code goes by on its way through a line. A buyer need not read it: no contract of the unit's public functions names it. It leads to `pieces`, `spell` and `read_as`, which say what lines and spellings are.
use Rattle.std.specs.Prelude.{ℕ, suc, ◌-◌, true, false, List, [], ◌∷◌, ◌++◌, eqb, length, replicate}
use Rattle.spelling.specs.Pattern.{is_place}

-- the length of the first line: of what stands before the first line feed, or of all where there is none
unfoldable pub line_length : List ℕ → ℕ
line_length [] = 0
line_length (b ∷ s) = elim (eqb b 10) [ true ↦ 0 | false ↦ suc (line_length s) ]

-- how many numbers a pattern asks for
unfoldable pub places : List ℕ → ℕ
places [] = 0
places (c ∷ p) = elim (is_place c) [ true ↦ suc (places p) | false ↦ places p ]

-- numbers in a table of n places: in order, 0 behind them
abbrev pub padded : (n : ℕ) → List ℕ → List ℕ
padded n ns = ns ++ replicate (n - length ns) 0

-- the most digits whose number always fits 64 bits
abbrev pub digits_room : ℕ
digits_room = 18
