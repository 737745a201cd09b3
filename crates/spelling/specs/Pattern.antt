-- Lines are spelled by patterns: bytes as they stand, and for each # the decimal spelling of the next number.
use Rattle.std.specs.Prelude.{ℕ, Bool, true, false, List, [], ◌∷◌, ◌++◌, eqb, Option, Some, None}
use Rattle.spelling.specs.Decimal.{decimal, digits_of, past_digits, value_from, is_numeral}

-- the byte #, a place for a number
abbrev pub is_place : ℕ → Bool
is_place c = eqb c 35

-- the spelling of a pattern with numbers; a # for which no number is left stands as it is
unfoldable pub spell : List ℕ → List ℕ → List ℕ
spell [] ns = []
spell (c ∷ p) [] = c ∷ spell p []
spell (c ∷ p) (n ∷ ns) = elim (is_place c) [ true ↦ decimal n ++ spell p ns | false ↦ c ∷ spell p (n ∷ ns) ]

-- ---- reading a line; a buyer need not read on, since jobfile's `Acceptance` speaks of spellings alone

-- one more number in front of what was read
abbrev pub with_number : ℕ → Option (List ℕ) → Option (List ℕ)
with_number n None = None
with_number n (Some ns) = Some (n ∷ ns)

-- the numbers with which a line spells a pattern, each of at most `most` digits; none where no numbers do.
-- proofs/Inverse.antt shows both ways that this is the inverse of `spell`, for patterns in which no # is followed by a digit or another #
-- (`well_formed`); the patterns of the job lines, the only ones that are read, are such.
unfoldable pub read_as : (most : ℕ) → (pattern line : List ℕ) → Option (List ℕ)
read_as most [] [] = Some []
read_as most [] (b ∷ s) = None
read_as most (c ∷ p) [] = None
read_as most (c ∷ p) (b ∷ s) =
    elim (is_place c) [
      | true ↦
          elim (is_numeral most (digits_of (b ∷ s))) [
            | true ↦ with_number (value_from 0 (digits_of (b ∷ s))) (read_as most p (past_digits (b ∷ s)))
            | false ↦ None
          ]
      | false ↦ elim (eqb b c) [ true ↦ read_as most p s | false ↦ None ]
    ]
