-- Document 01, "The job file": decimal numbers, no sign, no leading zero, 0 itself allowed.
use Rattle.std.specs.Prelude.{ℕ, zero, suc, ◌+◌, ◌-◌, ◌*◌, ◌/◌, ◌%◌, ◌≤◌, Bool, true, false, ◌&&◌, List, [], ◌∷◌, ◌++◌, leb, ltb, eqb, length}

-- the digits of n, of which it has at most k + 1
unfoldable pub decimal_in : (k n : ℕ) → List ℕ
decimal_in zero n = (48 + n % 10) ∷ []
decimal_in (suc k) n = elim (ltb n 10) [ true ↦ (48 + n) ∷ [] | false ↦ decimal_in k (n / 10) ++ ((48 + n % 10) ∷ []) ]

-- the decimal spelling of a number, as ASCII digits; a number n has at most n + 1 digits
unfoldable pub decimal : ℕ → List ℕ
decimal n = decimal_in n n

-- each of some numbers is spelled by at most so many digits
abbrev pub EachShort : (most : ℕ) → List ℕ → Type 0
EachShort most [] = Unit {0}
EachShort most (n ∷ ns) = (length (decimal n) ≤ most) × EachShort most ns

-- ---- reading a number; a buyer need not read on, since jobfile's `Acceptance` speaks of spellings alone

-- an ASCII digit
abbrev pub is_digit : ℕ → Bool
is_digit b = leb 48 b && leb b 57

-- the digits with which a text begins, and what follows them
unfoldable pub digits_of : List ℕ → List ℕ
digits_of [] = []
digits_of (b ∷ s) = elim (is_digit b) [ true ↦ b ∷ digits_of s | false ↦ [] ]

unfoldable pub past_digits : List ℕ → List ℕ
past_digits [] = []
past_digits (b ∷ s) = elim (is_digit b) [ true ↦ past_digits s | false ↦ b ∷ s ]

-- the number that digits stand for, a standing before them
unfoldable pub value_from : ℕ → List ℕ → ℕ
value_from a [] = a
value_from a (b ∷ s) = value_from (10 * a + (b - 48)) s

-- the same bytes
unfoldable pub same_bytes : List ℕ → List ℕ → Bool
same_bytes [] [] = true
same_bytes [] (b ∷ t) = false
same_bytes (a ∷ s) [] = false
same_bytes (a ∷ s) (b ∷ t) = eqb a b && same_bytes s t

-- digits spell the number that they stand for
abbrev pub is_spelling : List ℕ → Bool
is_spelling ds = same_bytes (decimal (value_from 0 ds)) ds

-- digits are a number's spelling: those of the number that they stand for, and at most `most` of them
abbrev pub is_numeral : ℕ → List ℕ → Bool
is_numeral most ds = leb (length ds) most && is_spelling ds
