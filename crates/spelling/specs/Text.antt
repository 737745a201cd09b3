-- Quoted text as bytes, so that a definition shows a line as it is written.
use Rattle.std.specs.Prelude.{ℕ, Bool, true, false, not, ◌&&◌, List, [], ◌∷◌, eqb}
use Prim.Native.Char.{code}
use Prim.Native.String.{String, [] as empty, ◌∷◌ as ◌then◌}

unfoldable pub bytes : String → List ℕ
bytes empty = []
bytes (c then s) = code c ∷ bytes s

-- ---- the lines of a file

-- a text without a line feed
unfoldable pub feedless : List ℕ → Bool
feedless [] = true
feedless (b ∷ s) = not (eqb b 10) && feedless s

-- one more byte in front of the first of some pieces
abbrev pub in_front : ℕ → List (List ℕ) → List (List ℕ)
in_front b [] = (b ∷ []) ∷ []
in_front b (p ∷ ps) = (b ∷ p) ∷ ps

-- the pieces of a text between its line feeds: its lines, and last what follows the last line feed
unfoldable pub pieces : List ℕ → List (List ℕ)
pieces [] = [] ∷ []
pieces (b ∷ s) = elim (eqb b 10) [ true ↦ [] ∷ pieces s | false ↦ in_front b (pieces s) ]
