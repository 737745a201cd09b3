-- The pieces of a file between line feeds, one line after the other.
use Prim.Native.Nat.{ℕ, suc, ◌+◌, ◌≤◌, ◌<◌}
use mathlib.Core.Path.{◌≡◌, refl, sym, ap, ◌∙◌}
use mathlib.Core.Bool.{Bool, true, false, cond, not}
use mathlib.Core.List.{List, [], ◌∷◌}
use native.Mathlib.Omega.{arith}
use borrow.Author.Tests.{ltb-false}
use lib.Dec.{eqb, ltb}
use lib.ListN.{length, take, drop}
use Rattle.std.proofs.Common.{Option, Some, None, unwrap_or, position}
use Rattle.std.specs.List.{position_or_len}
use Rattle.std.proofs.lemmas.List.Sums.{prefix_len-le-length}
use Rattle.std.proofs.lemmas.List.Recursion.{is_position_or_len}
use Rattle.spelling.specs.Text.{in_front, pieces}
use Rattle.spelling.specs.Scanning.{line_length}

module _ (b : ℕ) (s : List ℕ) where
  line_ends : eqb b 10 ≡ true → line_length (b ∷ s) ≡ 0
  unfolding line_length
  line_ends e = rw (e, line_length)

  line_goes_on : eqb b 10 ≡ false → line_length (b ∷ s) ≡ suc (line_length s)
  unfolding line_length
  line_goes_on e = rw (e, line_length)

  pieces_ends : eqb b 10 ≡ true → pieces (b ∷ s) ≡ [] ∷ pieces s
  unfolding pieces
  pieces_ends e = rw (e, pieces)

  pieces_goes_on : eqb b 10 ≡ false → pieces (b ∷ s) ≡ in_front b (pieces s)
  unfolding pieces
  pieces_goes_on e = rw (e, pieces)

-- the first piece is the first line, and the others are the pieces of what follows its line feed
pub pieces_line : (s : List ℕ) → line_length s < length s → pieces s ≡ take (line_length s) s ∷ pieces (drop (suc (line_length s)) s)
pieces_line [] h = absurd (omega arith)
pieces_line (b ∷ s) h = go (eqb b 10) refl (pieces_line s)
  where
    go : (x : Bool) → eqb b 10 ≡ x → (line_length s < length s → pieces s ≡ take (line_length s) s ∷ pieces (drop (suc (line_length s)) s))
        → pieces (b ∷ s) ≡ take (line_length (b ∷ s)) (b ∷ s) ∷ pieces (drop (suc (line_length (b ∷ s))) (b ∷ s))
    go true e r = rw (line_ends b s e) (pieces_ends b s e)
    go false e r = rw (line_goes_on b s e) (pieces_goes_on b s e ∙ ap (in_front b) (r (omega (arith, line_goes_on b s e))))

-- where no line feed is left, what is left is the last piece
pub pieces_last : (s : List ℕ) → length s ≤ line_length s → pieces s ≡ s ∷ []
unfolding pieces
pieces_last [] h = refl
pieces_last (b ∷ s) h = go (eqb b 10) refl (pieces_last s)
  where
    go : (x : Bool) → eqb b 10 ≡ x → (length s ≤ line_length s → pieces s ≡ s ∷ []) → pieces (b ∷ s) ≡ (b ∷ s) ∷ []
    go true e r = absurd (omega (arith, line_ends b s e))
    go false e r = pieces_goes_on b s e ∙ ap (in_front b) (r (omega (arith, line_goes_on b s e)))

-- ---- where the first line feed stands

-- a search for the first number that passes a test, which goes to the end where none does
pub place_found : (p : ℕ → Bool) (s : List ℕ) (r : Option ℕ) (n : ℕ) → r ≡ position p s → n ≡ unwrap_or r (length s) → n ≡ position_or_len p s
place_found p s r n e f = go (ltb (position_or_len p s) (length s)) refl
  where
    go : (x : Bool) → ltb (position_or_len p s) (length s) ≡ x → n ≡ position_or_len p s
    go true t = let found : r ≡ Some (position_or_len p s) = e ∙ rw t in f ∙ ap (λ (o : Option ℕ). unwrap_or o (length s)) found
    go false t =
        let missed : r ≡ None = e ∙ rw t in
        f ∙ ap (λ (o : Option ℕ). unwrap_or o (length s)) missed
        ∙ omega (arith, ltb-false (position_or_len p s) (length s) t, prefix_len-le-length (λ (b : ℕ). not (p b)) s)

pub line_length_place : (s : List ℕ) → position_or_len (λ b. eqb b 10) s ≡ line_length s
unfolding line_length
line_length_place s = sym (is_position_or_len line_length (λ b. eqb b 10) refl step s)
  where
    step : (b : ℕ) (t : List ℕ) → line_length (b ∷ t) ≡ cond (eqb b 10) 0 (1 + line_length t)
    step b t = go (eqb b 10) refl
      where
        go : (x : Bool) → eqb b 10 ≡ x → line_length (b ∷ t) ≡ cond x 0 (1 + line_length t)
        go true e = rw (e, line_length)
        go false e = rw (e, line_length) (omega arith)
