-- What a function leaves in a buffer that it was lent, where it writes a list of numbers there: the bytes of a text, or entries of a table.
use Rattle.std.specs.Prelude.{ℕ, ◌+◌, ◌≡◌, List, ◌++◌, length, take, drop}

-- a buffer with a list at a place, and before and behind it as it was
abbrev pub written : (buffer : List ℕ) (at : ℕ) (l : List ℕ) → List ℕ
written b at l = take at b ++ l ++ drop (at + length l) b

-- what writing a list at a place leaves, and the place after it
pub record Written (before : List ℕ) (at : ℕ) (l after : List ℕ) (next : ℕ) : Type 0 where
  pub buffer : after ≡ written before at l
  pub place : next ≡ at + length l

-- a buffer with a list at its front, and behind it as it was
abbrev pub at_front : (l buffer : List ℕ) → List ℕ
at_front l b = l ++ drop (length l) b

-- what writing a list at the front leaves, and how many were written
pub record Front (before l after : List ℕ) (r : ℕ) : Type 0 where
  pub count : r ≡ length l
  pub buffer : after ≡ at_front l before
