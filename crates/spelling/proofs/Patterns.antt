-- What one byte of a pattern asks, and what it spells.
use Prim.Native.Nat.{ℕ, suc}
use mathlib.Core.Path.{◌≡◌, refl, sym, ◌∙◌}
use mathlib.Core.Bool.{true, false, false≢true}
use mathlib.Core.List.{List, [], ◌∷◌, ◌++◌}
use Rattle.std.proofs.Common.{None}
use borrow.Author.Tests.{eq-eqb, ne_eqb, eqb-true}
use lib.Dec.{eqb}
use lib.ListN.{length, take, drop}
use lib.Pointwise.{pointwise}
use Rattle.laws.proofs.Tests.{both}
use Rattle.spelling.specs.Decimal.{decimal, digits_of, past_digits, value_from, is_numeral}
use Rattle.spelling.specs.Pattern.{is_place, spell, with_number, read_as}
use Rattle.spelling.specs.Scanning.{places}
use Rattle.spelling.proofs.Numerals.{no_numeral}

-- a line that ends too early
pub read_short : (most c : ℕ) (p : List ℕ) → read_as most (c ∷ p) [] ≡ None
unfolding read_as
read_short most c p = refl

module _ (c : ℕ) (p : List ℕ) (e : is_place c ≡ true) where
  pub places_place : places (c ∷ p) ≡ suc (places p)
  unfolding places
  places_place = rw (e, places)

  pub spell_place : (n : ℕ) (ns : List ℕ) → spell (c ∷ p) (n ∷ ns) ≡ decimal n ++ spell p ns
  unfolding spell
  spell_place n ns = rw (e, spell)

  pub read_number : (most : ℕ) (s : List ℕ) → is_numeral most (digits_of s) ≡ true →
      read_as most (c ∷ p) s ≡ with_number (value_from 0 (digits_of s)) (read_as most p (past_digits s))
  unfolding read_as digits_of
  read_number most [] g = let z : false ≡ true = rw (no_numeral most) at g in absurd (false≢true z)
  read_number most (b ∷ s) g = rw (e, read_as) (rw g refl)

  -- also at the end of a line
  pub read_no_number : (most : ℕ) (s : List ℕ) → is_numeral most (digits_of s) ≡ false → read_as most (c ∷ p) s ≡ None
  unfolding read_as
  read_no_number most [] g = refl
  read_no_number most (b ∷ s) g = rw (e, read_as) (rw g refl)

module _ (c : ℕ) (p : List ℕ) (e : is_place c ≡ false) where
  pub places_byte : places (c ∷ p) ≡ places p
  unfolding places
  places_byte = rw (e, places)

  pub spell_byte : (ns : List ℕ) → spell (c ∷ p) ns ≡ c ∷ spell p ns
  unfolding spell
  spell_byte [] = refl
  spell_byte (n ∷ ns) = rw (e, spell)

  pub read_same : (most b : ℕ) (s : List ℕ) → b ≡ c → read_as most (c ∷ p) (b ∷ s) ≡ read_as most p s
  unfolding read_as
  read_same most b s h = rw (e, read_as) (rw (eq-eqb b c h) refl)

  pub read_other : (most b : ℕ) (s : List ℕ) → (b ≡ c → ⊥) → read_as most (c ∷ p) (b ∷ s) ≡ None
  unfolding read_as
  read_other most b s h = rw (e, read_as) (rw (ne_eqb b c h) refl)

  -- a byte in front of a line, as `strip_prefix` finds it
  pub read_byte : (most : ℕ) (s : List ℕ) → pointwise eqb (take 1 s) (c ∷ []) ≡ true → read_as most (c ∷ p) s ≡ read_as most p (drop 1 s)
  read_byte most [] h = absurd (false≢true h)
  read_byte most (b ∷ s) h = read_same most b s (eqb-true b c (both (eqb b c) true h).0)

  pub read_no_byte : (most : ℕ) (s : List ℕ) → pointwise eqb (take 1 s) (c ∷ []) ≡ false → read_as most (c ∷ p) s ≡ None
  read_no_byte most [] h = read_short most c p
  read_no_byte most (b ∷ s) h = read_other most b s (λ e. let same : pointwise eqb (b ∷ []) (c ∷ []) ≡ true = rw (eq-eqb b c e) in absurd (false≢true (sym h ∙ same)))

-- a line that goes on behind its pattern
pub read_over : (most : ℕ) (s : List ℕ) → (length s ≡ 0 → ⊥) → read_as most [] s ≡ None
unfolding read_as
read_over most [] h = absurd (h refl)
read_over most (b ∷ s) h = refl

-- where no numbers are left a place is written as it stands
pub spell_none : (c : ℕ) (p : List ℕ) → spell (c ∷ p) [] ≡ c ∷ spell p []
unfolding spell
spell_none c p = refl
