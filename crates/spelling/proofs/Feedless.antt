-- Texts without a line feed: what a pattern without one spells has none.
use Prim.Native.Nat.{ℕ}
use mathlib.Core.Path.{◌≡◌, refl}
use mathlib.Core.Bool.{Bool, true, false, not}
use mathlib.Core.List.{List, [], ◌∷◌, ◌++◌}
use native.Mathlib.Omega.{arith}
use lib.Dec.{eqb}
use borrow.Author.Tests.{ne_eqb, not-true}
use Rattle.laws.proofs.Tests.{both}
use Rattle.spelling.specs.Text.{feedless}
use Rattle.spelling.specs.Decimal.{decimal, is_digit}
use Rattle.spelling.specs.Pattern.{is_place, spell}
use Rattle.spelling.proofs.Numerals.{all_digits, digit_from, all_decimal}
use Rattle.spelling.proofs.Patterns.{spell_place, spell_byte}

feedless_cons : (b : ℕ) (s : List ℕ) → eqb b 10 ≡ false → feedless s ≡ true → feedless (b ∷ s) ≡ true
unfolding feedless
feedless_cons b s e k = rw (e, k)

pub feedless_first : (b : ℕ) (s : List ℕ) → feedless (b ∷ s) ≡ true → (eqb b 10 ≡ false) × (feedless s ≡ true)
unfolding feedless
feedless_first b s e = let k = both (not (eqb b 10)) (feedless s) e in (not-true (eqb b 10) k.0, k.1)

feedless_append : (s t : List ℕ) → feedless s ≡ true → feedless t ≡ true → feedless (s ++ t) ≡ true
feedless_append [] t a b = b
feedless_append (c ∷ s) t a b = let k = feedless_first c s a in feedless_cons c (s ++ t) k.0 (feedless_append s t k.1 b)

feedless_digits : (s : List ℕ) → all_digits s ≡ true → feedless s ≡ true
unfolding feedless all_digits
feedless_digits [] e = refl
feedless_digits (c ∷ s) e =
    let k = both (is_digit c) (all_digits s) e in
    feedless_cons c s (ne_eqb c 10 (λ z. omega (arith, (digit_from c k.0).0))) (feedless_digits s k.1)

pub feedless_spell : (p ns : List ℕ) → feedless p ≡ true → feedless (spell p ns) ≡ true
unfolding feedless spell
feedless_spell [] ns a = refl
feedless_spell (c ∷ p) [] a = let k = feedless_first c p a in feedless_cons c (spell p []) k.0 (feedless_spell p [] k.1)
feedless_spell (c ∷ p) (n ∷ ns) a =
    let k = feedless_first c p a in
    go (is_place c) refl k.0 (λ ms. feedless_spell p ms k.1)
  where
    go : (x : Bool) → is_place c ≡ x → eqb c 10 ≡ false → ((ms : List ℕ) → feedless (spell p ms) ≡ true) → feedless (spell (c ∷ p) (n ∷ ns)) ≡ true
    go true e f ih = rw (spell_place c p e n ns) (feedless_append (decimal n) (spell p ns) (feedless_digits (decimal n) (all_decimal n)) (ih ns))
    go false e f ih = rw (spell_byte c p e (n ∷ ns)) (feedless_cons c (spell p (n ∷ ns)) f (ih (n ∷ ns)))
