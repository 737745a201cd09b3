-- A number read digit by digit at the front of a text.
use Prim.Native.Nat.{ℕ, zero, suc, ◌+◌, ◌-◌, ◌*◌, ◌^◌, ◌≤◌, ◌<◌}
use mathlib.Core.Path.{◌≡◌, refl, sym, ap, ◌∙◌, subst}
use mathlib.Core.Bool.{Bool, true, false, cond, not}
use mathlib.Core.List.{List, [], ◌∷◌, append-nil}
use native.Mathlib.Nat.{pow-suc, pow-le-pow_right}
use native.Mathlib.Numerals.{add-one}
use native.Mathlib.Omega.{arith}
use lib.Dec.{eqb}
use lib.ListN.{length, get_or, take, drop, drop_of_length-le}
use lib.Seq.{drop-cons, take_at}
use Rattle.std.specs.List.{position_or_len}
use Rattle.std.proofs.lemmas.List.Recursion.{is_position_or_len}
use Rattle.laws.proofs.Tests.{both}
use Rattle.spelling.specs.Decimal.{is_digit, digits_of, past_digits, value_from, is_spelling}
use Rattle.spelling.proofs.Numerals.{all_digits, canonical, canonical_test, digits_all, digit_from, digits_then_past, digits_append}

-- ---- where the digits with which a text begins end

pub digits_place : (s : List ℕ) → position_or_len (λ b. not (is_digit b)) s ≡ length (digits_of s)
unfolding digits_of
digits_place s = sym (is_position_or_len (λ t. length (digits_of t)) (λ b. not (is_digit b)) refl step s)
  where
    step : (b : ℕ) (t : List ℕ) → length (digits_of (b ∷ t)) ≡ cond (not (is_digit b)) 0 (1 + length (digits_of t))
    step b t = go (is_digit b) refl
      where
        go : (x : Bool) → is_digit b ≡ x → length (digits_of (b ∷ t)) ≡ cond (not x) 0 (1 + length (digits_of t))
        go true e = rw (e, digits_of) (omega arith)
        go false e = rw (e, digits_of)

pub digits_front : (s : List ℕ) → take (length (digits_of s)) s ≡ digits_of s
digits_front s = ap (take (length (digits_of s))) (sym (digits_then_past s)) ∙ take_at (digits_of s) (past_digits s) (length (digits_of s)) refl

pub digits_twice : (s : List ℕ) → digits_of (digits_of s) ≡ digits_of s
unfolding digits_of
digits_twice s = ap digits_of (sym (append-nil (digits_of s))) ∙ (digits_append (digits_of s) [] (digits_all s)).0 ∙ append-nil (digits_of s)

-- ---- whether digits spell a number, by their count and the first of them

module _ (ds : List ℕ) (digits : digits_of ds ≡ ds) where
  test : is_spelling ds ≡ canonical ds
  test = canonical_test ds (subst (λ (t : List ℕ). all_digits t ≡ true) digits (digits_all ds))

  pub spells_none : length ds < 1 → is_spelling ds ≡ false
  unfolding canonical
  spells_none h = test ∙ go ds h
    where
      go : (s : List ℕ) → length s < 1 → canonical s ≡ false
      go [] h = refl
      go (b ∷ s) h = absurd (omega arith)

  pub spells_one : 1 ≤ length ds → length ds < 2 → is_spelling ds ≡ true
  unfolding canonical
  spells_one h k = test ∙ go ds h k
    where
      go : (s : List ℕ) → 1 ≤ length s → length s < 2 → canonical s ≡ true
      go [] h k = absurd (omega arith)
      go (b ∷ []) h k = refl
      go (b ∷ c ∷ s) h k = absurd (omega arith)

  pub spells_more : 2 ≤ length ds → is_spelling ds ≡ not (eqb (get_or ds 0 0) 48)
  unfolding canonical
  spells_more h = test ∙ go ds h
    where
      go : (s : List ℕ) → 2 ≤ length s → canonical s ≡ not (eqb (get_or s 0 0) 48)
      go [] h = absurd (omega arith)
      go (b ∷ []) h = absurd (omega arith)
      go (b ∷ c ∷ s) h = refl

-- ---- the value of digits

all_at : (s : List ℕ) (i : ℕ) → i < length s → all_digits s ≡ true → (48 ≤ get_or s i 0) × (get_or s i 0 ≤ 57)
unfolding all_digits
all_at [] i h a = absurd (omega arith)
all_at (b ∷ s) zero h a = digit_from b (both (is_digit b) (all_digits s) a).0
all_at (b ∷ s) (suc i) h a = all_at s i (omega arith) (both (is_digit b) (all_digits s) a).1

module _ (s : List ℕ) (i : ℕ) where
  pub digit_at : i < length s → digits_of s ≡ s → (48 ≤ get_or s i 0) × (get_or s i 0 ≤ 57)
  digit_at h e = all_at s i h (subst (λ (t : List ℕ). all_digits t ≡ true) e (digits_all s))

  pub value_more : (value d : ℕ) → i < length s → d ≡ get_or s i 0 - 48 → value_from (10 * value + d) (drop (i + 1) s) ≡ value_from value (drop i s)
  unfolding value_from
  value_more value d h e = rw (add-one i, drop-cons s i 0 h, e) refl

  pub value_all : (value : ℕ) → length s ≤ i → value_from value (drop i s) ≡ value
  unfolding value_from
  value_all value h = ap (value_from value) (drop_of_length-le s h)

  -- the digits so far stand for a number of so many digits, and 18 of them for one that fits 64 bits
  pub value_small : (value d : ℕ) → value < 10 ^ i → d ≤ 9 → 10 * value + d < 10 ^ (i + 1)
  value_small value d h k = rw (add-one i, pow-suc 10 i) (omega arith)

  pub value_fits : (value d : ℕ) → value < 10 ^ i → d ≤ 9 → i < 18 → 10 * value + d < 2 ^ 64
  value_fits value d h k l = omega (arith, pow-le-pow_right {n = 10} (omega arith) {i = i} {j = 17} (omega arith))
