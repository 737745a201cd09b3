-- Laws of decimal numbers: a number's spelling and the digits of a text determine each other.
use Prim.Native.Nat.{ℕ, zero, suc, ◌+◌, ◌-◌, ◌*◌, ◌/◌, ◌%◌, ◌^◌, ◌≤◌, ◌<◌}
use mathlib.Core.Path.{◌≡◌, refl, sym, ap, ap₂, ◌∙◌}
use mathlib.Core.Bool.{Bool, true, false, not, ◌&&◌, false≢true}
use mathlib.Core.List.{List, [], ◌∷◌, ◌++◌, append_assoc, append-nil}
use mathlib.Core.Logic.{◌↔◌, ◌⊎◌, inl, inr}
use native.Mathlib.Nat.{mod-eq_of_lt, le_refl, pow-suc, pow-le-pow_right}
use native.Mathlib.Decide.{dec_le}
use native.Mathlib.Omega.{arith}
use borrow.Author.Tests.{lt-ltb, le-ltb, le-leb, leb-true, eqb-true, eqb-false, eq-eqb, ne_eqb, not-true}
use lib.Dec.{leb, eqb, leb-zero}
use lib.ListN.{length, get_or, drop, length-append, get_or-append}
use Rattle.laws.proofs.Tests.{both}
use Rattle.spelling.specs.Decimal.{decimal_in, decimal, is_digit, digits_of, past_digits, value_from, same_bytes, is_spelling, is_numeral}

-- ---- the two equations of `decimal`, and induction by them

small_or_large : (n : ℕ) → (n < 10) ⊎ (10 ≤ n)
small_or_large n = go (dec_le 10 n)
  where
    go : Dec (10 ≤ n) → (n < 10) ⊎ (10 ≤ n)
    go (yes h) = inr h
    go (no h) = inl (omega arith)

in_small : (k n : ℕ) → n < 10 → decimal_in k n ≡ (48 + n) ∷ []
unfolding decimal_in
in_small zero n h = ap (λ (d : ℕ). (48 + d) ∷ []) (mod-eq_of_lt h)
in_small (suc k) n h = rw (lt-ltb n 10 h, decimal_in)

in_large : (k n : ℕ) → 10 ≤ n → decimal_in (suc k) n ≡ decimal_in k (n / 10) ++ ((48 + n % 10) ∷ [])
unfolding decimal_in
in_large k n h = rw (le-ltb n 10 h, decimal_in)

-- more room for digits changes nothing
in_enough : (k l n : ℕ) → n ≤ k → n ≤ l → decimal_in k n ≡ decimal_in l n
in_enough zero l n h g = in_small zero n (omega arith) ∙ sym (in_small l n (omega arith))
in_enough (suc k) zero n h g = in_small (suc k) n (omega arith) ∙ sym (in_small zero n (omega arith))
in_enough (suc k) (suc l) n h g = go (small_or_large n) (λ b. in_enough k l (n / 10) (omega arith) (omega arith))
  where
    go : (n < 10) ⊎ (10 ≤ n) → (10 ≤ n → decimal_in k (n / 10) ≡ decimal_in l (n / 10)) → decimal_in (suc k) n ≡ decimal_in (suc l) n
    go (inl b) e = in_small (suc k) n b ∙ sym (in_small (suc l) n b)
    go (inr b) e = in_large k n b ∙ ap (λ (s : List ℕ). s ++ ((48 + n % 10) ∷ [])) (e b) ∙ sym (in_large l n b)

pub decimal_small : (n : ℕ) → n < 10 → decimal n ≡ (48 + n) ∷ []
unfolding decimal
decimal_small n h = in_small n n h

pub decimal_large : (n : ℕ) → 10 ≤ n → decimal n ≡ decimal (n / 10) ++ ((48 + n % 10) ∷ [])
unfolding decimal
decimal_large zero h = absurd (omega arith)
decimal_large (suc m) h =
    in_large m (suc m) h ∙ ap (λ (s : List ℕ). s ++ ((48 + suc m % 10) ∷ [])) (in_enough m (suc m / 10) (suc m / 10) (omega arith) (omega arith))

-- what holds of one digit, and of n if it holds of n / 10, holds of every number
digit_ind : (P : ℕ → Type 0) → ((n : ℕ) → n < 10 → P n) → ((n : ℕ) → 10 ≤ n → P (n / 10) → P n) → (n : ℕ) → P n
digit_ind P small large n = go n n (le_refl n)
  where
    go : (k m : ℕ) → m ≤ k → P m
    go zero m h = small m (omega arith)
    go (suc k) m h = pick (small_or_large m) (λ b. go k (m / 10) (omega arith))
      where
        pick : (m < 10) ⊎ (10 ≤ m) → (10 ≤ m → P (m / 10)) → P m
        pick (inl b) e = small m b
        pick (inr b) e = large m b (e b)

-- ---- the value of a spelling

pub value_append : (a : ℕ) (s t : List ℕ) → value_from a (s ++ t) ≡ value_from (value_from a s) t
unfolding value_from
value_append a [] t = refl
value_append a (b ∷ s) t = value_append (10 * a + (b - 48)) s t

-- the value of a number's spelling is the number
pub value_decimal : (n : ℕ) → value_from 0 (decimal n) ≡ n
unfolding value_from
value_decimal = digit_ind (λ n. value_from 0 (decimal n) ≡ n) small large
  where
    small : (n : ℕ) → n < 10 → value_from 0 (decimal n) ≡ n
    small n h = ap (value_from 0) (decimal_small n h) ∙ omega arith

    large : (n : ℕ) → 10 ≤ n → value_from 0 (decimal (n / 10)) ≡ n / 10 → value_from 0 (decimal n) ≡ n
    large n h ih =
        ap (value_from 0) (decimal_large n h)
        ∙ value_append 0 (decimal (n / 10)) ((48 + n % 10) ∷ [])
        ∙ omega (arith, ih)

-- so two numbers with one spelling are equal
pub decimal_injective : (m n : ℕ) → decimal m ≡ decimal n → m ≡ n
decimal_injective m n e = sym (value_decimal m) ∙ ap (value_from 0) e ∙ value_decimal n

-- ---- digits

unfoldable pub all_digits : List ℕ → Bool
all_digits [] = true
all_digits (b ∷ s) = is_digit b && all_digits s

pub digit_from : (b : ℕ) → is_digit b ≡ true → (48 ≤ b) × (b ≤ 57)
digit_from b e = let k = both (leb 48 b) (leb b 57) e in (leb-true 48 b k.0, leb-true b 57 k.1)

pub is_digit_lem : (b : ℕ) → 48 ≤ b → b ≤ 57 → is_digit b ≡ true
is_digit_lem b h g = rw (le-leb 48 b h, le-leb b 57 g)

all_append : (s t : List ℕ) → all_digits s ≡ true → all_digits t ≡ true → all_digits (s ++ t) ≡ true
unfolding all_digits
all_append [] t h g = g
all_append (b ∷ s) t h g = let k = both (is_digit b) (all_digits s) h in rw k.0 (all_append s t k.1 g)

-- every byte of a number's spelling is a digit
pub all_decimal : (n : ℕ) → all_digits (decimal n) ≡ true
unfolding all_digits
all_decimal = digit_ind (λ n. all_digits (decimal n) ≡ true) small large
  where
    one : (d : ℕ) → d < 10 → all_digits ((48 + d) ∷ []) ≡ true
    one d h = rw (is_digit_lem (48 + d) (omega arith) (omega arith))

    small : (n : ℕ) → n < 10 → all_digits (decimal n) ≡ true
    small n h = ap all_digits (decimal_small n h) ∙ one n h

    large : (n : ℕ) → 10 ≤ n → all_digits (decimal (n / 10)) ≡ true → all_digits (decimal n) ≡ true
    large n h ih = ap all_digits (decimal_large n h) ∙ all_append (decimal (n / 10)) ((48 + n % 10) ∷ []) ih (one (n % 10) (omega arith))

-- ---- how many digits

length_large : (n : ℕ) → 10 ≤ n → length (decimal n) ≡ suc (length (decimal (n / 10)))
length_large n h = ap length (decimal_large n h) ∙ length-append (decimal (n / 10)) ((48 + n % 10) ∷ []) ∙ omega arith

pub decimal_nonempty : (n : ℕ) → 1 ≤ length (decimal n)
decimal_nonempty n = go (small_or_large n)
  where
    go : (n < 10) ⊎ (10 ≤ n) → 1 ≤ length (decimal n)
    go (inl h) = omega (arith, ap length (decimal_small n h))
    go (inr h) = omega (arith, length_large n h)

-- a number has at most k digits exactly if it is below 10^k
digits_at_most : (k n : ℕ) → (length (decimal n) ≤ suc k → n < 10 ^ suc k) × (n < 10 ^ suc k → length (decimal n) ≤ suc k)
digits_at_most zero n = go (small_or_large n)
  where
    go : (n < 10) ⊎ (10 ≤ n) → (length (decimal n) ≤ 1 → n < 10 ^ 1) × (n < 10 ^ 1 → length (decimal n) ≤ 1)
    go (inl h) = (λ l. h, λ l. omega (arith, ap length (decimal_small n h)))
    go (inr h) = (λ l. omega (arith, length_large n h, decimal_nonempty (n / 10)), λ l. absurd (omega arith))
digits_at_most (suc k) n = go (small_or_large n) (digits_at_most k (n / 10)) (pow-suc 10 (suc k)) (pow-le-pow_right {n = 10} (omega arith) {i = 1} {j = suc k} (omega arith))
  where
    go : (n < 10) ⊎ (10 ≤ n) → (length (decimal (n / 10)) ≤ suc k → n / 10 < 10 ^ suc k) × (n / 10 < 10 ^ suc k → length (decimal (n / 10)) ≤ suc k)
        → 10 ^ suc (suc k) ≡ 10 ^ suc k * 10 → 10 ≤ 10 ^ suc k
        → (length (decimal n) ≤ suc (suc k) → n < 10 ^ suc (suc k)) × (n < 10 ^ suc (suc k) → length (decimal n) ≤ suc (suc k))
    go (inl h) ih e m = (λ l. omega arith, λ l. omega (arith, ap length (decimal_small n h)))
    go (inr h) ih e m =
        (λ l. omega (arith, ih.0 (omega (arith, length_large n h))), λ l. omega (arith, length_large n h, ih.1 (omega arith)))

pub at_most_digits : (k n : ℕ) → 1 ≤ k → (length (decimal n) ≤ k) ↔ (n < 10 ^ k)
at_most_digits zero n h = absurd (omega arith)
at_most_digits (suc k) n h = digits_at_most k n

-- ---- no leading zero

-- a number's spelling begins with 0 exactly if it is 0
pub first_zero : (n : ℕ) → (get_or (decimal n) 0 0 ≡ 48) ↔ (n ≡ 0)
first_zero = digit_ind (λ n. (get_or (decimal n) 0 0 ≡ 48) ↔ (n ≡ 0)) small large
  where
    small : (n : ℕ) → n < 10 → (get_or (decimal n) 0 0 ≡ 48) ↔ (n ≡ 0)
    small n h = let e = ap (λ (s : List ℕ). get_or s 0 0) (decimal_small n h) in (λ z. omega arith, λ z. omega arith)

    large : (n : ℕ) → 10 ≤ n → (get_or (decimal (n / 10)) 0 0 ≡ 48) ↔ (n / 10 ≡ 0) → (get_or (decimal n) 0 0 ≡ 48) ↔ (n ≡ 0)
    large n h ih =
        let e =
        ap (λ (s : List ℕ). get_or s 0 0) (decimal_large n h)
        ∙ get_or-append (decimal (n / 10)) ((48 + n % 10) ∷ []) 0 0 (decimal_nonempty (n / 10))
        in
        (λ z. omega (arith, ih.0 (omega arith)), λ z. absurd (omega arith))

-- digits as the code tests them: some, and no leading zero but for 0 itself
unfoldable pub canonical : List ℕ → Bool
canonical [] = false
canonical (b ∷ []) = true
canonical (b ∷ c ∷ s) = not (eqb b 48)

pub decimal_canonical : (n : ℕ) → canonical (decimal n) ≡ true
unfolding canonical
decimal_canonical n = go (decimal n) refl
  where
    go : (s : List ℕ) → decimal n ≡ s → canonical s ≡ true
    go [] e = absurd (omega (arith, decimal_nonempty n, ap length e))
    go (b ∷ []) e = refl
    go (b ∷ c ∷ s) e = rw (ne_eqb b 48 other)
      where
        other : b ≡ 48 → ⊥
        other z =
            let n0 = (first_zero n).0 (ap (λ (t : List ℕ). get_or t 0 0) e ∙ z) in
            omega (arith, ap length e, ap length (decimal_small n (omega arith)))

-- ---- digits are the spelling of their value

one : (b : ℕ) → is_digit b ≡ true → decimal (10 * 0 + (b - 48)) ≡ b ∷ []
one b d = decimal_small (10 * 0 + (b - 48)) (omega (arith, digit_from b d)) ∙ ap (λ (x : ℕ). x ∷ []) same
  where
    same : 48 + (10 * 0 + (b - 48)) ≡ b
    same = omega (arith, digit_from b d)

-- after a number that is not 0 every digit counts
spelled_on : (a : ℕ) (s : List ℕ) → 1 ≤ a → all_digits s ≡ true → decimal (value_from a s) ≡ decimal a ++ s
unfolding value_from all_digits
spelled_on a [] h g = sym (append-nil (decimal a))
spelled_on a (b ∷ s) h g =
    spelled_on (10 * a + (b - 48)) s (omega arith) k.1
    ∙ ap (λ (t : List ℕ). t ++ s) next
    ∙ append_assoc (decimal a) (b ∷ []) s
  where
    k : (is_digit b ≡ true) × (all_digits s ≡ true)
    k = both (is_digit b) (all_digits s) g

    high : (10 * a + (b - 48)) / 10 ≡ a
    high = omega (arith, digit_from b k.0)

    low : 48 + (10 * a + (b - 48)) % 10 ≡ b
    low = omega (arith, digit_from b k.0)

    next : decimal (10 * a + (b - 48)) ≡ decimal a ++ (b ∷ [])
    next = decimal_large (10 * a + (b - 48)) (omega arith) ∙ rw (high, low)

pub canonical_spelling : (ds : List ℕ) → all_digits ds ≡ true → canonical ds ≡ true → decimal (value_from 0 ds) ≡ ds
unfolding value_from all_digits canonical
canonical_spelling [] g h = absurd (false≢true h)
canonical_spelling (b ∷ []) g h = one b (both (is_digit b) true g).0
canonical_spelling (b ∷ c ∷ s) g h =
    spelled_on (10 * 0 + (b - 48)) (c ∷ s) (omega (arith, eqb-false b 48 (not-true (eqb b 48) h), digit_from b k.0)) k.1
    ∙ ap (λ (t : List ℕ). t ++ (c ∷ s)) (one b k.0)
  where
    k : (is_digit b ≡ true) × (all_digits (c ∷ s) ≡ true)
    k = both (is_digit b) (all_digits (c ∷ s)) g

pub same_self : (s : List ℕ) → same_bytes s s ≡ true
unfolding same_bytes
same_self [] = refl
same_self (b ∷ s) = rw (eq-eqb b b refl) (same_self s)

pub same_equal : (s t : List ℕ) → same_bytes s t ≡ true → s ≡ t
unfolding same_bytes
same_equal [] [] e = refl
same_equal [] (b ∷ t) e = absurd (false≢true e)
same_equal (a ∷ s) [] e = absurd (false≢true e)
same_equal (a ∷ s) (b ∷ t) e = let k = both (eqb a b) (same_bytes s t) e in ap₂ ◌∷◌ (eqb-true a b k.0) (same_equal s t k.1)

-- the code's test is the one of `is_numeral`
pub canonical_test : (ds : List ℕ) → all_digits ds ≡ true → is_spelling ds ≡ canonical ds
canonical_test ds g = go (same_bytes (decimal (value_from 0 ds)) ds) (canonical ds) refl refl
  where
    go : (x y : Bool) → same_bytes (decimal (value_from 0 ds)) ds ≡ x → canonical ds ≡ y → is_spelling ds ≡ canonical ds
    go true y e f = e ∙ sym (rw (same_equal (decimal (value_from 0 ds)) ds e) at (decimal_canonical (value_from 0 ds)))
    go false false e f = e ∙ sym f
    go false true e f = rw (canonical_spelling ds g f) (same_self ds) ∙ sym f

pub numeral_test : (most : ℕ) (ds : List ℕ) → all_digits ds ≡ true → is_numeral most ds ≡ (leb (length ds) most && canonical ds)
numeral_test most ds g = ap (λ (t : Bool). leb (length ds) most && t) (canonical_test ds g)

-- no digits are no number
pub no_numeral : (most : ℕ) → is_numeral most [] ≡ false
unfolding all_digits canonical
no_numeral most = numeral_test most [] refl ∙ rw (leb-zero most)

-- a number's own spelling is a numeral
pub decimal_numeral : (most n : ℕ) → length (decimal n) ≤ most → is_numeral most (decimal n) ≡ true
decimal_numeral most n h = rw (le-leb (length (decimal n)) most h, value_decimal n) (same_self (decimal n))

-- ---- the digits with which a text begins

pub digits_all : (s : List ℕ) → all_digits (digits_of s) ≡ true
unfolding all_digits digits_of
digits_all [] = refl
digits_all (b ∷ s) = go (is_digit b) refl (digits_all s)
  where
    go : (d : Bool) → is_digit b ≡ d → all_digits (digits_of s) ≡ true → all_digits (digits_of (b ∷ s)) ≡ true
    go true e r = rw (e, digits_of) (rw e r)
    go false e r = rw (e, digits_of) refl

pub past_is_drop : (s : List ℕ) → past_digits s ≡ drop (length (digits_of s)) s
unfolding past_digits digits_of
past_is_drop [] = refl
past_is_drop (b ∷ s) = go (is_digit b) refl (past_is_drop s)
  where
    go : (d : Bool) → is_digit b ≡ d → past_digits s ≡ drop (length (digits_of s)) s → past_digits (b ∷ s) ≡ drop (length (digits_of (b ∷ s))) (b ∷ s)
    go true e r = rw (e, digits_of, past_digits) r
    go false e r = rw (e, digits_of, past_digits) refl

pub digits_then_past : (s : List ℕ) → digits_of s ++ past_digits s ≡ s
unfolding past_digits digits_of
digits_then_past [] = refl
digits_then_past (b ∷ s) = go (is_digit b) refl (digits_then_past s)
  where
    go : (d : Bool) → is_digit b ≡ d → digits_of s ++ past_digits s ≡ s → digits_of (b ∷ s) ++ past_digits (b ∷ s) ≡ b ∷ s
    go true e r = rw (e, digits_of, past_digits) (ap (λ (t : List ℕ). b ∷ t) r)
    go false e r = rw (e, digits_of, past_digits) refl

-- digits in front of a text are in front of its own
pub digits_append : (s t : List ℕ) → all_digits s ≡ true → (digits_of (s ++ t) ≡ s ++ digits_of t) × (past_digits (s ++ t) ≡ past_digits t)
unfolding all_digits past_digits digits_of
digits_append [] t h = (refl, refl)
digits_append (b ∷ s) t h = go (both (is_digit b) (all_digits s) h).0 (digits_append s t (both (is_digit b) (all_digits s) h).1)
  where
    go : is_digit b ≡ true → (digits_of (s ++ t) ≡ s ++ digits_of t) × (past_digits (s ++ t) ≡ past_digits t)
        → (digits_of (b ∷ s ++ t) ≡ b ∷ s ++ digits_of t) × (past_digits (b ∷ s ++ t) ≡ past_digits t)
    go e r = (rw (e, digits_of) (ap (λ (u : List ℕ). b ∷ u) r.0), rw (e, past_digits) r.1)
