-- A rounded quotient is the one number that is nearest.
use Prim.Native.Nat.{ℕ, suc, ◌+◌, ◌-◌, ◌*◌, ◌/◌, ◌%◌, ◌≤◌, ◌<◌, compare, Ordering}
use mathlib.Core.Path.{◌≡◌, refl, ap}
use mathlib.Core.Logic.{◌⊎◌, inl, inr}
use native.Mathlib.Nat.{div-add-mod', mod-lt, mul-le-mul, mul-le-mul_right}
use native.Mathlib.Omega.{arith}
use lib.Dec.{is_le, compare_is_eq}
use borrow.Author.Tests.{leb-true, leb-false, eqb-true, eqb-false}
use Rattle.laws.proofs.Tests.{le_or_lt}
use Rattle.rounding.specs.Nearest.{Nearest, Rounds, neighbour, rounded}

-- ---- at most one number is nearest

-- two numbers that are nearest lie no further apart than one
beside : (a b r s : ℕ) → 1 ≤ b → Nearest a b r → Nearest a b s → s ≤ suc r
beside a b r s some p q = go (le_or_lt s (suc r))
  where
    go : (s ≤ suc r) ⊎ (suc r < s) → s ≤ suc r
    go (inl h) = h
    go (inr h) = absurd (omega (arith, mul-le-mul_right b h, p.near, q.near))

-- nor one apart: each would be half away, so both would be even
next : (a b r : ℕ) → Nearest a b r → Nearest a b (suc r) → ⊥
next a b r p q = omega (arith, p.half_even (omega (arith, p.near, q.near)), q.half_even (omega (arith, p.near, q.near)))

not_above : (a b r s : ℕ) → 1 ≤ b → Nearest a b r → Nearest a b s → s ≤ r
not_above a b r s some p q = go (le_or_lt s r)
  where
    go : (s ≤ r) ⊎ (r < s) → s ≤ r
    go (inl h) = h
    go (inr h) = let e : s ≡ suc r = omega (arith, h, beside a b r s some p q) in absurd (next a b r p (rw e at q))

pub one_nearest : (a b r s : ℕ) → 1 ≤ b → Nearest a b r → Nearest a b s → r ≡ s
one_nearest a b r s some p q = omega (arith, not_above a b r s some p q, not_above a b s r some q p)

pub nearest_rounds : (a b r : ℕ) → 1 ≤ b → Nearest a b r → Rounds a b r
nearest_rounds a b r some p = record { nearest = p; only = λ s q. one_nearest a b s r some q p }

-- ---- the two neighbours

-- the lower one is nearest up to the half, and at it if it is even
lower_nearest : (a b : ℕ) → 2 * (a % b) ≤ b → (2 * (a % b) ≡ b → a / b % 2 ≡ 0) → Nearest a b (a / b)
lower_nearest a b h even =
    record { near = omega (arith, div-add-mod' a b, h); half_even = λ e. even (omega (arith, div-add-mod' a b, e)) }

-- the upper one is from the half on, and at it if it is even
upper_nearest : (a b : ℕ) → a % b < b → b ≤ 2 * (a % b) → (2 * (a % b) ≡ b → (a / b + 1) % 2 ≡ 0) → Nearest a b (a / b + 1)
upper_nearest a b small h even =
    record { near = omega (arith, div-add-mod' a b, small, h); half_even = λ e. even (omega (arith, div-add-mod' a b, small, e)) }

-- ---- the number that is

rounded_nearest : (a b : ℕ) → 1 ≤ b → Nearest a b (rounded a b)
unfolding rounded
rounded_nearest a b some = go (compare (2 * (a % b)) b) refl
  where
    small : a % b < b
    small = mod-lt a some

    at_half : 2 * (a % b) ≡ b → (a / b % 2 ≤ 0) ⊎ (0 < a / b % 2) → Nearest a b (neighbour Ordering.eq (a / b))
    at_half e (inl even) =
        let z : neighbour Ordering.eq (a / b) ≡ a / b = omega (arith, even) in
        rw z (lower_nearest a b (omega (arith, e)) (λ k. omega (arith, even)))
    at_half e (inr odd) =
        let z : neighbour Ordering.eq (a / b) ≡ a / b + 1 = omega (arith, odd) in
        rw z (upper_nearest a b small (omega (arith, e)) (λ k. omega (arith, odd)))

    go : (o : Ordering) → compare (2 * (a % b)) b ≡ o → Nearest a b (neighbour o (a / b))
    go Ordering.lt e =
        lower_nearest a b (leb-true (2 * (a % b)) b (ap is_le e)) (λ k. absurd (eqb-false (2 * (a % b)) b (ap compare_is_eq e) k))
    go Ordering.gt e =
        let h = leb-false (2 * (a % b)) b (ap is_le e) in
        upper_nearest a b small (omega (arith, h)) (λ k. absurd (omega (arith, h, k)))
    go Ordering.eq e = at_half (eqb-true (2 * (a % b)) b (ap compare_is_eq e)) (le_or_lt (a / b % 2) 0)

pub rounds : (a b : ℕ) → 1 ≤ b → Rounds a b (rounded a b)
rounds a b some = nearest_rounds a b (rounded a b) some (rounded_nearest a b some)

-- ---- what the code returns

-- past the lower neighbour the upper one is no more than the number that is divided
pub upper_small : (a b : ℕ) → 1 ≤ b → 1 ≤ a % b → a / b + 1 ≤ a
upper_small a b some past = omega (arith, div-add-mod' a b, mul-le-mul {n₁ = a / b} {m₁ = 1} {n₂ = a / b} {m₂ = b} (omega arith) some, past)

pub lower_returned : (a b : ℕ) → 1 ≤ b → a % b ≤ b - a % b → (b - a % b ≤ a % b → a / b % 2 ≡ 0) → a / b ≡ rounded a b
lower_returned a b some h even = (rounds a b some).only (a / b) (lower_nearest a b (omega (arith, h)) (λ e. even (omega (arith, e))))

pub upper_returned : (a b : ℕ) → 1 ≤ b → b - a % b ≤ a % b → (a % b ≤ b - a % b → (a / b + 1) % 2 ≡ 0) → a / b + 1 ≡ rounded a b
upper_returned a b some h even =
    let small = mod-lt a some in
    (rounds a b some).only (a / b + 1) (upper_nearest a b small (omega (arith, h)) (λ e. even (omega (arith, e, small))))

-- ---- a fraction that is reduced by 2

pub nearest_reduced : {a b p q r : ℕ} → p ≡ 2 * a → q ≡ 2 * b → Nearest p q r → Nearest a b r
nearest_reduced {r = r} e f n =
    let times = ap (λ z. r * z) f in
    record { near = omega (arith, e, f, times, n.near); half_even = λ h. n.half_even (omega (arith, e, f, times, h)) }
