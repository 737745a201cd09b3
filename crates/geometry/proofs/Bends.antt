-- How much of a span a window covers, as the window moves along an axis: it bends only where an edge of the window meets an end of the span.
use Prim.Native.Nat.{ℕ, suc, ◌+◌, ◌-◌, ◌*◌, ◌≤◌, ◌<◌}
use mathlib.Core.Path.{◌≡◌}
use mathlib.Core.Logic.{◌⊎◌, inl, inr}
use native.Mathlib.Nat.{le_trans, le_of_lt}
use native.Mathlib.Decide.{ℕ_discrete}
use native.Mathlib.Omega.{arith}
use lib.Dec.{eqb}
use borrow.Author.Tests.{eq-eqb, ne_eqb}
use Rattle.laws.proofs.Tests.{le_or_lt}
use Rattle.geometry.specs.Count.{one_if}
use Rattle.geometry.specs.Overlaps.{common}

-- 1 if c is x + 1
pub bend : (c x : ℕ) → ℕ
bend c x = one_if (eqb c (suc x))

pub bend_none : (c x : ℕ) → (c ≡ suc x → ⊥) → bend c x ≡ 0
unfolding bend
bend_none c x h = rw (ne_eqb c (suc x) h)

bend_one : (c x : ℕ) → c ≡ suc x → bend c x ≡ 1
unfolding bend
bend_one c x h = rw (eq-eqb c (suc x) h)

-- c − x bends upwards at x = c alone
ramp : (c x : ℕ) → (c - x) + (c - suc (suc x)) ≡ 2 * (c - suc x) + bend c x
ramp c x = go (ℕ_discrete c (suc x))
  where
    go : Dec (c ≡ suc x) → (c - x) + (c - suc (suc x)) ≡ 2 * (c - suc x) + bend c x
    go (yes e) = omega (arith, bend_one c x e)
    go (no e) = omega (arith, bend_none c x e)

less : (m n : ℕ) → m ≤ n → m - n ≡ 0
less m n h = omega arith

joined : (m n k : ℕ) → k ≤ n → n ≤ m → (n - k) + (m - n) ≡ m - k
joined m n k h l = omega arith

crossed : (a b x e : ℕ) → x < a → e < b → a ≤ b → x ≤ e → (e - a) + ((a - x) + (b - e)) ≡ (b - x) + (a - e)
crossed a b x e p q h k = omega arith

-- what two spans have in common is made of four ramps
common_ramps : (a b x e : ℕ) → a ≤ b → x ≤ e → common a b x e + ((a - x) + (b - e)) ≡ (b - x) + (a - e)
common_ramps a b x e h k = go (le_or_lt a x) (le_or_lt b e)
  where
    go : (a ≤ x) ⊎ (x < a) → (b ≤ e) ⊎ (e < b) → common a b x e + ((a - x) + (b - e)) ≡ (b - x) + (a - e)
    go (inl p) (inl q) =
        let c : common a b x e ≡ b - x = omega arith in
        omega (arith, less a x p, less b e q, less a e (le_trans p k))
    go (inl p) (inr q) =
        let c : common a b x e ≡ e - x = omega arith in
        omega (arith, less a x p, less a e (le_trans p k), joined b e x k (le_of_lt q))
    go (inr p) (inl q) =
        let c : common a b x e ≡ b - a = omega arith in
        omega (arith, less b e q, less a e (le_trans h q), joined b a x (le_of_lt p) h)
    go (inr p) (inr q) =
        let c : common a b x e ≡ e - a = omega arith in
        omega (arith, crossed a b x e p q h k)

pub common_none : (a b x e : ℕ) → b < a → common a b x e ≡ 0
common_none a b x e h = omega arith

-- the second difference of a span's part in the window: 0 where no edge of the window meets a side of the span
pub second_difference : (a b x e : ℕ) → a ≤ b → x ≤ e →
    common a b x e + common a b (suc (suc x)) (suc (suc e)) + (bend a x + bend b e) ≡ 2 * common a b (suc x) (suc e) + (bend b x + bend a e)
second_difference a b x e p k =
    omega (
      arith,
      common_ramps a b x e p k,
      common_ramps a b (suc x) (suc e) p (omega arith),
      common_ramps a b (suc (suc x)) (suc (suc e)) p (omega arith),
      ramp a x,
      ramp b e,
      ramp b x,
      ramp a e,
    )
