-- Tests joined by `&&` and `||`, and cases on the order of two numbers. The kit's own laws of tests are in `borrow.Author.Tests` and
-- `mathlib.Core.Bool`.
use Prim.Native.Nat.{ℕ, suc, ◌≤◌, ◌<◌}
use mathlib.Core.Path.{◌≡◌, refl, sym, ap₂, ◌∙◌}
use mathlib.Core.Bool.{Bool, true, false, false≢true, not, ◌&&◌, ◌||◌}
use mathlib.Core.Logic.{◌⊎◌, inl, inr}
use native.Mathlib.Decide.{dec_le}
use native.Mathlib.Omega.{arith}
use lib.Dec.{T}

-- ---- the order of two numbers

pub le_or_lt : (a b : ℕ) → (a ≤ b) ⊎ (b < a)
le_or_lt a b = go (dec_le a b)
  where
    go : Dec (a ≤ b) → (a ≤ b) ⊎ (b < a)
    go (yes h) = inl h
    go (no h) = inr (omega arith)

-- the last of suc k numbers, or one below
pub below_or_last : (i k : ℕ) → i < suc k → (i < k) ⊎ (i ≡ k)
below_or_last i k h = go (le_or_lt k i)
  where
    go : (k ≤ i) ⊎ (i < k) → (i < k) ⊎ (i ≡ k)
    go (inl l) = inr (omega arith)
    go (inr l) = inl l

-- ---- one test

pub true_false : (t : Bool) → t ≡ true → t ≡ false → ⊥
true_false t h k = false≢true (sym k ∙ h)

-- ---- two tests, by their values

pub both : (p q : Bool) → (p && q) ≡ true → (p ≡ true) × (q ≡ true)
both true q e = (refl, e)
both false q e = absurd (false≢true e)

pub either : (p q : Bool) → (p || q) ≡ true → (p ≡ true) ⊎ (q ≡ true)
either true q e = inl refl
either false q e = inr e

pub neither : (p q : Bool) → (p || q) ≡ false → (p ≡ false) × (q ≡ false)
neither true q e = absurd (false≢true (sym e))
neither false q e = (refl, e)

pub and_same : (p q : Bool) {x y r : Bool} → r ≡ (x && y) → x ≡ p → y ≡ q → r ≡ (p && q)
and_same p q e h k = e ∙ ap₂ ◌&&◌ h k

-- where the first holds, the second decides
pub and_second : (p q : Bool) {r : Bool} → p ≡ true → r ≡ q → r ≡ (p && q)
and_second p q h k = k ∙ ap₂ ◌&&◌ (sym h) refl

-- the first holds, or the second decides
pub or_first : (p q u : Bool) → u ≡ p → u ≡ true → true ≡ (p || q)
or_first p q u e h = ap₂ ◌||◌ (sym h ∙ e) refl

pub or_second : (p q u v : Bool) → u ≡ p → u ≡ false → v ≡ q → v ≡ (p || q)
or_second p q u v e h f = f ∙ ap₂ ◌||◌ (sym h ∙ e) refl

-- ---- a test that does not fail

pub T-unless : (p : Bool) → not p ≡ false → T p
T-unless true e = tt
T-unless false e = absurd (false≢true (sym e))

pub unless_T : (p : Bool) → T p → not p ≡ false
unless_T true h = refl
unless_T false h = absurd h

-- ---- two tests that hold

pub T_and : (p q : Bool) → T p → T q → T (p && q)
T_and true q h k = k
T_and false q h k = h

pub T-both : (p q : Bool) → T (p && q) → T p × T q
T-both true q h = (tt, h)
T-both false q h = absurd h

pub T-left : (p q : Bool) → T p → T (p || q)
T-left true q h = tt
T-left false q h = absurd h

pub T-right : (p q : Bool) → T q → T (p || q)
T-right true q h = tt
T-right false q h = h

pub T-either : (p q : Bool) → T (p || q) → T p ⊎ T q
T-either true q h = inl tt
T-either false q h = inr h
