-- The steps of the levels: each is twice the next, down to the last level.
use Prim.Native.Nat.{ℕ, zero, suc, ◌*◌, ◌/◌, ◌%◌, ◌^◌, ◌≤◌, ◌<◌}
use mathlib.Core.Path.{◌≡◌, refl, sym, ap, ◌∙◌}
use native.Mathlib.Nat.{div-one, pow-suc, pow-succ', div-div-eq-div-mul}
use native.Mathlib.Omega.{arith}
use lib.Count.{count_trailing_zeros, under}
use Rattle.zoom.specs.Run.{last_level, level_step}

-- halving once more is halving the quotient, and halving first is the same
pub step_next : (w j : ℕ) → level_step w (suc j) ≡ level_step w j / 2
step_next w j = ap (λ (k : ℕ). w / k) (pow-suc 2 j) ∙ sym (div-div-eq-div-mul w (2 ^ j) 2)

step_first : (w j : ℕ) → level_step w (suc j) ≡ level_step (w / 2) j
step_first w j = ap (λ (k : ℕ). w / k) (pow-succ' 2 j) ∙ sym (div-div-eq-div-mul w 2 (2 ^ j))

-- as long as a trailing zero is left, the step is even
step_even : (k w j : ℕ) → j < count_trailing_zeros k w → level_step w j % 2 ≡ 0
unfolding count_trailing_zeros
step_even zero w j h = absurd (omega arith)
step_even (suc k) w j h = go (λ i. step_even k (w / 2) i) (w % 2) refl h
  where
    below : ((i : ℕ) → i < count_trailing_zeros k (w / 2) → level_step (w / 2) i % 2 ≡ 0) → (j : ℕ) → w % 2 ≡ 0 → j < suc (count_trailing_zeros k (w / 2)) → level_step w j % 2 ≡ 0
    below ih zero e l = rw div-one e
    below ih (suc j) e l = rw (step_first w j) (ih j (omega arith))

    go : ((i : ℕ) → i < count_trailing_zeros k (w / 2) → level_step (w / 2) i % 2 ≡ 0) → (d : ℕ) → w % 2 ≡ d → j < under d (count_trailing_zeros k (w / 2)) → level_step w j % 2 ≡ 0
    go ih zero e l = below ih j e l
    go ih (suc d) e l = absurd (omega arith)

pub step_halves : (w j : ℕ) → j < last_level w → level_step w j ≡ 2 * level_step w (suc j)
step_halves w j h = omega (arith, step_next w j, step_even 64 w j (omega arith))

pub step_positive : (w j : ℕ) → 1 ≤ w → j ≤ last_level w → 1 ≤ level_step w j
step_positive w zero h k = rw div-one h
step_positive w (suc j) h k = omega (arith, step_halves w j k, step_positive w j h (omega arith))
