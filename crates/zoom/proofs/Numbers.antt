-- Bounds that 64 bits ask.
use Prim.Native.Nat.{ℕ, ◌*◌, ◌≤◌}
use native.Mathlib.Nat.{mul-le-mul}
use native.Mathlib.Omega.{arith}

-- twice the squares of a window
pub some_squares : (w : ℕ) → 1 ≤ w → 1 ≤ 2 * w * w
some_squares w h = omega (arith, mul-le-mul {n₁ = 1} {m₁ = 1} {n₂ = w} {m₂ = w} h h)
