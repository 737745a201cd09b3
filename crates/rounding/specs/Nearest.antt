-- Document 02, request 4: a quotient rounded to the nearest whole number, an exact half to the even neighbour, in whole numbers. A buyer may go by
-- `Rounds` and need not read how the number is formed: `Rounds` is promised of the printed density, `DensityPromise` in unit/specs/Promise.antt.
use Prim.Native.Nat.{ℕ, ◌+◌, ◌-◌, ◌*◌, ◌/◌, ◌%◌, ◌≤◌, compare, Ordering}
use Rattle.std.specs.Prelude.{◌≡◌}

-- |a − b|
abbrev pub distance : ℕ → ℕ → ℕ
distance a b = (a - b) + (b - a)

-- r is within one half of a / b, 2 × |a − r × b| ≤ b, and an even number where it is exactly one half away
pub record Nearest (a b r : ℕ) : Type 0 where
  pub near : 2 * distance a (r * b) ≤ b
  pub half_even : 2 * distance a (r * b) ≡ b → r % 2 ≡ 0

-- r is a / b rounded: it is nearest, and no other number is
pub record Rounds (a b r : ℕ) : Type 0 where
  pub nearest : Nearest a b r
  pub only : (s : ℕ) → Nearest a b s → s ≡ r

-- of a quotient's neighbours q and q + 1 the one that it is rounded to: before the half q, past it q + 1, and at the half the even one
abbrev pub neighbour : Ordering → ℕ → ℕ
neighbour Ordering.lt q = q
neighbour Ordering.eq q = q + q % 2
neighbour Ordering.gt q = q + 1

-- a / b rounded, for b from 1 on: twice the remainder against b tells on which side of the half it lies. It is the number that `Rounds` speaks of:
-- `rounds` in proofs/Rounding.antt
unfoldable pub rounded : (a b : ℕ) → ℕ
rounded a b = neighbour (compare (2 * (a % b)) b) (a / b)
