-- `tiles::corners::Corners::of` meets its contract. The loop's invariant: the rows below j are summed. Assumes nothing.
use Prim.Native.Nat.{ℕ, ◌*◌, ◌≤◌}
use mathlib.Core.Path.{◌≡◌, ap}
use native.Mathlib.Omega.{arith}
use Rattle.tiles.proofs.Summing.{summed, corner_sums}
use Rattle.tiles.proofs.corners.Corners.of.Goals as goal

whole : (j across : ℕ) → j ≤ across → across ≤ j → j * across ≡ across * across
whole j across h k = ap (λ (n : ℕ). n * across) (omega arith)

pub invariant_of-result : goal.invariant_of-result
invariant_of-result c = record { corner_sums = corner_sums (summed _ c.loop-j.invariant c.requires (whole _ _ c.loop-j.auto.j-end c.loop-j-test.false)) }

pub returns-clause-corners : goal.returns-clause-corners
returns-clause-corners c = summed _ c.loop-j.invariant c.requires (whole _ _ c.loop-j.auto.j-end c.loop-j-test.false)
