-- Bounds: a total that is no greater than one that keeps the upper bound keeps it too, and one that is no less the lower one; and that 64 bits
-- hold them.
use Prim.Native.Nat.{ℕ, ◌*◌, ◌≤◌}
use native.Mathlib.Nat.{mul-le-mul}
use native.Mathlib.Omega.{arith}
use lib.Dec.{T, leb→le, le→leb}
use Rattle.geometry.specs.Sizes.{widest, top_bound}
use Rattle.geometry.specs.Bounds.{keeps_upper, keeps_lower}

pub keeps_less : (upper w s t : ℕ) → s ≤ t → T (keeps_upper upper w t) → T (keeps_upper upper w s)
keeps_less upper w s t h k = le→leb (10000 * s) (upper * w * w) (omega (arith, leb→le (10000 * t) (upper * w * w) k))

pub keeps_more : (lower w s t : ℕ) → s ≤ t → T (keeps_lower lower w s) → T (keeps_lower lower w t)
keeps_more lower w s t h k = le→leb (lower * w * w) (10000 * t) (omega (arith, leb→le (lower * w * w) (10000 * s) k))

pub bound_fits : (bound w : ℕ) → bound ≤ top_bound → w ≤ widest → (bound * w ≤ top_bound * widest) × (bound * w * w ≤ top_bound * widest * widest)
bound_fits bound w h k = (mul-le-mul h k, mul-le-mul (mul-le-mul h k) k)
