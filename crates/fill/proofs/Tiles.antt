-- A box of whole tiles sums to the sum over its tiles.
use Prim.Native.Nat.{ℕ, zero, suc, ◌+◌, ◌-◌, ◌*◌}
use mathlib.Core.Path.{◌≡◌, sym, ap, ap₂, ◌∙◌}
use native.Mathlib.Nat.{zero-mul, suc-mul, add-mul, mul_comm, mul-sub}
use native.Mathlib.Omega.{arith}
use Rattle.geometry.specs.Count.{sum, span, box_sum}
use Rattle.geometry.proofs.Counting.{sum_cong, sum_split, span_cong, span_swap}
use Rattle.spacing.specs.Eligible.{tile}

-- k blocks of d numbers from block a on
sum_blocks : (k a d : ℕ) (f : ℕ → ℕ) → sum (k * d) (λ i. f (a * d + i)) ≡ sum k (λ i. span ((a + i) * d) (suc (a + i) * d) f)
unfolding sum
sum_blocks zero a d f = ap (λ (m : ℕ). sum m (λ i. f (a * d + i))) (zero-mul d)
sum_blocks (suc k) a d f =
    ap (λ (m : ℕ). sum m (λ i. f (a * d + i))) (suc-mul k d)
    ∙ sum_split (k * d) d (λ i. f (a * d + i))
    ∙ ap₂ ◌+◌ (sum_blocks k a d f) last
  where
    moved : (i : ℕ) → a * d + (k * d + i) ≡ (a + k) * d + i
    moved i = omega (arith, add-mul a k d)

    size : d ≡ suc (a + k) * d - (a + k) * d
    size = omega (arith, suc-mul (a + k) d)

    last : sum d (λ i. f (a * d + (k * d + i))) ≡ span ((a + k) * d) (suc (a + k) * d) f
    last = sum_cong d (λ i. f (a * d + (k * d + i))) (λ i. f ((a + k) * d + i)) (λ i l. ap f (moved i)) ∙ ap (λ (m : ℕ). sum m (λ i. f ((a + k) * d + i))) size

pub span_blocks : (a b d : ℕ) (f : ℕ → ℕ) → span (a * d) (b * d) f ≡ span a b (λ i. span (i * d) (suc i * d) f)
span_blocks a b d f = ap (λ (m : ℕ). sum m (λ i. f (a * d + i))) count ∙ sum_blocks (b - a) a d f
  where
    count : b * d - a * d ≡ (b - a) * d
    count = ap₂ ◌-◌ (mul_comm b d) (mul_comm a d) ∙ sym (mul-sub d b a) ∙ mul_comm d (b - a)

pub box_tiles : (x1 y1 x2 y2 d : ℕ) (f : ℕ → ℕ → ℕ) →
    box_sum (record { x1 = x1 * d; y1 = y1 * d; x2 = x2 * d; y2 = y2 * d }) f
    ≡ box_sum (record { x1 = x1; y1 = y1; x2 = x2; y2 = y2 }) (λ i j. box_sum (tile d i j) f)
box_tiles x1 y1 x2 y2 d f =
    span_cong (y1 * d) (y2 * d) (λ y. span (x1 * d) (x2 * d) (λ x. f x y)) (λ y. span x1 x2 (λ i. span (i * d) (suc i * d) (λ x. f x y)))
    (λ y l u. span_blocks x1 x2 d (λ x. f x y))
    ∙ span_blocks y1 y2 d (λ y. span x1 x2 (λ i. span (i * d) (suc i * d) (λ x. f x y)))
    ∙ span_cong y1 y2 (λ j. span (j * d) (suc j * d) (λ y. span x1 x2 (λ i. span (i * d) (suc i * d) (λ x. f x y)))) (λ j. span x1 x2 (λ i. box_sum (tile d i j) f))
    (λ j l u. span_swap (j * d) (suc j * d) x1 x2 (λ y i. span (i * d) (suc i * d) (λ x. f x y)))
