-- Sums over the sides of a list: those left of a column, the ramps, and what a list in rising order leaves out.
use Prim.Native.Nat.{ℕ, suc, ◌+◌, ◌-◌, ◌*◌, ◌≤◌, ◌<◌}
use mathlib.Core.Path.{◌≡◌, refl, sym, ap, subst}
use mathlib.Core.Logic.{◌⊎◌, inl, inr}
use mathlib.Core.List.{List, [], ◌∷◌}
use native.Mathlib.Nat.{le_trans}
use native.Mathlib.Omega.{arith}
use lib.Dec.{ltb}
use lib.ListN.{length, get_or, drop}
use borrow.Author.Tests.{lt-ltb, le-ltb}
use Rattle.std.specs.Prelude.{All}
use Rattle.std.specs.List.Sorted.{IsNonDecreasingBy}
use Rattle.std.proofs.lemmas.List.Sums.{sum_by-cons, sum_by-le}
use Rattle.laws.proofs.Tests.{le_or_lt}
use Rattle.geometry.specs.Sizes.{widest}
use Rattle.geometry.specs.Count.{one_if}
use Rattle.sweep.specs.declared.Upright.{Upright}
use Rattle.sweep.specs.Strips.{side_sum, ramps, SmallUpright}
use Rattle.sweep.specs.Cursors.{left_sum}

-- ---- one side: left of the column, or not

pub left_of : (v x k : ℕ) → v < x → one_if (ltb v x) * k ≡ k
left_of v x k h = rw (lt-ltb v x h) (omega arith)

not_left : (v x k : ℕ) → x ≤ v → one_if (ltb v x) * k ≡ 0
not_left v x k h = rw (le-ltb v x h) (omega arith)

part_of : (v x k : ℕ) → one_if (ltb v x) * k ≤ k
part_of v x k = go (le_or_lt x v)
  where
    go : (x ≤ v) ⊎ (v < x) → one_if (ltb v x) * k ≤ k
    go (inl h) = omega (arith, not_left v x k h)
    go (inr h) = omega (arith, left_of v x k h)

-- a ramp, by the rows and the moment of the sides left of the column
ramp : (v h x : ℕ) → h * (x - v) + one_if (ltb v x) * (h * v) ≡ one_if (ltb v x) * h * x
ramp v h x = go (le_or_lt x v)
  where
    split : v < x → h * (x - v) + h * v ≡ h * x
    split p = let e : x ≡ (x - v) + v = omega arith in omega (arith, ap (λ (k : ℕ). h * k) e)

    none : x ≤ v → h * (x - v) ≡ 0
    none p = let e : x - v ≡ 0 = omega arith in omega (arith, ap (λ (k : ℕ). h * k) e)

    go : (x ≤ v) ⊎ (v < x) → h * (x - v) + one_if (ltb v x) * (h * v) ≡ one_if (ltb v x) * h * x
    go (inl p) = rw (le-ltb v x p) (omega (arith, none p))
    go (inr p) = rw (lt-ltb v x p) (omega (arith, split p))

-- the sum over one side more
pub left_cons : (g : ℕ → ℕ → ℕ) (u : Upright) (s : List Upright) (x : ℕ) →
    left_sum g (u ∷ s) x ≡ one_if (ltb u.column x) * g u.column u.rows + left_sum g s x
left_cons g u s x = sum_by-cons (λ (u : Upright). one_if (ltb u.column x) * g u.column u.rows) u s

-- the ramps at a column, in one product and one difference
pub ramps_formed : (s : List Upright) (x : ℕ) → ramps s x + left_sum (λ v h. h * v) s x ≡ left_sum (λ v h. h) s x * x
ramps_formed [] x = omega arith
ramps_formed (u ∷ s) x =
    omega (
      arith,
      sum_by-cons (λ (u : Upright). u.rows * (x - u.column)) u s,
      left_cons (λ v h. h * v) u s x,
      ap (λ (k : ℕ). k * x) (left_cons (λ v h. h) u s x),
      ramp u.column u.rows x,
      ramps_formed s x,
    )

-- ---- lists in rising order

-- the columns of a list rise, from b on
unfoldable pub Rising : ℕ → List Upright → Type 0
Rising b [] = Unit {0}
Rising b (u ∷ s) = (b ≤ u.column) × Rising u.column s

rises_from : (b : ℕ) (s : List Upright) → ((d : Upright) → 0 < length s → b ≤ (get_or s 0 d).column) → IsNonDecreasingBy (λ u. u.column) s → Rising b s
unfolding Rising
rises_from b [] h n = tt
rises_from b (u ∷ s) h n =
    (h u (omega arith), rises_from u.column s (λ d p. n 0 1 d (omega arith) (omega arith)) (λ i j d p q. n (suc i) (suc j) d (omega arith) (omega arith)))

pub rises : (s : List Upright) → IsNonDecreasingBy (λ u. u.column) s → Rising 0 s
rises s n = rises_from 0 s (λ d p. omega arith) n

pub rising_weaken : (a b : ℕ) (s : List Upright) → a ≤ b → Rising b s → Rising a s
unfolding Rising
rising_weaken a b [] h r = tt
rising_weaken a b (u ∷ s) h r = (omega (arith, r.0), r.1)

-- no side lies left of a column where the list begins
pub none_left : (g : ℕ → ℕ → ℕ) (b : ℕ) (s : List Upright) (x : ℕ) → Rising b s → x ≤ b → left_sum g s x ≡ 0
unfolding Rising
none_left g b [] x r h = refl
none_left g b (u ∷ s) x r h =
    omega (
      arith,
      left_cons g u s x,
      not_left u.column x (g u.column u.rows) (omega (arith, r.0)),
      none_left g u.column s x r.1 (omega (arith, r.0)),
    )

-- so many sides stand left of a column
abbrev pub passed_at : List Upright → ℕ → ℕ
passed_at s x = left_sum (λ v h. 1) s x

module _ (u : Upright) (s : List Upright) (x : ℕ) (r : Rising u.column s) where
  -- none of a list's sides, or the first and more
  passed_none : x ≤ u.column → passed_at (u ∷ s) x ≡ 0
  unfolding Rising
  passed_none p = none_left (λ v h. 1) u.column (u ∷ s) x (omega arith, r) p

  passed_first : u.column < x → passed_at (u ∷ s) x ≡ suc (passed_at s x)
  passed_first p = omega (arith, left_cons (λ v h. 1) u s x, left_of u.column x 1 p)

-- what a later column adds is left of it among the sides that were not passed
pub left_split : (g : ℕ → ℕ → ℕ) (b : ℕ) (s : List Upright) (x y : ℕ) → Rising b s → x ≤ y →
    left_sum g s x + left_sum g (drop (passed_at s x) s) y ≡ left_sum g s y
unfolding Rising
left_split g b [] x y r h = refl
left_split g b (u ∷ s) x y r h = go (le_or_lt x u.column) (left_split g u.column s x y r.1 h)
  where
    rest : (k : ℕ) → passed_at (u ∷ s) x ≡ k → left_sum g (drop (passed_at (u ∷ s) x) (u ∷ s)) y ≡ left_sum g (drop k (u ∷ s)) y
    rest k e = ap (λ (k : ℕ). left_sum g (drop k (u ∷ s)) y) e

    go : (x ≤ u.column) ⊎ (u.column < x) → left_sum g s x + left_sum g (drop (passed_at s x) s) y ≡ left_sum g s y →
        left_sum g (u ∷ s) x + left_sum g (drop (passed_at (u ∷ s) x) (u ∷ s)) y ≡ left_sum g (u ∷ s) y
    go (inl p) ih = omega (arith, none_left g u.column (u ∷ s) x (omega arith, r.1) p, rest 0 (passed_none u s x r.1 p))
    go (inr p) ih =
        omega (
          arith,
          left_cons g u s x,
          left_cons g u s y,
          left_of u.column x (g u.column u.rows) p,
          left_of u.column y (g u.column u.rows) (omega arith),
          ih,
          rest (suc (passed_at s x)) (passed_first u s x r.1 p),
        )

-- and they rise on
pub rising_passed : (b : ℕ) (s : List Upright) (x : ℕ) → Rising b s → Rising b (drop (passed_at s x) s)
unfolding Rising
rising_passed b [] x r = tt
rising_passed b (u ∷ s) x r = go (le_or_lt x u.column) (rising_passed u.column s x r.1)
  where
    at : (k : ℕ) → passed_at (u ∷ s) x ≡ k → Rising b (drop k (u ∷ s)) → Rising b (drop (passed_at (u ∷ s) x) (u ∷ s))
    at k e q = subst (λ (k : ℕ). Rising b (drop k (u ∷ s))) (sym e) q

    go : (x ≤ u.column) ⊎ (u.column < x) → Rising u.column (drop (passed_at s x) s) → Rising b (drop (passed_at (u ∷ s) x) (u ∷ s))
    go (inl p) ih = at 0 (passed_none u s x r.1 p) r
    go (inr p) ih = at (suc (passed_at s x)) (passed_first u s x r.1 p) (rising_weaken b u.column (drop (passed_at s x) s) r.0 ih)

pub passed_within : (s : List Upright) (x : ℕ) → passed_at s x ≤ length s
passed_within [] x = omega arith
passed_within (u ∷ s) x = omega (arith, left_cons (λ v h. 1) u s x, part_of u.column x 1, passed_within s x)

-- ---- 64 bits hold the sums

-- a sum of terms of at most k each, over a list of small sides
pub sum_small : (g : ℕ → ℕ → ℕ) (k : ℕ) (s : List Upright) → All SmallUpright s → ((v h : ℕ) → v ≤ widest → h ≤ widest → g v h ≤ k) →
    side_sum g s ≤ k * length s
sum_small g k s z t =
    omega (arith, sum_by-le (λ (u : Upright). g u.column u.rows) k s (λ i d h. t (get_or s i d).column (get_or s i d).rows (z i d h).column (z i d h).rows))

pub left_small : (g : ℕ → ℕ → ℕ) (k : ℕ) (s : List Upright) (x : ℕ) → All SmallUpright s →
    ((v h : ℕ) → v ≤ widest → h ≤ widest → g v h ≤ k) → left_sum g s x ≤ k * length s
left_small g k s x z t =
    sum_small (λ v h. one_if (ltb v x) * g v h) k s z (λ v h p q. le_trans (part_of v x (g v h)) (t v h p q))
