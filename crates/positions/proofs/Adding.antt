-- All positions: thresholds for the bounds, and that the three counts add up.
use Prim.Native.Nat.{ℕ, ◌+◌, ◌-◌, ◌*◌, ◌/◌, ◌≤◌, ◌<◌}
use mathlib.Core.Path.{◌≡◌, refl, sym, ap, ap₂, ◌∙◌}
use mathlib.Core.Bool.{Bool, true, false, not, ◌&&◌}
use mathlib.Core.List.{List}
use mathlib.Core.Logic.{◌⊎◌, inl, inr}
use native.Mathlib.Nat.{zero-add, mul-le-mul_right}
use native.Mathlib.Numerals.{add-one}
use native.Mathlib.Omega.{arith}
use lib.Dec.{leb, ltb}
use borrow.Author.Tests.{lt-ltb, le-ltb, le-leb, lt-leb}
use Rattle.laws.proofs.Tests.{le_or_lt}
use Rattle.std.specs.Int.{div_ceil}
use Rattle.geometry.specs.declared.Rect.{Rect}
use Rattle.geometry.specs.Count.{one_if, box_sum}
use Rattle.geometry.specs.Positions.{window_area, positions, Position}
use Rattle.geometry.specs.Bounds.{keeps_upper, keeps_lower}
use Rattle.geometry.proofs.Counting.{box_cong, box_plus, box_const, box_zero, box_term}
use Rattle.positions.specs.declared.Tally.{Tally}
use Rattle.positions.specs.Tallies.{all_positions, positions_where, tally_of}
use Rattle.below.specs.Counting.{below_in}
use Rattle.below.proofs.FirstBox.{first_positions, whole_side}

-- ---- thresholds

-- 10000 × a is below m exactly if a is below m / 10000, rounded up; and it is at most m exactly if a is at most m / 10000, rounded down
fails_below : (a m : ℕ) → ltb a (div_ceil m 10000) ≡ not (leb m (10000 * a))
fails_below a m = go (le_or_lt m (10000 * a))
  where
    go : (m ≤ 10000 * a) ⊎ (10000 * a < m) → ltb a (div_ceil m 10000) ≡ not (leb m (10000 * a))
    go (inl h) = le-ltb a (div_ceil m 10000) (omega arith) ∙ ap not (sym (le-leb m (10000 * a) h))
    go (inr h) = lt-ltb a (div_ceil m 10000) (omega arith) ∙ ap not (sym (lt-leb m (10000 * a) h))

keeps_below : (a m : ℕ) → ltb a (m / 10000 + 1) ≡ leb (10000 * a) m
keeps_below a m = go (le_or_lt (10000 * a) m)
  where
    go : (10000 * a ≤ m) ⊎ (m < 10000 * a) → ltb a (m / 10000 + 1) ≡ leb (10000 * a) m
    go (inl h) = lt-ltb a (m / 10000 + 1) (omega arith) ∙ sym (le-leb (10000 * a) m h)
    go (inr h) = le-ltb a (m / 10000 + 1) (omega arith) ∙ sym (lt-leb (10000 * a) m h)

-- ---- counts of all positions

module _ (rs : List Rect) (n w : ℕ) where
  where_cong : (f g : ℕ → Bool) → ((a : ℕ) → f a ≡ g a) → positions_where f rs n w ≡ positions_where g rs n w
  where_cong f g h =
      box_cong (all_positions n w) (λ x y. one_if (f (window_area rs w x y))) (λ x y. one_if (g (window_area rs w x y)))
      (λ x y i. ap one_if (h (window_area rs w x y)))

  where_plus : (f g h : ℕ → Bool) → ((a : ℕ) → one_if (f a) ≡ one_if (g a) + one_if (h a)) →
      positions_where f rs n w ≡ positions_where g rs n w + positions_where h rs n w
  where_plus f g h e =
      box_cong (all_positions n w) (λ x y. one_if (f (window_area rs w x y)))
      (λ x y. one_if (g (window_area rs w x y)) + one_if (h (window_area rs w x y))) (λ x y i. e (window_area rs w x y))
      ∙ box_plus (all_positions n w) (λ x y. one_if (g (window_area rs w x y))) (λ x y. one_if (h (window_area rs w x y)))

  where_all : positions_where (λ a. true) rs n w ≡ positions n w * positions n w
  where_all = box_const (all_positions n w) 1 ∙ size (positions n w)
    where
      size : (p : ℕ) → (p - 0) * ((p - 0) * 1) ≡ p * p
      size p = ap (λ (q : ℕ). q * (q * 1)) (whole_side p) ∙ omega arith

  -- a count is 0 exactly if no position passes
  pub none_passes : (f : ℕ → Bool) → positions_where f rs n w ≡ 0 → (x y : ℕ) → Position n w x y → f (window_area rs w x y) ≡ false
  none_passes f e x y q = go (f (window_area rs w x y)) refl
    where
      go : (t : Bool) → f (window_area rs w x y) ≡ t → t ≡ false
      go false h = refl
      go true h =
          absurd (omega (
            arith,
            e,
            box_term (all_positions n w) (λ x y. one_if (f (window_area rs w x y))) x y
                (record { left = omega arith; right = omega (arith, q.across); low = omega arith; high = omega (arith, q.down) }),
            ap one_if h,
          ))

  pub passes_none : (f : ℕ → Bool) → ((x y : ℕ) → Position n w x y → f (window_area rs w x y) ≡ false) → positions_where f rs n w ≡ 0
  passes_none f h =
      box_cong (all_positions n w) (λ x y. one_if (f (window_area rs w x y))) (λ x y. 0)
      (λ x y i. ap one_if (h x y (record { across = omega (arith, i.right); down = omega (arith, i.high) }))) ∙ box_zero (all_positions n w)

-- ---- under, within and over

one_of_two : (t : Bool) → 1 ≡ one_if (not t) + one_if t
one_of_two true = refl
one_of_two false = refl

module _ (rs : List Rect) (n w lower upper : ℕ) (order : lower ≤ upper) where
  abbrev tally : Tally
  tally = tally_of rs n w lower upper

  abbrev kept : ℕ
  kept = positions_where (keeps_upper upper w) rs n w

  bounds_order : lower * w * w ≤ upper * w * w
  bounds_order = mul-le-mul_right w (mul-le-mul_right w order)

  -- what keeps the upper bound is under or within
  pub kept_is : kept ≡ tally.under + tally.within
  kept_is =
      where_plus rs n w (keeps_upper upper w) (λ a. not (keeps_lower lower w a)) (λ a. keeps_lower lower w a && keeps_upper upper w a)
      (λ a. split a (le_or_lt (lower * w * w) (10000 * a)))
    where
      split : (a : ℕ) → (lower * w * w ≤ 10000 * a) ⊎ (10000 * a < lower * w * w) →
          one_if (keeps_upper upper w a) ≡ one_if (not (keeps_lower lower w a)) + one_if (keeps_lower lower w a && keeps_upper upper w a)
      split a (inl h) = rw (le-leb (lower * w * w) (10000 * a) h) (sym (zero-add (one_if (keeps_upper upper w a))))
      split a (inr h) = rw (lt-leb (lower * w * w) (10000 * a) h, le-leb (10000 * a) (upper * w * w) (omega (arith, bounds_order)))

  all_are : positions n w * positions n w ≡ tally.over + kept
  all_are =
      sym (where_all rs n w)
      ∙ where_plus rs n w (λ a. true) (λ a. not (keeps_upper upper w a)) (keeps_upper upper w) (λ a. one_of_two (keeps_upper upper w a))

  pub tally_adds_up : tally.under + tally.within + tally.over ≡ positions n w * positions n w
  tally_adds_up = omega (arith, kept_is, all_are)

  -- ---- by two counts

  module _ (p : ℕ) (q : p ≡ n - w + 1) where
    counted : (f : ℕ → Bool) (k area : ℕ) → k ≡ below_in rs (record { window = w; area = area }) (first_positions p) → ((a : ℕ) → ltb a area ≡ f a) →
        k ≡ positions_where f rs n w
    counted f k area d h =
        d
        ∙ ap (λ (m : ℕ). box_sum (first_positions m) (λ x y. one_if (ltb (window_area rs w x y) area))) (q ∙ add-one (n - w))
        ∙ where_cong rs n w (λ a. ltb a area) f h

    module _ (k m least : ℕ) (e : least ≡ div_ceil (lower * w * w) 10000) (c : k ≡ below_in rs (record { window = w; area = least }) (first_positions p))
        (d : m ≡ below_in rs (record { window = w; area = upper * w * w / 10000 + 1 }) (first_positions p)) where
      under_is : k ≡ tally.under
      under_is = counted (λ a. not (keeps_lower lower w a)) k least c (λ a. ap (ltb a) e ∙ fails_below a (lower * w * w))

      kept_count : m ≡ kept
      kept_count = counted (keeps_upper upper w) m (upper * w * w / 10000 + 1) d (λ a. keeps_below a (upper * w * w))

      squared : p * p ≡ positions n w * positions n w
      squared = ap₂ ◌*◌ (q ∙ add-one (n - w)) (q ∙ add-one (n - w))

      pub under_less : k ≤ m
      under_less = omega (arith, under_is, kept_count, kept_is)

      pub kept_less : m ≤ p * p
      kept_less = omega (arith, kept_count, all_are, squared)

      pub tally_is : ◌≡◌ {A = Tally} (record { under = k; within = m - k; over = p * p - m }) tally
      tally_is = λ i. record { under = under_is i; within = inside i; over = rest i }
        where
          inside : m - k ≡ tally.within
          inside = omega (arith, under_is, kept_count, kept_is)

          rest : p * p - m ≡ tally.over
          rest = omega (arith, kept_count, all_are, squared)
