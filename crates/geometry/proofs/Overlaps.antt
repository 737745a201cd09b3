-- The sums that the code forms count the covered unit squares: a rectangle shares with a box the product of the two lengths in common, and
-- disjoint rectangles add up.
use Prim.Native.Nat.{ℕ, zero, suc, ◌+◌, ◌-◌, ◌*◌, ◌≤◌, ◌<◌}
use mathlib.Core.Path.{◌≡◌, refl, ap, ap₂, ◌∙◌}
use mathlib.Core.Bool.{Bool, true, false, ◌&&◌, ◌||◌}
use mathlib.Core.List.{List, [], ◌∷◌}
use mathlib.Core.Logic.{◌⊎◌, inl, inr}
use native.Mathlib.Nat.{add-zero}
use native.Mathlib.Omega.{arith}
use lib.Dec.{T, leb, ltb}
use borrow.Author.Tests.{lt-ltb, le-ltb, le-leb, lt-leb}
use Rattle.laws.proofs.Tests.{le_or_lt}
use Rattle.geometry.specs.declared.Rect.{Rect}
use Rattle.geometry.specs.Count.{sum, span, box_sum, one_if, rect_sum}
use Rattle.geometry.specs.Layout.{holds, covered, covered_area, shares_square, window_box, Disjoint}
use Rattle.geometry.specs.Overlaps.{common, overlap, overlap_sum}
use Rattle.geometry.proofs.Counting.{box_cong, box_le, box_plus, box_const, box_product}

-- ---- tests as counts

one_if_both : (p q : Bool) → one_if (p && q) ≡ one_if q * one_if p
one_if_both true true = refl
one_if_both true false = refl
one_if_both false true = refl
one_if_both false false = refl

one_if_either : (p q : Bool) → (T p → T q → ⊥) → one_if (p || q) ≡ one_if p + one_if q
one_if_either true true h = absurd (h tt tt)
one_if_either true false h = refl
one_if_either false true h = refl
one_if_either false false h = refl

pub one_if_small : (p : Bool) → one_if p ≤ 1
one_if_small true = omega arith
one_if_small false = omega arith

-- ---- the numbers that two spans have in common

-- whether x lies from a to before b
abbrev between : (a b x : ℕ) → Bool
between a b x = leb a x && ltb x b

too_low : (a b x : ℕ) → x < a → one_if (between a b x) ≡ 0
too_low a b x h = rw (lt-leb a x h)

inside : (a b x : ℕ) → a ≤ x → x < b → one_if (between a b x) ≡ 1
inside a b x h k = rw (le-leb a x h, lt-ltb x b k)

too_high : (a b x : ℕ) → a ≤ x → b ≤ x → one_if (between a b x) ≡ 0
too_high a b x h k = rw (le-leb a x h, le-ltb x b k)

-- one number more on the right
common_more : (a b c n : ℕ) → common a b c (c + n) + one_if (between a b (c + n)) ≡ common a b c (c + suc n)
common_more a b c n = go (le_or_lt a (c + n)) (le_or_lt b (c + n))
  where
    go : (a ≤ c + n) ⊎ (c + n < a) → (b ≤ c + n) ⊎ (c + n < b) → common a b c (c + n) + one_if (between a b (c + n)) ≡ common a b c (c + suc n)
    go (inr h) k = rw (too_low a b (c + n) h) (omega arith)
    go (inl h) (inl k) = rw (too_high a b (c + n) h k) (omega arith)
    go (inl h) (inr k) = rw (inside a b (c + n) h k) (omega arith)

sum_common : (a b c n : ℕ) → sum n (λ i. one_if (between a b (c + i))) ≡ common a b c (c + n)
unfolding sum
sum_common a b c zero = omega arith
sum_common a b c (suc n) = ap (λ (k : ℕ). k + one_if (between a b (c + n))) (sum_common a b c n) ∙ common_more a b c n

pub span_common : (a b c d : ℕ) → span c d (λ x. one_if (leb a x && ltb x b)) ≡ common a b c d
span_common a b c d = sum_common a b c (d - c) ∙ ends
  where
    ends : common a b c (c + (d - c)) ≡ common a b c d
    ends = omega arith

-- ---- rectangles in a box

-- the unit squares of a box that one rectangle covers
pub one_overlap : (r b : Rect) → box_sum b (λ x y. one_if (holds r x y)) ≡ overlap r b
one_overlap r b =
    box_cong b (λ x y. one_if (holds r x y)) (λ x y. one_if (between r.y1 r.y2 y) * one_if (between r.x1 r.x2 x))
    (λ x y i. one_if_both (between r.x1 r.x2 x) (between r.y1 r.y2 y))
    ∙ box_product b (λ x. one_if (between r.x1 r.x2 x)) (λ y. one_if (between r.y1 r.y2 y))
    ∙ ap₂ ◌*◌ (span_common r.x1 r.x2 b.x1 b.x2) (span_common r.y1 r.y2 b.y1 b.y2)

-- a rectangle that shares no square with the others adds its own
pub area_cons : (r : Rect) (rs : List Rect) (b : Rect) → ((x y : ℕ) → T (holds r x y) → T (covered rs x y) → ⊥) →
    covered_area (r ∷ rs) b ≡ overlap r b + covered_area rs b
unfolding covered
area_cons r rs b h =
    box_cong b (λ x y. one_if (covered (r ∷ rs) x y)) (λ x y. one_if (holds r x y) + one_if (covered rs x y))
    (λ x y i. one_if_either (holds r x y) (covered rs x y) (h x y))
    ∙ box_plus b (λ x y. one_if (holds r x y)) (λ x y. one_if (covered rs x y))
    ∙ ap (λ (k : ℕ). k + covered_area rs b) (one_overlap r b)

pub nothing_covered : (b : Rect) → covered_area [] b ≡ 0
unfolding covered
nothing_covered b = box_const b 0 ∙ none
  where
    none : (b.y2 - b.y1) * ((b.x2 - b.x1) * 0) ≡ 0
    none = omega arith

pub overlap_is_area : (rs : List Rect) (b : Rect) → Disjoint rs → covered_area rs b ≡ overlap_sum rs b
unfolding covered Disjoint rect_sum
overlap_is_area [] b d = nothing_covered b
overlap_is_area (r ∷ rs) b d =
    area_cons r rs b d.0
    ∙ ap (λ (k : ℕ). overlap r b + k) (overlap_is_area rs b d.1)

-- a rectangle by itself shares a unit square with a box where its overlap is not 0
pub shares_overlap : (r b : Rect) → shares_square (r ∷ []) b ≡ ltb 0 (overlap r b)
unfolding covered Disjoint rect_sum
shares_overlap r b = ap (λ (k : ℕ). ltb 0 k) (overlap_is_area (r ∷ []) b (λ x y p q. q, tt) ∙ add-zero (overlap r b))

-- ---- bounds

-- no test holds for more squares than a box has
pub count_small : (p : ℕ → ℕ → Bool) (b : Rect) → box_sum b (λ x y. one_if (p x y)) ≤ (b.x2 - b.x1) * (b.y2 - b.y1)
count_small p b = omega (arith, box_le b (λ x y. one_if (p x y)) (λ x y. 1) (λ x y i. one_if_small (p x y)), box_const b 1)

-- so no more are covered
pub area_small : (rs : List Rect) (b : Rect) → covered_area rs b ≤ (b.x2 - b.x1) * (b.y2 - b.y1)
area_small rs b = count_small (covered rs) b

-- and a window has no more than w × w
pub window_small : (rs : List Rect) (w x y : ℕ) → covered_area rs (window_box w x y) ≤ w * w
window_small rs w x y = omega (arith, area_small rs (window_box w x y), ap₂ ◌*◌ (side x) (side y))
  where
    side : (u : ℕ) → u + w - u ≡ w
    side u = omega arith
