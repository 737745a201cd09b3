-- A box shares a unit square with rectangles exactly if some unit square lies in it and is covered; and no shape lies under it exactly if
-- its area is 0.
use Prim.Native.Nat.{ℕ, ◌+◌, ◌≤◌, ◌<◌}
use mathlib.Core.Path.{◌≡◌, refl, ap, subst}
use mathlib.Core.Bool.{Bool, true, false, ◌&&◌, ◌||◌, or-false}
use mathlib.Core.List.{List, [], ◌∷◌}
use mathlib.Core.Logic.{◌⊎◌, inl, inr}
use native.Mathlib.Omega.{arith}
use lib.Dec.{T, leb, ltb, leb→le, le→leb, ltb→lt, lt→ltb}
use borrow.Author.Tests.{lt-ltb, ltb-true}
use Rattle.laws.proofs.Tests.{le_or_lt, true_false, T_and, T-both, T-left, T-right}
use Rattle.geometry.specs.declared.Rect.{Rect}
use Rattle.geometry.specs.Count.{one_if, rect_sum}
use Rattle.geometry.specs.Layout.{holds, covered, covered_area, shares_square, shapes_under}
use Rattle.geometry.proofs.Counting.{Inside, box_le, box_plus, box_term, box_above}
use Rattle.geometry.proofs.Overlaps.{nothing_covered}

-- ---- what a box holds

pub inside_holds : (b : Rect) (x y : ℕ) → Inside b x y → T (holds b x y)
inside_holds b x y i =
    T_and (leb b.x1 x && ltb x b.x2) (leb b.y1 y && ltb y b.y2)
    (T_and (leb b.x1 x) (ltb x b.x2) (le→leb b.x1 x i.left) (lt→ltb x b.x2 i.right))
    (T_and (leb b.y1 y) (ltb y b.y2) (le→leb b.y1 y i.low) (lt→ltb y b.y2 i.high))

pub holds_inside : (b : Rect) (x y : ℕ) → T (holds b x y) → Inside b x y
holds_inside b x y h =
    let held = T-both (leb b.x1 x && ltb x b.x2) (leb b.y1 y && ltb y b.y2) h in
    let across = T-both (leb b.x1 x) (ltb x b.x2) held.0 in
    let up = T-both (leb b.y1 y) (ltb y b.y2) held.1 in
    record {
      left = leb→le b.x1 x across.0;
      right = ltb→lt x b.x2 across.1;
      low = leb→le b.y1 y up.0;
      high = ltb→lt y b.y2 up.1;
    }

-- ---- a shared square

counted : (p : Bool) → T p → 0 < one_if p
counted true h = omega arith
counted false h = absurd h

counts : (p : Bool) → 0 < one_if p → T p
counts true h = tt
counts false h = absurd (omega arith)

-- a square that lies in the box and is covered
pub record SharedSquare (rs : List Rect) (b : Rect) : Type 0 where
  pub x : ℕ
  pub y : ℕ
  pub in_box : T (holds b x y)
  pub in_rects : T (covered rs x y)

pub shared→shares : (rs : List Rect) (b : Rect) → SharedSquare rs b → shares_square rs b ≡ true
shared→shares rs b s =
    lt-ltb 0 (covered_area rs b)
    (omega (
      arith,
      counted (covered rs s.x s.y) s.in_rects,
      box_term b (λ x y. one_if (covered rs x y)) s.x s.y (holds_inside b s.x s.y s.in_box),
    ))

pub shares→shared : (rs : List Rect) (b : Rect) → shares_square rs b ≡ true → SharedSquare rs b
shares→shared rs b e =
    let at = box_above b (λ x y. one_if (covered rs x y)) (ltb-true 0 (covered_area rs b) e) in
    record {
      x = at.0;
      y = at.1;
      in_box = inside_holds b at.0 at.1 at.2;
      in_rects = counts (covered rs at.0 at.1) at.3;
    }

-- no shared square: what `Disjoint` asks of a rectangle and the others
pub shares_none : (rs : List Rect) (b : Rect) → shares_square rs b ≡ false → (x y : ℕ) → T (holds b x y) → T (covered rs x y) → ⊥
shares_none rs b e x y h k = true_false (shares_square rs b) (shared→shares rs b (record { x = x; y = y; in_box = h; in_rects = k })) e

-- ---- shapes under a box

one_if_le : (p q : Bool) → (T p → T q) → one_if p ≤ one_if q
one_if_le true true h = omega arith
one_if_le true false h = absurd (h tt)
one_if_le false q h = omega arith

-- rectangles that cover no square but those that others cover have no more area
area_le : (rs ss : List Rect) (b : Rect) → ((x y : ℕ) → T (covered rs x y) → T (covered ss x y)) → covered_area rs b ≤ covered_area ss b
area_le rs ss b h =
    box_le b (λ x y. one_if (covered rs x y)) (λ x y. one_if (covered ss x y)) (λ x y i. one_if_le (covered rs x y) (covered ss x y) (h x y))

-- the first rectangle of a list, and the others, have no more area than all together, and all no more than both
first_le : (r : Rect) (rs : List Rect) (b : Rect) → covered_area (r ∷ []) b ≤ covered_area (r ∷ rs) b
unfolding covered
first_le r rs b = area_le (r ∷ []) (r ∷ rs) b (λ x y h. T-left (holds r x y) (covered rs x y) (subst T (or-false (holds r x y)) h))

rest_le : (r : Rect) (rs : List Rect) (b : Rect) → covered_area rs b ≤ covered_area (r ∷ rs) b
unfolding covered
rest_le r rs b = area_le rs (r ∷ rs) b (λ x y h. T-right (holds r x y) (covered rs x y) h)

both_ge : (r : Rect) (rs : List Rect) (b : Rect) → covered_area (r ∷ rs) b ≤ covered_area (r ∷ []) b + covered_area rs b
unfolding covered
both_ge r rs b =
    omega (
      arith,
      box_le b (λ x y. one_if (covered (r ∷ rs) x y)) (λ x y. one_if (covered (r ∷ []) x y) + one_if (covered rs x y))
          (λ x y i. go (holds r x y) (covered rs x y)),
      box_plus b (λ x y. one_if (covered (r ∷ []) x y)) (λ x y. one_if (covered rs x y)),
    )
  where
    go : (p q : Bool) → one_if (p || q) ≤ one_if (p || false) + one_if q
    go true q = omega arith
    go false q = omega arith

-- a number that a test for more than 0 does not count
uncounted : (n : ℕ) → one_if (ltb 0 n) ≡ 0 → n ≡ 0
uncounted n e = go (le_or_lt n 0)
  where
    go : (n ≤ 0) ⊎ (0 < n) → n ≡ 0
    go (inl h) = omega arith
    go (inr h) = absurd (omega (arith, rw (lt-ltb 0 n h) at e))

-- no shape lies under a box exactly if its area is 0, whether or not rectangles share squares
pub no_shapes→no_area : (rs : List Rect) (b : Rect) → shapes_under rs b ≡ 0 → covered_area rs b ≡ 0
unfolding rect_sum
no_shapes→no_area [] b e = nothing_covered b
no_shapes→no_area (r ∷ rs) b e =
    omega (arith, both_ge r rs b, uncounted (covered_area (r ∷ []) b) (omega (arith, e)), no_shapes→no_area rs b (omega (arith, e)))

pub no_area→no_shapes : (rs : List Rect) (b : Rect) → covered_area rs b ≡ 0 → shapes_under rs b ≡ 0
unfolding rect_sum
no_area→no_shapes [] b e = refl
no_area→no_shapes (r ∷ rs) b e = omega (arith, ap (λ (n : ℕ). one_if (ltb 0 n)) alone, no_area→no_shapes rs b (omega (arith, e, rest_le r rs b)))
  where
    alone : covered_area (r ∷ []) b ≡ 0
    alone = omega (arith, e, first_le r rs b)
