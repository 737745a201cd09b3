-- A unit square is eligible exactly if no region holds it.
use Prim.Native.Nat.{ℕ, zero, suc, ◌+◌, ◌-◌, ◌*◌, ◌≤◌, ◌<◌, min, max}
use mathlib.Core.Path.{◌≡◌, refl, sym, ap, ap₂, ◌∙◌}
use mathlib.Core.Bool.{Bool, true, false, not, ◌&&◌, ◌||◌, and-true}
use mathlib.Core.List.{List, [], ◌∷◌}
use mathlib.Core.Logic.{◌⊎◌, inl, inr}
use native.Mathlib.Nat.{sub-zero, add-zero}
use native.Mathlib.Omega.{arith}
use lib.Dec.{leb, ltb}
use borrow.Author.Tests.{lt-ltb, le-ltb, le-leb, lt-leb, leb-true, ltb-true}
use Rattle.laws.proofs.Tests.{le_or_lt, both}
use Rattle.geometry.specs.declared.Rect.{Rect}
use Rattle.geometry.specs.Layout.{holds, covered}
use Rattle.geometry.proofs.Overlaps.{count_small}
use Rattle.spacing.specs.declared.Keepout.{Keepout}
use Rattle.spacing.specs.Eligible.{gap_between, square, clear_of, clear_of_all, rects_in, eligible, fillable_area}
use Rattle.spacing.specs.declared.span.Span.{Span}
use Rattle.spacing.specs.Span.{across, up, off_span}
use Rattle.spacing.specs.Regions.{core_of, reach_of, is_short, reaches}
use Rattle.spacing.proofs.Distances.{square_le}

-- ---- one axis

-- with a gap, a square is as far off the core as it is from the shape
gap_off : (a b x : ℕ) → off_span (record { from = a - 1; to = b + 1 }) x ≡ gap_between x (suc x) a b
gap_off a b x = ap₂ max before behind
  where
    before : a - 1 - x ≡ a - suc x
    before = omega arith

    behind : suc x - (b + 1) ≡ x - b
    behind = omega arith

-- a place of the span is not off it, and every other is
within_off : (s : Span) (x : ℕ) → s.from ≤ x → x < s.to → off_span s x ≡ 0
within_off s x h k = omega arith

within_gap : (a b x : ℕ) → a ≤ x → x < b → gap_between x (suc x) a b ≡ 0
within_gap a b x h k = omega arith

-- ---- both axes

-- a square less than 1 off a rectangle lies in it
touching : (r : Rect) (x y : ℕ) → reaches r 1 x y ≡ holds r x y
touching r x y = go (le_or_lt r.x1 x) (le_or_lt r.x2 x) (le_or_lt r.y1 y) (le_or_lt r.y2 y)
  where
    u : ℕ
    u = off_span (across r) x

    v : ℕ
    v = off_span (up r) y

    off : (1 ≤ u) ⊎ (1 ≤ v) → is_short 1 u v ≡ false
    off (inl h) = le-ltb (square u + square v) 1 (omega (arith, square_le 1 u h))
    off (inr h) = le-ltb (square u + square v) 1 (omega (arith, square_le 1 v h))

    go : (r.x1 ≤ x) ⊎ (x < r.x1) → (r.x2 ≤ x) ⊎ (x < r.x2) → (r.y1 ≤ y) ⊎ (y < r.y1) → (r.y2 ≤ y) ⊎ (y < r.y2) → is_short 1 u v ≡ holds r x y
    go (inr a) b c d = off (inl (omega arith)) ∙ sym (rw (lt-leb r.x1 x a))
    go (inl a) (inl b) c d = off (inl (omega arith)) ∙ sym (rw (le-leb r.x1 x a, le-ltb x r.x2 b))
    go (inl a) (inr b) (inr c) d = off (inr (omega arith)) ∙ sym (rw (le-leb r.x1 x a, lt-ltb x r.x2 b, lt-leb r.y1 y c))
    go (inl a) (inr b) (inl c) (inl d) =
        off (inr (omega arith)) ∙ sym (rw (le-leb r.x1 x a, lt-ltb x r.x2 b, le-leb r.y1 y c, le-ltb y r.y2 d))
    go (inl a) (inr b) (inl c) (inr d) =
        rw (within_off (across r) x a b, within_off (up r) y c d)
        (sym (rw (le-leb r.x1 x a, lt-ltb x r.x2 b, le-leb r.y1 y c, lt-ltb y r.y2 d)))

-- uncovered and far enough is outside the region
one_region : (g : ℕ) (r : Rect) (x y : ℕ) →
    (not (holds r x y) && clear_of (record { rect = r; gap = g }) x y) ≡ not (reaches (core_of (record { rect = r; gap = g })) (reach_of (record { rect = r; gap = g })) x y)
one_region zero r x y =
    ap (λ (t : Bool). not (holds r x y) && t) any
    ∙ and-true (not (holds r x y))
    ∙ ap not (sym whole)
  where
    whole : reaches (core_of (record { rect = r; gap = 0 })) 1 x y ≡ holds r x y
    whole = rw (sub-zero r.x1, sub-zero r.y1, add-zero r.x2, add-zero r.y2) (touching r x y)

    any : clear_of (record { rect = r; gap = 0 }) x y ≡ true
    any = le-leb 0 (square (gap_between x (suc x) r.x1 r.x2) + square (gap_between y (suc y) r.y1 r.y2)) (omega arith)
one_region (suc g) r x y = go (holds r x y) refl
  where
    k : Keepout
    k = record { rect = r; gap = suc g }

    across : ℕ
    across = gap_between x (suc x) r.x1 r.x2

    down : ℕ
    down = gap_between y (suc y) r.y1 r.y2

    held : reaches (core_of k) (reach_of k) x y ≡ is_short (suc g) across down
    held = rw (beside, reach) (ap₂ (is_short (suc g)) (gap_off r.x1 r.x2 x) (gap_off r.y1 r.y2 y))
      where
        beside : min 1 (suc g) ≡ 1
        beside = omega arith

        reach : max 1 (suc g) ≡ suc g
        reach = omega arith

    short : clear_of k x y ≡ not (is_short (suc g) across down)
    short = either_way (le_or_lt (square (suc g)) (square across + square down))
      where
        either_way : (square (suc g) ≤ square across + square down) ⊎ (square across + square down < square (suc g)) →
            clear_of k x y ≡ not (is_short (suc g) across down)
        either_way (inl h) = le-leb (square (suc g)) (square across + square down) h ∙ sym (ap not (le-ltb (square across + square down) (square (suc g)) h))
        either_way (inr h) = lt-leb (square (suc g)) (square across + square down) h ∙ sym (ap not (lt-ltb (square across + square down) (square (suc g)) h))

    -- a covered square has no gap
    covered_near : holds r x y ≡ true → clear_of k x y ≡ false
    covered_near h =
        let in_x = both (leb r.x1 x && ltb x r.x2) (leb r.y1 y && ltb y r.y2) h in
        let left = both (leb r.x1 x) (ltb x r.x2) in_x.0 in
        let low = both (leb r.y1 y) (ltb y r.y2) in_x.1 in
        let no_gap = within_gap r.x1 r.x2 x (leb-true r.x1 x left.0) (ltb-true x r.x2 left.1) in
        let no_drop = within_gap r.y1 r.y2 y (leb-true r.y1 y low.0) (ltb-true y r.y2 low.1) in
        rw (no_gap, no_drop) (lt-leb (square (suc g)) 0 (omega arith))

    go : (t : Bool) → holds r x y ≡ t → (not t && clear_of k x y) ≡ not (reaches (core_of k) (reach_of k) x y)
    go false e = short ∙ ap not (sym held)
    go true e = sym (covered_near e) ∙ short ∙ ap not (sym held)

-- ---- all shapes

regrouped : (a b c e : Bool) → (not (a || b) && (c && e)) ≡ ((not a && c) && (not b && e))
regrouped true b c e = refl
regrouped false true true e = refl
regrouped false true false e = refl
regrouped false false c e = refl

not_or : (a b : Bool) → (not a && not b) ≡ not (a || b)
not_or true b = refl
not_or false b = refl

-- the region of a shape holds the square
unfoldable pub held_for : List Keepout → (x y : ℕ) → Bool
held_for [] x y = false
held_for (k ∷ ks) x y = reaches (core_of k) (reach_of k) x y || held_for ks x y

pub eligible_outside : (ks : List Keepout) (x y : ℕ) → eligible ks x y ≡ not (held_for ks x y)
unfolding covered clear_of_all held_for
eligible_outside [] x y = refl
eligible_outside (k ∷ ks) x y =
    regrouped (holds k.rect x y) (covered (rects_in ks) x y) (clear_of k x y) (clear_of_all ks x y)
    ∙ ap₂ ◌&&◌ (one_region k.gap k.rect x y) (eligible_outside ks x y)
    ∙ not_or (reaches (core_of k) (reach_of k) x y) (held_for ks x y)

-- a box takes no more fill than it has squares
pub fillable_small : (ks : List Keepout) (b : Rect) → fillable_area ks b ≤ (b.x2 - b.x1) * (b.y2 - b.y1)
fillable_small ks b = count_small (eligible ks) b
