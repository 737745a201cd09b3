-- Shapes of both kinds: areas and counts are those of each kind together, and a placement stays clear of every shape.
use Prim.Native.Nat.{ℕ, suc, ◌+◌}
use mathlib.Core.Path.{◌≡◌, refl, sym, ap₂, ◌∙◌}
use mathlib.Core.Bool.{Bool, true, false, not, ◌&&◌, ◌||◌}
use mathlib.Core.List.{List, [], ◌∷◌}
use mathlib.Core.Logic.{◌⊎◌, inl, inr}
use native.Mathlib.Omega.{arith}
use lib.Dec.{T}
use borrow.Author.Tests.{leb-true}
use Rattle.laws.proofs.Tests.{T_and, T-both, T-left, T-right, T-either}
use Rattle.geometry.specs.declared.Rect.{Rect}
use Rattle.geometry.specs.Count.{rect_sum}
use Rattle.geometry.specs.Layout.{holds, covered, covered_area, Disjoint}
use Rattle.geometry.specs.Overlaps.{overlap}
use Rattle.geometry.proofs.Overlaps.{overlap_is_area}
use Rattle.spacing.specs.Eligible.{gap_between, square, clear_of, clear_of_all, rects_in, eligible}
use Rattle.forms.specs.declared.Gap.{Gap}
use Rattle.forms.specs.declared.Kind.{Kind}
use Rattle.forms.specs.declared.Kind.TheVariants.{Drawn, Dummy}
use Rattle.forms.specs.declared.Shape.{Shape}
use Rattle.forms.specs.Shapes.{rectangles, rectangles_of, is_kind}
use Rattle.standing.specs.Filling.{keepout_of, keepouts}
use Rattle.unit.specs.Promise.{Among, first, later, Clear}

-- ---- the shapes of one kind are among all

of_covered : (k : Kind) (ss : List Shape) (x y : ℕ) → T (covered (rectangles_of k ss) x y) → T (covered (rectangles ss) x y)
unfolding covered rectangles_of
of_covered k [] x y c = c
of_covered k (s ∷ ss) x y c = go (is_kind k s.kind) c (of_covered k ss x y)
  where
    go : (b : Bool) → T (covered (elim b as (λ z. List Rect) [ true ↦ s.rect ∷ rectangles_of k ss | false ↦ rectangles_of k ss ]) x y) →
        (T (covered (rectangles_of k ss) x y) → T (covered (rectangles ss) x y)) → T (holds s.rect x y || covered (rectangles ss) x y)
    go false c ih = T-right (holds s.rect x y) (covered (rectangles ss) x y) (ih c)
    go true c ih = which (T-either (holds s.rect x y) (covered (rectangles_of k ss) x y) c)
      where
        which : T (holds s.rect x y) ⊎ T (covered (rectangles_of k ss) x y) → T (holds s.rect x y || covered (rectangles ss) x y)
        which (inl h) = T-left (holds s.rect x y) (covered (rectangles ss) x y) h
        which (inr h) = T-right (holds s.rect x y) (covered (rectangles ss) x y) (ih h)

of_disjoint : (k : Kind) (ss : List Shape) → Disjoint (rectangles ss) → Disjoint (rectangles_of k ss)
unfolding Disjoint rectangles_of
of_disjoint k [] d = tt
of_disjoint k (s ∷ ss) d = go (is_kind k s.kind) (of_disjoint k ss d.1)
  where
    go : (b : Bool) → Disjoint (rectangles_of k ss) → Disjoint (elim b as (λ z. List Rect) [ true ↦ s.rect ∷ rectangles_of k ss | false ↦ rectangles_of k ss ])
    go true ih = (λ x y p q. d.0 x y p (of_covered k ss x y q), ih)
    go false ih = ih

-- ---- areas and counts

pub sum_of_kinds : (ss : List Shape) (f : Rect → ℕ) → rect_sum (rectangles ss) f ≡ rect_sum (rectangles_of Drawn ss) f + rect_sum (rectangles_of Dummy ss) f
unfolding rect_sum rectangles_of
sum_of_kinds [] f = refl
sum_of_kinds (s ∷ ss) f = go s.kind (sum_of_kinds ss f)
  where
    go : (k : Kind) → rect_sum (rectangles ss) f ≡ rect_sum (rectangles_of Drawn ss) f + rect_sum (rectangles_of Dummy ss) f →
        f s.rect + rect_sum (rectangles ss) f
        ≡ rect_sum (elim (is_kind Drawn k) as (λ z. List Rect) [ true ↦ s.rect ∷ rectangles_of Drawn ss | false ↦ rectangles_of Drawn ss ]) f
        + rect_sum (elim (is_kind Dummy k) as (λ z. List Rect) [ true ↦ s.rect ∷ rectangles_of Dummy ss | false ↦ rectangles_of Dummy ss ]) f
    go Drawn ih = omega (arith, ih)
    go Dummy ih = omega (arith, ih)

-- the area of a box is that of the drawn metal and that of the dummies
pub area_of_kinds : (ss : List Shape) (b : Rect) → Disjoint (rectangles ss) →
    covered_area (rectangles ss) b ≡ covered_area (rectangles_of Drawn ss) b + covered_area (rectangles_of Dummy ss) b
area_of_kinds ss b d =
    overlap_is_area (rectangles ss) b d ∙ sum_of_kinds ss (λ r. overlap r b)
    ∙ sym (ap₂ ◌+◌ (overlap_is_area (rectangles_of Drawn ss) b (of_disjoint Drawn ss d)) (overlap_is_area (rectangles_of Dummy ss) b (of_disjoint Dummy ss d)))

-- ---- placements

outside_all : (p q : Bool) → T (not (p || q)) → (p ≡ false) × T (not q)
outside_all true q h = absurd h
outside_all false q h = (refl, h)

told : (p : Bool) → T p → p ≡ true
told true h = refl
told false h = absurd h

-- an eligible square is clear of every shape, by the gap of its kind
pub eligible_clear : (g : Gap) {s : Shape} {ss : List Shape} → Among s ss → (x y : ℕ) → T (eligible (keepouts g ss) x y) → Clear (keepout_of g s) x y
unfolding covered clear_of_all
eligible_clear g {s = s} (first {ss = ss}) x y e =
    let rest = keepouts g ss in
    let k = T-both (not (holds s.rect x y || covered (rects_in rest) x y)) (clear_of (keepout_of g s) x y && clear_of_all rest x y) e in
    let c = T-both (clear_of (keepout_of g s) x y) (clear_of_all rest x y) k.1 in
    record {
      outside = (outside_all (holds s.rect x y) (covered (rects_in rest) x y) k.0).0;
      away = leb-true (square (keepout_of g s).gap)
          (square (gap_between x (suc x) s.rect.x1 s.rect.x2) + square (gap_between y (suc y) s.rect.y1 s.rect.y2)) (told (clear_of (keepout_of g s) x y) c.0);
    }
eligible_clear g (later {t = t} {ss = ss} a) x y e =
    let rest = keepouts g ss in
    let k = T-both (not (holds t.rect x y || covered (rects_in rest) x y)) (clear_of (keepout_of g t) x y && clear_of_all rest x y) e in
    let c = T-both (clear_of (keepout_of g t) x y) (clear_of_all rest x y) k.1 in
    eligible_clear g a x y
    (T_and (not (covered (rects_in rest) x y)) (clear_of_all rest x y) (outside_all (holds t.rect x y) (covered (rects_in rest) x y) k.0).1 c.1)
