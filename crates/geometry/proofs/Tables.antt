-- A list of disjoint rectangles that grows by one.
use Prim.Native.Nat.{ℕ}
use mathlib.Core.Path.{◌≡◌, refl, sym, ap, subst, ◌∙◌}
use mathlib.Core.Bool.{Bool, false, ◌||◌, or_assoc, or-false}
use mathlib.Core.Logic.{◌⊎◌, inl, inr}
use mathlib.Core.List.{List, [], ◌∷◌, ◌++◌}
use lib.Dec.{T}
use Rattle.laws.proofs.Tests.{T-either, T-left, T-right}
use Rattle.geometry.specs.declared.Rect.{Rect}
use Rattle.geometry.specs.Layout.{holds, covered, Disjoint}

covered_append : (rs ss : List Rect) (x y : ℕ) → covered (rs ++ ss) x y ≡ (covered rs x y || covered ss x y)
unfolding covered
covered_append [] ss x y = refl
covered_append (r ∷ rs) ss x y =
    ap (λ (p : Bool). holds r x y || p) (covered_append rs ss x y) ∙ sym (or_assoc (holds r x y) (covered rs x y) (covered ss x y))

pub disjoint_more : (rs : List Rect) (r : Rect) → Disjoint rs → ((x y : ℕ) → T (holds r x y) → T (covered rs x y) → ⊥) → Disjoint (rs ++ r ∷ [])
unfolding covered Disjoint
disjoint_more [] r d h = (λ x y p q. q, tt)
disjoint_more (r' ∷ rs) r d h = (
  λ x y p q. go x y p (T-either (covered rs x y) (holds r x y || false) (rw (covered_append rs (r ∷ []) x y) at q)),
  disjoint_more rs r d.1 (λ x y p q. h x y p (T-right (holds r' x y) (covered rs x y) q)),
)
  where
    go : (x y : ℕ) → T (holds r' x y) → T (covered rs x y) ⊎ T (holds r x y || false) → ⊥
    go x y p (inl q) = d.0 x y p q
    go x y p (inr q) = h x y (subst T (or-false (holds r x y)) q) (T-left (holds r' x y) (covered rs x y) p)
