-- Demand 3 of the positions under, within and over the bounds, beside the exact run and the verdict on the fill.
use Prim.Native.Nat.{ℕ, ◌+◌, ◌≤◌, ◌<◌}
use mathlib.Core.Path.{◌≡◌, refl, subst⁻¹}
use mathlib.Core.Bool.{Bool, not}
use mathlib.Core.List.{List, [], ◌∷◌}
use mathlib.Core.Logic.{◌⊎◌, inl, inr}
use native.Mathlib.Omega.{arith}
use lib.Dec.{T}
use Rattle.laws.proofs.Tests.{le_or_lt, T-unless, unless_T}
use Rattle.geometry.specs.declared.Rect.{Rect}
use Rattle.geometry.specs.declared.Spot.{Spot}
use Rattle.geometry.specs.declared.Sense.TheVariants.{Greatest, Least}
use Rattle.geometry.specs.Layout.{window_box}
use Rattle.geometry.proofs.Bounding.{keeps_less, keeps_more}
use Rattle.extremes.specs.Exact.{extreme}
use Rattle.extremes.proofs.Promises.{OverAll, extreme_over_all}
use Rattle.fill.specs.declared.Bound.{Bound}
use Rattle.fill.specs.declared.Bound.TheVariants.{Over, Under}
use Rattle.fill.specs.Judge.{bound_number, verdict_numbers}
use Rattle.fill.specs.Placement.{chosen_area}
use Rattle.positions.proofs.Adding.{none_passes, passes_none, tally_adds_up}
use Rattle.forms.specs.Shapes.{rectangles}
use Rattle.standing.specs.Faults.{Standing}
use Rattle.run.specs.Answering.{answer_for}
use Rattle.unit.specs.Whole.{answer_of}
use Rattle.unit.specs.Promise.{area_at, PositionOf, keeps_alone, position_count, FailingPromise, PositionsPromise, FillPromise}

-- ---- one bound

module _ (st : Standing) (b : Bound) where
  abbrev failing : ℕ
  failing = position_count st (λ area. not (keeps_alone st b area))

  none_fails : failing ≡ 0 → (x y : ℕ) → PositionOf st x y → T (keeps_alone st b (area_at st x y))
  none_fails e x y q =
      T-unless (keeps_alone st b (area_at st x y))
      (none_passes (rectangles st.shapes) st.head.size st.head.window (λ area. not (keeps_alone st b area)) e x y q)

  fails_none : ((x y : ℕ) → PositionOf st x y → T (keeps_alone st b (area_at st x y))) → failing ≡ 0
  fails_none h =
      passes_none (rectangles st.shapes) st.head.size st.head.window (λ area. not (keeps_alone st b area))
      (λ x y q. unless_T (keeps_alone st b (area_at st x y)) (h x y q))

  -- the window p decides for all
  failing_kept : (p : Spot) → PositionOf st p.x p.y → p.area ≡ area_at st p.x p.y →
      ((x y : ℕ) → PositionOf st x y → T (keeps_alone st b p.area) → T (keeps_alone st b (area_at st x y))) → FailingPromise st b failing p.area
  failing_kept p at is h =
      record {
        counts = refl;
        none = λ e. subst⁻¹ (λ (a : ℕ). T (keeps_alone st b a)) is (none_fails e p.x p.y at);
        extreme_keeps = λ k. fails_none (λ x y q. h x y q k);
        all_keep = none_fails;
      }

-- ---- both, beside the fill

pub positions_kept : (st : Standing) → st.head.lower ≤ st.head.upper → FillPromise st (answer_of st).verdict → PositionsPromise st (answer_of st)
unfolding answer_for
positions_kept st order fill =
    record {
      under =
          failing_kept st Under (extreme Least rs n w) least.position least.area_is
          (λ x y q k. keeps_more st.head.lower w (extreme Least rs n w).area (area_at st x y) (least.none_better x y q) k);
      over =
          failing_kept st Over (extreme Greatest rs n w) greatest.position greatest.area_is
          (λ x y q k. keeps_less st.head.upper w (area_at st x y) (extreme Greatest rs n w).area (greatest.none_better x y q) k);
      within = refl;
      all = tally_adds_up rs n w st.head.lower st.head.upper order;
      safe = λ e. fails_none st Over (λ x y q. keeps_less st.head.upper w (area_at st x y) (area_at st x y + filled x y) (omega arith) (fill.safe e chosen fill.placeable.1 Over x y q));
      broken_under = λ i j e. some_under i j e (le_or_lt (failing st Under) 0);
    }
  where
    rs : List Rect
    rs = rectangles st.shapes

    n : ℕ
    n = st.head.size

    w : ℕ
    w = st.head.window

    least : OverAll Least rs n w (extreme Least rs n w)
    least = extreme_over_all Least rs n w

    greatest : OverAll Greatest rs n w (extreme Greatest rs n w)
    greatest = extreme_over_all Greatest rs n w

    -- some placement, and what it adds to a window
    chosen : ℕ → ℕ → Bool
    chosen = fill.placeable.0

    filled : (x y : ℕ) → ℕ
    filled x y = chosen_area chosen (window_box w x y)

    some_under : (i j : ℕ) → verdict_numbers (answer_of st).verdict ≡ 1 ∷ bound_number Under ∷ i ∷ j ∷ [] → (failing st Under ≤ 0) ⊎ (0 < failing st Under) →
        0 < failing st Under
    some_under i j e (inr h) = h
    some_under i j e (inl h) =
        absurd (fill.broken Under i j e chosen fill.placeable.1
        (keeps_more st.head.lower w _ _ (omega arith) (none_fails st Under (omega (arith, h)) _ _ (fill.broken_there Under i j e))))
