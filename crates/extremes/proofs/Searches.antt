-- The search among the candidates finds the extreme over all positions, with the same window.
use Prim.Native.Nat.{ℕ, ◌-◌, ◌≤◌, ◌<◌}
use mathlib.Core.Path.{◌≡◌, refl, sym, ◌∙◌}
use mathlib.Core.Bool.{Bool, true, false}
use mathlib.Core.Logic.{◌⊎◌, inl, inr}
use mathlib.Core.List.Memᴰ
use mathlib.Core.List.{List}
use native.Mathlib.Omega.{arith}
use borrow.Author.Tests.{ltb-false}
use Rattle.geometry.specs.declared.Rect.{Rect}
use Rattle.geometry.specs.declared.Spot.{Spot}
use Rattle.geometry.specs.declared.Sense.{Sense}
use Rattle.geometry.specs.declared.Sense.TheVariants.{Greatest, Least}
use Rattle.geometry.specs.Extreme.{better, NoBetter, Bounded}
use Rattle.geometry.proofs.Extremes.{NoLater, not_better, better_neither, IsBest, Start, start_at, start_in, rows_best_of_all, best_of_fewer, best_same, best_unique, Dispensable}
use Rattle.geometry.specs.Positions.{window_area, positions, Position}
use Rattle.sweep.specs.declared.sorted.Sorted.{Sorted}
use Rattle.extremes.specs.Exact.{extreme}
use Rattle.extremes.specs.Listing.{candidates}
use Rattle.extremes.specs.Search.{tried_row, searched}
use Rattle.extremes.proofs.Candidates.{Better, FirstBest, at_start, candidate_across, candidate_up}
use Rattle.extremes.proofs.Tried.{candidates_complete, candidates_within}
use Rattle.extremes.proofs.Reached.{tried_complete, tried_within}
use Rattle.extremes.proofs.Leading.{Listed, leading_best}

-- what the tests say
worse : (s : Sense) (a b : ℕ) → NoBetter s a b → (a ≡ b → ⊥) → Better s b a
worse Greatest a b e h = omega (arith, ltb-false b a e)
worse Least a b e h = omega (arith, ltb-false a b e)

pub position : (n w x y : ℕ) → x ≤ n - w → y ≤ n - w → Position n w x y
position n w x y h k = record { across = h; down = k }

pub extreme_best : (s : Sense) (rs : List Rect) (n w : ℕ) → IsBest s (window_area rs w) (Position n w) (extreme s rs n w)
unfolding extreme
extreme_best s rs n w =
    best_same s (window_area rs w) (Start 1 (positions n w) (positions n w)) (Position n w) _ is_position is_start
    (rows_best_of_all s (window_area rs w) 1 (positions n w) (positions n w) (omega arith) (omega arith))
  where
    -- every position is a start, 1 apart
    is_position : (x y : ℕ) → Start 1 (positions n w) (positions n w) x y → Position n w x y
    is_position x y p = let h = start_in (positions n w) (positions n w) x y p in position n w x y (omega (arith, h.0)) (omega (arith, h.1))

    is_start : (x y : ℕ) → Position n w x y → Start 1 (positions n w) (positions n w) x y
    is_start x y p = start_at (positions n w) (positions n w) x y (omega arith) (omega arith)

module _ (s : Sense) (rs : List Rect) (n w : ℕ) (e : Spot) (h : IsBest s (window_area rs w) (Position n w) e) where
  x_in : e.x ≤ n - w
  x_in = h.was_seen.across

  y_in : e.y ≤ n - w
  y_in = h.was_seen.down

  -- the extreme is the first one in its row and in its column
  best_at : (x y : ℕ) → x ≤ n - w → y ≤ n - w → Bounded s (window_area rs w x y) (window_area rs w e.x e.y)
  best_at x y k l = not_better s _ _ (rw h.area_is at (h.none_better x y (position n w x y k l)))

  first_at : (x y : ℕ) → x ≤ n - w → y ≤ n - w → (NoLater e.x e.y x y → ⊥) → Better s (window_area rs w e.x e.y) (window_area rs w x y)
  first_at x y k l late =
      worse s _ _ (rw h.area_is at (h.none_better x y (position n w x y k l)))
      (λ q. late (h.first x y (position n w x y k l) (q ∙ sym h.area_is)))

  row_first : FirstBest s (λ z. window_area rs w z e.y) (n - w) e.x
  row_first = record { within = x_in; best = λ x l. best_at x e.y l y_in; first = λ x l. first_at x e.y (omega (arith, x_in)) y_in (later x l) }
    where
      later : (x : ℕ) → x < e.x → NoLater e.x e.y x e.y → ⊥
      later x l (inl k) = omega arith
      later x l (inr k) = omega (arith, k.1)

  column_first : FirstBest s (λ z. window_area rs w e.x z) (n - w) e.y
  column_first =
      record { within = y_in; best = λ y l. best_at e.x y x_in l; first = λ y l. first_at e.x y x_in (omega (arith, y_in)) (later y l) }
    where
      later : (y : ℕ) → y < e.y → NoLater e.x e.y e.x y → ⊥
      later y l (inl k) = omega arith
      later y l (inr k) = omega (arith, k.0)

-- so it is among the candidates, and every other position is dispensable
module _ (s : Sense) (m : Sorted) (n w : ℕ) where
  abbrev rs : List Rect
  rs = m.rects.now

  abbrev Tried : (x y : ℕ) → Type 0
  Tried = Listed (tried_row s w (n - w) m) (candidates s (n - w) w rs)

  extreme_listed : (e : Spot) → IsBest s (window_area rs w) (Position n w) e → Tried e.x e.y
  extreme_listed e h = (
    tried_complete m n w e.y s e.x (x_in s rs n w e h) (candidate_across s rs w (n - w) e.x e.y m.layer.apart (row_first s rs n w e h)),
    candidates_complete s (n - w) w _ e.y rs (y_in s rs n w e h) (candidate_up s rs w (n - w) e.x e.y m.layer.apart (column_first s rs n w e h)),
  )

  others : (e : Spot) → IsBest s (window_area rs w) (Position n w) e → (x y : ℕ) → Position n w x y → Dispensable s (window_area rs w) Tried x y
  others e h x y p = (e.x, e.y, extreme_listed e h, go (better s (window_area rs w e.x e.y) (window_area rs w x y)) refl)
    where
      go : (t : Bool) → better s (window_area rs w e.x e.y) (window_area rs w x y) ≡ t →
          (better s (window_area rs w e.x e.y) (window_area rs w x y) ≡ true)
          ⊎ ((window_area rs w e.x e.y ≡ window_area rs w x y) × NoLater e.x e.y x y)
      go true q = inl q
      go false q =
          let same = better_neither s (window_area rs w e.x e.y) (window_area rs w x y) q (rw h.area_is at (h.none_better x y p)) in
          inr (same, h.first x y p (sym same ∙ sym h.area_is))

  -- the search among the candidates is the extreme over all positions
  pub searched_is_extreme : searched s m n w ≡ extreme s rs n w
  unfolding searched
  searched_is_extreme =
      best_unique s (window_area rs w) (Position n w) _ _
      (best_of_fewer s (window_area rs w) Tried (Position n w) _ inside (others (extreme s rs n w) (extreme_best s rs n w))
      (leading_best s (window_area rs w) _ _ 0 0 (Memᴰ.head refl, candidates_complete s (n - w) w (λ r. 0) 0 rs (omega arith) (at_start refl))))
      (extreme_best s rs n w)
    where
      inside : (x y : ℕ) → Tried x y → Position n w x y
      inside x y t = position n w x y (tried_within m n w y s x t.0) (candidates_within s (n - w) w rs y t.1)
