-- What the exact run promises, over the definition alone: the area it names is that of the window it names, that window is a position, no
-- position has a better area, and none as good comes before it.
use Prim.Native.Nat.{ℕ}
use mathlib.Core.Path.{◌≡◌}
use mathlib.Core.List.{List}
use Rattle.geometry.specs.declared.Rect.{Rect}
use Rattle.geometry.specs.declared.Spot.{Spot}
use Rattle.geometry.specs.declared.Sense.{Sense}
use Rattle.geometry.specs.Extreme.{Bounded}
use Rattle.geometry.proofs.Extremes.{NoLater, not_better}
use Rattle.geometry.specs.Positions.{window_area, Position}
use Rattle.extremes.specs.Exact.{extreme}
use Rattle.extremes.proofs.Searches.{extreme_best}

-- b is an extreme over all positions, with its window; for the greatest `none_better` says that no area is more than b's, for the least that
-- none is less
pub record OverAll (s : Sense) (rs : List Rect) (n w : ℕ) (b : Spot) : Type 0 where
  pub area_is : b.area ≡ window_area rs w b.x b.y
  pub position : Position n w b.x b.y
  pub none_better : (x y : ℕ) → Position n w x y → Bounded s (window_area rs w x y) b.area
  pub first : (x y : ℕ) → Position n w x y → window_area rs w x y ≡ b.area → NoLater b.x b.y x y

pub extreme_over_all : (s : Sense) (rs : List Rect) (n w : ℕ) → OverAll s rs n w (extreme s rs n w)
extreme_over_all s rs n w =
    record {
      area_is = (extreme_best s rs n w).area_is;
      position = (extreme_best s rs n w).was_seen;
      none_better = λ x y p. not_better s _ _ ((extreme_best s rs n w).none_better x y p);
      first = (extreme_best s rs n w).first;
    }
