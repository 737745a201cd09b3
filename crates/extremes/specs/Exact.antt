-- Document 01, "Areas": the exact run's maximum and minimum over all window positions.
use Rattle.std.specs.Prelude.{ℕ, List}
use Rattle.geometry.specs.declared.Rect.{Rect}
use Rattle.geometry.specs.declared.Spot.{Spot}
use Rattle.geometry.specs.declared.Sense.{Sense}
use Rattle.geometry.specs.declared.Sense.TheVariants.{Greatest, Least}
use Rattle.geometry.specs.Positions.{window_area, positions}
use Rattle.geometry.specs.Extreme.{spot_at, best_in_rows}
use Rattle.extremes.specs.declared.Extremes.{Extremes}

-- the extreme over all positions, with its window of least y, then least x
unfoldable pub extreme : Sense → List Rect → (n w : ℕ) → Spot
extreme s rs n w = best_in_rows s (window_area rs w) 1 (positions n w) (positions n w) (spot_at (window_area rs w) 0 0)

-- the exact run: M and its window, the minimum and its window
abbrev pub exact_run : List Rect → (n w : ℕ) → Extremes
exact_run rs n w = record { greatest = extreme Greatest rs n w; least = extreme Least rs n w }

-- the extreme of a sense
abbrev pub extreme_in : Sense → Extremes → Spot
extreme_in Greatest e = e.greatest
extreme_in Least e = e.least
