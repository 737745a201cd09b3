-- What 64 bits ask of a caller, and the numbers that they come from. A buyer need not read it: the definition of the run has no bounds, and every
-- accepted job has what is asked here.
use Rattle.std.specs.Prelude.{ℕ, ◌≤◌, ◌≡◌, List}
use Rattle.geometry.specs.declared.Rect.{Rect}
use Rattle.geometry.specs.declared.Spot.{Spot}
use Rattle.geometry.specs.declared.Sense.{Sense}
use Rattle.geometry.specs.Sizes.{widest, largest}
use Rattle.extremes.specs.Exact.{extreme}
use Rattle.zoom.specs.declared.Asked.{Asked}
use Rattle.levels.specs.declared.Level.{Level}
use Rattle.levels.specs.Sizes.{LevelSmall}

-- an accuracy, in thousandths
abbrev pub most_accuracy : ℕ
most_accuracy = 1000

-- a quick run: rectangles, what is asked, and the exact run's window
pub record Runnable (s : Sense) (rects : List Rect) (a : Asked) (m : Spot) : Type 0 where
  pub some_window : 1 ≤ a.window
  pub window_fits : a.window ≤ a.size
  pub small : a.size ≤ widest
  pub accurate : a.accuracy ≤ most_accuracy
  pub extreme_is : m ≡ extreme s rects a.size a.window

-- a density: the window's side, floor and ceiling
pub record Measurable (w f c : ℕ) : Type 0 where
  pub some_window : 1 ≤ w
  pub window_small : w ≤ widest
  pub floor_small : f ≤ largest
  pub ceiling_small : c ≤ largest

-- a level that is tested for an accuracy
pub record Testable (e : ℕ) (v : Level) : Type 0 where
  pub accurate : e ≤ most_accuracy
  pub small : LevelSmall v
