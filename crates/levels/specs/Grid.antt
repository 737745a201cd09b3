-- The starts of a level, as the code sees them. A buyer need not read it: no contract of the unit's public functions names it.
use Rattle.std.specs.Prelude.{ℕ, ◌*◌, ◌≤◌, ◌<◌, ◌≡◌, List}
use Rattle.geometry.specs.declared.Rect.{Rect}
use Rattle.geometry.specs.declared.Spot.{Spot}
use Rattle.geometry.specs.Extreme.{spot_at}
use Rattle.geometry.specs.Positions.{window_area}
use Rattle.levels.specs.declared.grid.Grid.{Grid}
use Rattle.levels.specs.Levels.{starts_on, far_area}
use Rattle.geometry.specs.Sizes.{widest}

-- what counting the starts on an axis asks
pub record Countable (n w t : ℕ) : Type 0 where
  pub small : n ≤ widest
  pub inside : w ≤ n
  pub some_step : 1 ≤ t

-- the far area of the window at a position of the level
abbrev pub far_on : Grid → (rects : List Rect) → (x y : ℕ) → ℕ
far_on g rects = far_area g.sense rects g.size g.window g.step

-- a window at a start, with its area
pub record AtStart (rs : List Rect) (n w t : ℕ) (b : Spot) : Type 0 where
  pub column : ℕ
  pub row : ℕ
  pub across : column < starts_on n w t
  pub down : row < starts_on n w t
  pub is : b ≡ spot_at (window_area rs w) (column * t) (row * t)
