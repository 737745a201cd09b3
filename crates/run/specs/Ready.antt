-- A job that may be run. A buyer need not read it.
use Rattle.std.specs.Prelude.{ℕ, ◌+◌, ◌≤◌, List}
use Rattle.geometry.specs.declared.Rect.{Rect}
use Rattle.geometry.specs.declared.Spot.{Spot}
use Rattle.geometry.specs.Sizes.{widest}
use Rattle.geometry.specs.Layout.{Layer}
use Rattle.extremes.specs.declared.Extremes.{Extremes}
use Rattle.zoom.specs.declared.Quick.{Quick}
use Rattle.zoom.specs.Sizes.{most_accuracy}
use Rattle.fill.specs.Sizes.{Planned}
use Rattle.forms.specs.declared.Head.{Head}
use Rattle.standing.specs.Filling.{plan_of}

-- what is asked of a job that is run: what 64 bits hold, and L ≤ U
pub record Ready (h : Head) (rects : List Rect) (amounts : List ℕ) : Type 0 where
  pub layer : Layer rects
  pub some_window : 1 ≤ h.window
  pub window_fits : h.window ≤ h.size
  pub small : h.size ≤ widest
  pub accurate : h.accuracy ≤ most_accuracy
  pub bounds_order : h.lower ≤ h.upper
  pub planned : Planned amounts (plan_of h)

-- the window of side w at a named corner ends where coordinates are small, and so do all that an answer names
pub record SmallSpot (w : ℕ) (p : Spot) : Type 0 where
  pub right : p.x + w ≤ widest
  pub high : p.y + w ≤ widest

pub record SmallSpots (w : ℕ) (e : Extremes) (greatest least : Quick) : Type 0 where
  pub max : SmallSpot w e.greatest
  pub min : SmallSpot w e.least
  pub floor : SmallSpot w greatest.last.named
  pub high : SmallSpot w least.last.named
