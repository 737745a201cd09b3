-- What 64 bits ask of a caller. A buyer need not read it: every accepted job has it.
use Rattle.std.specs.Prelude.{ℕ, ◌≤◌, List}
use Rattle.geometry.specs.declared.Rect.{Rect}
use Rattle.geometry.specs.Sizes.{widest, top_bound}
use Rattle.geometry.specs.Layout.{Layer}

-- what 64 bits ask of a job whose positions are counted; the upper bound is no less than the lower one, so that no position fails both
pub record Tallied (rects : List Rect) (n w lower upper : ℕ) : Type 0 where
  pub layer : Layer rects
  pub some_window : 1 ≤ w
  pub window_fits : w ≤ n
  pub small : n ≤ widest
  pub order : lower ≤ upper
  pub bounded : upper ≤ top_bound
