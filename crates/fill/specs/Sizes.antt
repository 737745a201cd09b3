-- What 64 bits ask of a plan that is judged, beside what its loads ask (tiles/specs/Sizes.antt). A buyer need not read it: no contract of the unit's
-- public functions names it, and every accepted job has it.
use Rattle.std.specs.Prelude.{ℕ, ◌≤◌, List}
use Rattle.geometry.specs.Sizes.{widest, top_bound}
use Rattle.tiles.specs.Sizes.{Tiled}
use Rattle.tiles.specs.declared.Plan.{Plan}

-- a plan that is judged
pub record Planned (amounts : List ℕ) (plan : Plan) : Type 0 where
  pub tiled : Tiled amounts plan
  pub fits : plan.cut ≤ plan.across
  pub window : plan.window ≤ widest
  pub lower : plan.lower ≤ top_bound
  pub upper : plan.upper ≤ top_bound
