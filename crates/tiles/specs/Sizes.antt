-- What 64 bits ask of a caller: no side past 2^20, and no amount above its tile's area. A buyer need not read it: no contract of the unit's
-- public functions names it, and every accepted job has it.
use Rattle.std.specs.Prelude.{ℕ, ◌*◌, ◌≤◌, ◌≡◌, List, length, get_or}
use Rattle.geometry.specs.Sizes.{widest}
use Rattle.tiles.specs.declared.Plan.{Plan}

-- tiles across a layout, and the numbers of a table with one for each
abbrev pub most_across : ℕ
most_across = 64

abbrev pub tiles_room : ℕ
tiles_room = most_across * most_across

-- the load of all tiles together: 10,000 times 2^50 fits 64 bits
abbrev pub heaviest : ℕ
heaviest = 1125899906842624

-- a layout whose loads are formed: an amount for each of its tiles, at most `most_across` across
pub record Tiled (amounts : List ℕ) (plan : Plan) : Type 0 where
  pub few : plan.across ≤ most_across
  pub table : length amounts ≡ plan.across * plan.across
  pub room : (i : ℕ) → get_or amounts i 0 ≤ plan.side * plan.side
  pub layout : plan.across * plan.side ≤ widest
