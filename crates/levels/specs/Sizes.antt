-- What 64 bits ask of a level, and the numbers that they come from. A buyer need not read it: the definition of a level has no bounds.
use Rattle.std.specs.Prelude.{ℕ, suc, ◌*◌, ◌≤◌}
use Rattle.geometry.specs.Sizes.{widest, largest}
use Rattle.levels.specs.declared.Level.{Level}

-- the places of a table of flags, as `MOST_FLAGS` in src/flags.rt
abbrev pub flags_room : ℕ
flags_room = 505 * 505

-- the starts on an axis: a layout has one position more than its side at most
abbrev pub starts_room : ℕ
starts_room = suc widest

-- where a bloated window may end before it is cut off at the layout's edge: a position, a side and a step
abbrev pub span_room : ℕ
span_room = 3 * widest

-- the starts of a level, with a flag for each
abbrev pub level_room : ℕ
level_room = starts_room * starts_room

-- those and a row more: 2^42
abbrev pub kept_room : ℕ
kept_room = 4398046511104

-- a level's areas
pub record LevelSmall (v : Level) : Type 0 where
  pub named : v.named.area ≤ largest
  pub limit : v.limit ≤ largest
