-- What 64 bits ask of a caller: no side past 2^20. A buyer need not read it: no contract of the unit's public functions names it, and every
-- accepted job has it.
use Rattle.std.specs.Prelude.{ℕ, ◌*◌, ◌≤◌}
use Rattle.geometry.specs.declared.Rect.{Rect}
use Rattle.geometry.specs.Sizes.{widest, most_rects}
use Rattle.spacing.specs.declared.Keepout.{Keepout}

-- a shape whose region is formed
pub record SmallKeepout (k : Keepout) : Type 0 where
  pub left : k.rect.x1 ≤ widest
  pub low : k.rect.y1 ≤ widest
  pub right : k.rect.x2 ≤ widest
  pub high : k.rect.y2 ≤ widest
  pub narrow : k.gap ≤ widest

-- a box that is compared with regions, and may have no square: no corner past 2^20
pub record SmallBox (b : Rect) : Type 0 where
  pub across : b.x1 ≤ b.x2
  pub up : b.y1 ≤ b.y2
  pub right : b.x2 ≤ widest
  pub high : b.y2 ≤ widest

-- how many regions may be left for a box
abbrev pub live_room : ℕ
live_room = most_rects

-- the core and the reach of a region, no number of them past 2^21: a core may pass its shape by a place
pub record SmallRegion (core : Rect) (reach : ℕ) : Type 0 where
  pub left : core.x1 ≤ 2 * widest
  pub low : core.y1 ≤ 2 * widest
  pub right : core.x2 ≤ 2 * widest
  pub high : core.y2 ≤ 2 * widest
  pub near : reach ≤ 2 * widest

-- a number whose square is formed
abbrev pub longest : ℕ
longest = 4 * widest

-- a box of steps that are counted, and the reach: their squares are formed
pub record SmallSteps (d : Rect) (reach : ℕ) : Type 0 where
  pub up : d.y1 ≤ d.y2
  pub right : d.x2 ≤ longest
  pub high : d.y2 ≤ longest
  pub near : reach ≤ longest
