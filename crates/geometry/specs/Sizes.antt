-- What 64 bits ask of the tables that the code is lent, each size once, by name. A buyer need not read it: no contract of the unit's public
-- functions names it, and every accepted job has it.
use Rattle.std.specs.Prelude.{ℕ, ◌*◌, ◌≤◌, List, get_or}
use Rattle.geometry.specs.declared.Rect.{Rect}

-- no coordinate and no side past 2^20, so no area past 2^40
abbrev pub widest : ℕ
widest = 1048576

abbrev pub largest : ℕ
largest = widest * widest

-- how many rectangles a layer may have
abbrev pub most_rects : ℕ
most_rects = 1024

-- no bound L or U is past 10,000 ten-thousandths
abbrev pub top_bound : ℕ
top_bound = 10000

-- no number of a list is past the widest
pub record SmallList (l : List ℕ) : Type 0 where
  pub small : (i : ℕ) → get_or l i 0 ≤ widest

-- a rectangle that ends where coordinates are small
pub record SmallRect (r : Rect) : Type 0 where
  pub right : r.x2 ≤ widest
  pub high : r.y2 ≤ widest

-- a rectangle all of whose sides are small
pub record SmallSides (r : Rect) : Type 0 where
  pub left : r.x1 ≤ widest
  pub right : r.x2 ≤ widest
  pub low : r.y1 ≤ widest
  pub high : r.y2 ≤ widest
