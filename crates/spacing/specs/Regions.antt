-- The regions that shapes keep free of fill, and tables of them. A buyer need not read it: proofs/Outside.antt shows that the squares outside of them
-- are the eligible ones.
use Rattle.std.specs.Prelude.{ℕ, ◌+◌, ◌-◌, ◌≤◌, min, max, ◌≡◌, Bool, List, length, ltb}
use Rattle.std.specs.List.{AllZip}
use Rattle.geometry.specs.declared.Rect.{Rect}
use Rattle.spacing.specs.declared.Keepout.{Keepout}
use Rattle.spacing.specs.declared.region.Region.{Region}
use Rattle.spacing.specs.Eligible.{square}
use Rattle.spacing.specs.Sizes.{live_room}
use Rattle.spacing.specs.Span.{across, up, off_span}

-- a rectangle grown on all sides, cut off at 0
abbrev pub grown : Rect → ℕ → Rect
grown r by = record { x1 = r.x1 - by; y1 = r.y1 - by; x2 = r.x2 + by; y2 = r.y2 + by }

-- the region that a shape keeps free of fill: all places nearer to a core than a reach. A square that touches the shape has gap 0 to it, so the core
-- has the places beside the shape too; where the gap is 0 it is the shape, and the reach 1 leaves no other place
abbrev pub core_of : Keepout → Rect
core_of k = grown k.rect (min 1 k.gap)

abbrev pub reach_of : Keepout → ℕ
reach_of k = max 1 k.gap

pub record IsRegionOf (k : Keepout) (r : Region) : Type 0 where
  pub core : r.core ≡ core_of k
  pub reach : r.reach ≡ reach_of k

-- u across and v up are less than a reach, by straight distance
abbrev pub is_short : (reach u v : ℕ) → Bool
is_short reach u v = ltb (square u + square v) (square reach)

-- a core and a reach hold the unit square (x, y), and a region does
abbrev pub reaches : (core : Rect) (reach : ℕ) → (x y : ℕ) → Bool
reaches core reach x y = is_short reach (off_span (across core) x) (off_span (up core) y)

abbrev pub holds_square : Region → (x y : ℕ) → Bool
holds_square r x y = reaches r.core r.reach x y

-- a table has the regions of shapes, one by one, and 64 bits are enough for it
pub record Regions (table : List Region) (ks : List Keepout) : Type 0 where
  pub each : AllZip IsRegionOf ks table
  pub few : length table ≤ live_room
