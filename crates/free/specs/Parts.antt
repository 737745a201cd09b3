-- The first and the last region of a table that comes near a box. A buyer need not read it: no contract of the unit's public functions names it.
use Rattle.std.specs.Prelude.{ℕ, ◌+◌, ◌<◌, ◌≡◌, true, false, List, length, take, drop, All}
use Rattle.std.specs.List.{HoldsAt}
use Rattle.geometry.specs.declared.Rect.{Rect}
use Rattle.spacing.specs.declared.region.Region.{Region}
use Rattle.spacing.specs.Nearness.{is_near}

abbrev pub AllFar : Rect → List Region → Type 0
AllFar b rs = All (λ r. is_near r b ≡ false) rs

pub record FirstNear (table : List Region) (b : Rect) (i : ℕ) : Type 0 where
  pub within : i < length table
  pub near : HoldsAt (λ r. is_near r b ≡ true) table i
  pub before : AllFar b (take i table)

pub record LastNear (table : List Region) (b : Rect) (i : ℕ) : Type 0 where
  pub within : i < length table
  pub near : HoldsAt (λ r. is_near r b ≡ true) table i
  pub behind : AllFar b (drop (i + 1) table)
