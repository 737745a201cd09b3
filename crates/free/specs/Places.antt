-- The regions of a table by their places. A buyer need not read it: no contract of the unit's public functions names it.
use Rattle.std.specs.Prelude.{ℕ, List, slice_get, filter_map}
use Rattle.spacing.specs.declared.region.Region.{Region}

-- the regions at the places of a list
abbrev pub at_places : (table : List Region) (places : List ℕ) → List Region
at_places table places = filter_map (slice_get table) places
