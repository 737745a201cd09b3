-- The part of the table of regions that is kept at hand for a row of tiles. A buyer need not read it.
use Rattle.std.specs.Prelude.{ℕ, true, false, List, eqb, Option, None, Some}
use Rattle.free.specs.declared.Part.{Part}
use Rattle.free.specs.Free.{Serves}
use Rattle.spacing.specs.declared.region.Region.{Region}
use Rattle.forms.specs.declared.Head.{Head}
use Rattle.standing.specs.declared.near.Near.{Near}
use Rattle.standing.specs.Sound.{row_box}

-- the part that is at hand, if one is, is enough for the tiles of its row
abbrev pub NearHeld : Head → (table : List Region) → Option Near → Type 0
NearHeld h table None = Unit {0}
NearHeld h table (Some near) = Serves table (row_box h near.row) near.part

-- the part for a row, of a table of so many regions
abbrev pub part_for : Option Near → (row all : ℕ) → Part
part_for None row all = record { from = 0; to = all }
part_for (Some near) row all = elim (eqb near.row row) [ true ↦ near.part | false ↦ record { from = 0; to = all } ]
