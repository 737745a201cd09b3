-- Document 01, "Fillable area and verdict": tiles, tables with a number for each, and their loads. A `Plan`, of src/lib.rt, has the tiles across the
-- layout and across a window, their side, the window's side and the bounds.
use Rattle.std.specs.Prelude.{ℕ, ◌+◌, ◌*◌, List, get_or}
use Rattle.geometry.specs.declared.Rect.{Rect}
use Rattle.geometry.specs.Layout.{covered_area}
use Rattle.tiles.specs.declared.Plan.{Plan}
use Rattle.spacing.specs.Eligible.{tile}

-- a box that counts in tiles: the tiles from column x1 to before x2 and from row y1 to before y2
abbrev pub TileBox : Type 0
TileBox = Rect

-- where tile (i, j) stands in a table with one number for each tile, row by row, `across` to a row
abbrev pub tile_index : (across i j : ℕ) → ℕ
tile_index across i j = j * across + i

-- the number of tile (i, j) in such a table: its stated amount, 0 where none is given, or its load
abbrev pub number_at : List ℕ → (across i j : ℕ) → ℕ
number_at table across i j = get_or table (tile_index across i j) 0

-- a tile's load: its covered area plus its amount
abbrev pub load : List Rect → List ℕ → Plan → (i j : ℕ) → ℕ
load rs amounts plan i j = covered_area rs (tile plan.side i j) + number_at amounts plan.across i j
