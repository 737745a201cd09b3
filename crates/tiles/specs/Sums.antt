-- How the loads of all tiles are formed, and corner sums: that of tile (i, j) is the load of all tiles in columns 0 to i and rows 0 to j. A buyer need
-- not read them: proofs/Loads.antt and proofs/Summing.antt show that they give the load of every tile and of every box of tiles.
use Rattle.std.specs.Prelude.{ℕ, suc, ◌+◌, ◌-◌, ◌*◌, ◌/◌, ◌%◌, ◌≤◌, ◌<◌, zero, ◌≡◌, List, length, get_or}
use Rattle.geometry.specs.declared.Rect.{Rect}
use Rattle.geometry.specs.Count.{box_sum}
use Rattle.sweep.specs.declared.strips.Strip.{Strip}
use Rattle.tiles.specs.declared.Plan.{Plan}
use Rattle.tiles.specs.Sizes.{most_across, heaviest}
use Rattle.tiles.specs.Tiles.{TileBox, number_at, load}

-- a table of the n numbers f 0, …, f (n − 1)
pub record Tabled (f : ℕ → ℕ) (n : ℕ) (table : List ℕ) : Type 0 where
  pub size : length table ≡ n
  pub set : (k : ℕ) → k < n → get_or table k 0 ≡ f k

-- ---- loads

-- the load of tile number t, row by row
abbrev pub load_of : List Rect → List ℕ → Plan → (t : ℕ) → ℕ
load_of rs amounts plan t = load rs amounts plan (t % plan.across) (t / plan.across)

-- row j of the tiles, by its strip
pub record TileRow (strip : Strip) (plan : Plan) (j : ℕ) : Type 0 where
  pub row : j < plan.across
  pub low : strip.y1 ≡ j * plan.side
  pub high : strip.y2 ≡ suc j * plan.side

-- the tiles left of column x and below row y
abbrev pub tiles_before : (x y : ℕ) → TileBox
tiles_before x y = record { x1 = 0; y1 = 0; x2 = x; y2 = y }

-- a table with a load for each tile, `across` to a row: 10,000 times the load of all tiles fits 64 bits
pub record Loads (table : List ℕ) (across : ℕ) : Type 0 where
  pub few : across ≤ most_across
  pub full : across * across ≤ length table
  pub light : box_sum (tiles_before across across) (number_at table across) ≤ heaviest

-- a box of tiles of the layout
pub record TilesInLayout (across : ℕ) (b : TileBox) : Type 0 where
  pub columns : b.x1 ≤ b.x2
  pub rows : b.y1 ≤ b.y2
  pub right : b.x2 ≤ across
  pub high : b.y2 ≤ across

-- ---- corner sums

-- the corner sum of tile number t of a table of loads
abbrev pub corner_sum : (loads : List ℕ) → (across t : ℕ) → ℕ
corner_sum loads across t = box_sum (tiles_before (suc (t % across)) (suc (t / across))) (number_at loads across)

-- the load of the tiles left of column x and below row y, by a table of corner sums
abbrev pub corner_of : (sums : List ℕ) → (across x y : ℕ) → ℕ
corner_of sums across zero y = 0
corner_of sums across (suc x) zero = 0
corner_of sums across (suc x) (suc y) = number_at sums across x y

-- the load of a box of tiles, by its four corners
abbrev pub corner_total : (sums : List ℕ) → (across : ℕ) → TileBox → ℕ
corner_total sums across b =
    corner_of sums across b.x2 b.y2 + corner_of sums across b.x1 b.y1 - (corner_of sums across b.x1 b.y2 + corner_of sums across b.x2 b.y1)

-- a table of the corner sums of loads: 10,000 times the load of all tiles fits 64 bits
pub record CornersOf (load : ℕ → ℕ → ℕ) (sums : List ℕ) (across : ℕ) : Type 0 where
  pub few : across ≤ most_across
  pub full : across * across ≤ length sums
  pub light : box_sum (tiles_before across across) load ≤ heaviest
  pub corners : (x y : ℕ) → x ≤ across → y ≤ across → corner_of sums across x y ≡ box_sum (tiles_before x y) load

-- a table of corner sums, of the loads that its corners give
abbrev pub CornerSums : List ℕ → (across : ℕ) → Type 0
CornerSums sums across = CornersOf (λ i j. corner_total sums across (record { x1 = i; y1 = j; x2 = suc i; y2 = suc j })) sums across
