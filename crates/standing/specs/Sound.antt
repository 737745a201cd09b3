-- What is always so of what stands after good lines, and tiles of a good head. A buyer need not read it: no contract of the unit's public functions names
-- it.
use Rattle.std.specs.Prelude.{ℕ, ◌+◌, ◌*◌, ◌≤◌, ◌<◌, ◌≡◌, true, length, replicate, All}
use Rattle.geometry.specs.declared.Rect.{Rect}
use Rattle.geometry.specs.Layout.{Disjoint}
use Rattle.tiles.specs.Tiles.{number_at}
use Rattle.forms.specs.declared.Head.{Head}
use Rattle.forms.specs.Limits.{unit_limits}
use Rattle.forms.specs.Shapes.{rectangles}
use Rattle.forms.specs.Forms.{rect_in_range, tile_side, tiles_across, tile_count, fits_layout, GoodHead}
use Rattle.standing.specs.declared.Turn.TheVariants.{Before, Shapes}
use Rattle.standing.specs.Faults.{Standing, before_head, room_of}

-- a rectangle was in range and fits the layout
pub record GoodRect (h : Head) (r : Rect) : Type 0 where
  pub range : rect_in_range unit_limits r ≡ true
  pub fits : fits_layout h r ≡ true

-- what is so after good lines
pub record Sound (st : Standing) : Type 0 where
  pub start : st.turn ≡ Before → st ≡ before_head
  pub headed : (st.turn ≡ Before → ⊥) → GoodHead st.head
  pub few : length st.shapes ≤ unit_limits.shapes
  pub good : All (GoodRect st.head) (rectangles st.shapes)
  pub apart : Disjoint (rectangles st.shapes)
  pub sized : length st.amounts ≡ tile_count st.head
  pub unfilled : st.turn ≡ Shapes → st.amounts ≡ replicate (tile_count st.head) 0
  pub fillable : (i j : ℕ) → i < tiles_across st.head → j < tiles_across st.head →
      number_at st.amounts (tiles_across st.head) i j ≤ room_of st i j

-- tile (i, j) lies in the layout, which has no more tiles than are allowed
pub record TileIn (h : Head) (i j : ℕ) : Type 0 where
  pub few : tiles_across h ≤ unit_limits.tiles
  pub column : i < tiles_across h
  pub row : j < tiles_across h

-- a row of tiles, as a box
abbrev pub row_box : Head → (row : ℕ) → Rect
row_box h j = record { x1 = 0; y1 = j * tile_side h; x2 = h.size; y2 = j * tile_side h + tile_side h }

-- a box lies in a row of tiles of a good head
pub record InRow (h : Head) (row : ℕ) (b : Rect) : Type 0 where
  pub good : GoodHead h
  pub row_bound : row < tiles_across h
  pub across : b.x1 ≤ b.x2
  pub up : b.y1 ≤ b.y2
  pub right : b.x2 ≤ h.size
  pub low : row * tile_side h ≤ b.y1
  pub high : b.y2 ≤ row * tile_side h + tile_side h
