-- Strips: what some rows hold of the rectangles, as two lists of sides: of each its column and the rows of its rectangle. A buyer need not read it,
-- since no contract of the unit's public functions names it: for disjoint rectangles `strip_sum` of a strip equals `covered_area` (`StripOf`, which
-- every strip has).
use Rattle.std.specs.Prelude.{ℕ, ◌+◌, ◌-◌, ◌*◌, ◌≤◌, ◌≡◌, List, ltb, length, filter, map, sum_by, All}
use Rattle.std.specs.List.Sorted.{IsNonDecreasingBy}
use Rattle.geometry.specs.Sizes.{widest, most_rects}
use Rattle.geometry.specs.declared.Rect.{Rect}
use Rattle.geometry.specs.Layout.{covered_area}
use Rattle.geometry.specs.Overlaps.{common}
use Rattle.sweep.specs.declared.Side.{Side}
use Rattle.sweep.specs.declared.Side.TheVariants.{Low, High}
use Rattle.sweep.specs.declared.Upright.{Upright}
use Rattle.sweep.specs.Order.{column, ordered}

-- a side of a rectangle, with the rows from y1 to y2 that the rectangle has
abbrev pub side_in : Side → (y1 y2 : ℕ) → Rect → Upright
side_in side y1 y2 r = record { column = column side r; rows = common r.y1 r.y2 y1 y2 }

-- the sides of rectangles that have any rows there
abbrev pub strip_sides : List Rect → Side → (y1 y2 : ℕ) → List Upright
strip_sides rects side y1 y2 = filter (λ u. ltb 0 u.rows) (map (side_in side y1 y2) rects)

-- the sum of g over the sides of a list
abbrev pub side_sum : (ℕ → ℕ → ℕ) → List Upright → ℕ
side_sum g s = sum_by (λ u. g u.column u.rows) s

-- a side at v with h rows adds h × (x − v) at column x, and nothing left of v
abbrev pub ramps : List Upright → ℕ → ℕ
ramps s x = side_sum (λ v h. h * (x - v)) s

-- what a strip covers between two columns: its low sides' ramps less its high sides', at x2 less at x1
abbrev pub strip_sum : (lows highs : List Upright) → (x1 x2 : ℕ) → ℕ
strip_sum lows highs x1 x2 = ramps lows x2 + ramps highs x1 - (ramps lows x1 + ramps highs x2)

pub record SmallUpright (u : Upright) : Type 0 where
  pub column : u.column ≤ widest
  pub rows : u.rows ≤ widest

-- what a sweep asks of a list of sides: at most 1,024, in rising order, and no number past 2^20
pub record Sides (s : List Upright) : Type 0 where
  pub few : length s ≤ most_rects
  pub small : All SmallUpright s
  pub rising : IsNonDecreasingBy (λ u. u.column) s

-- and of a strip: what it covers left of a column does not fall as the column moves right
pub record IsStrip (lows highs : List Upright) : Type 0 where
  pub low : Sides lows
  pub high : Sides highs
  pub grows : (x1 x2 : ℕ) → x1 ≤ x2 → ramps lows x1 + ramps highs x2 ≤ ramps lows x2 + ramps highs x1

-- what is added up along two lists of sides is the true area of every box between the rows y1 and y2
abbrev pub AreasAlong : List Rect → (y1 y2 : ℕ) → (lows highs : List Upright) → Type 0
AreasAlong rects y1 y2 lows highs =
    (x1 x2 : ℕ) → x1 ≤ x2 → strip_sum lows highs x1 x2 ≡ covered_area rects (record { x1 = x1; y1 = y1; x2 = x2; y2 = y2 })

-- the strip of the rows y1 to y2: its two lists, and that what is added up along it is the true area of every box between those rows
pub record StripOf (rects : List Rect) (y1 y2 : ℕ) (lows highs : List Upright) : Type 0 where
  pub low : lows ≡ strip_sides (ordered Low rects) Low y1 y2
  pub high : highs ≡ strip_sides (ordered High rects) High y1 y2
  pub strip : IsStrip lows highs
  pub areas : AreasAlong rects y1 y2 lows highs
