-- Document 01, "Faults that come from the input" and "Faults that come from what already stands": the faults of one line.
use Rattle.std.specs.Prelude.{ℕ, Bool, true, false, not, List, [], ◌∷◌, ◌++◌, leb, ltb, eqb, length, set, replicate}
use Rattle.geometry.specs.declared.Rect.{Rect}
use Rattle.geometry.specs.Layout.{shares_square}
use Rattle.spacing.specs.Eligible.{tile, fillable_area}
use Rattle.tiles.specs.Tiles.{tile_index, number_at}
use Rattle.forms.specs.declared.Head.{Head}
use Rattle.forms.specs.declared.Form.{Form}
use Rattle.forms.specs.declared.Form.TheVariants.{Unknown, Heading, Metal, Fill, End}
use Rattle.forms.specs.declared.Gap.TheVariants.{Both}
use Rattle.forms.specs.declared.Shape.{Shape}
use Rattle.forms.specs.Limits.{Limits}
use Rattle.forms.specs.Shapes.{rectangles}
use Rattle.forms.specs.Forms.{known, in_range, tile_side, tiles_across, tile_count, agrees, fits_layout, has_tile}
use Rattle.standing.specs.declared.Turn.{Turn}
use Rattle.standing.specs.declared.Turn.TheVariants.{Before, Shapes, Fills, Done}
use Rattle.standing.specs.Filling.{keepouts}

-- what already stands: the turn, the head, the shapes in file order, the amounts row by row
pub record Standing : Type 0 where
  pub turn : Turn
  pub head : Head
  pub shapes : List Shape
  pub amounts : List ℕ

abbrev pub no_head : Head
no_head = record { size = 0; window = 0; cut = 0; gap = Both 0; lower = 0; upper = 0; accuracy = 0; levels = 0 }

-- what stands before the first line
abbrev pub before_head : Standing
before_head = record { turn = Before; head = no_head; shapes = []; amounts = [] }

-- where a form comes in a file; 0 for a line that is none of the spellings
abbrev pub rank_of : Form → ℕ
rank_of Unknown = 0
rank_of (Heading h) = 1
rank_of (Metal s) = 2
rank_of (Fill i j p) = 3
rank_of End = 4

-- whether a form comes in turn: the head first and once, then shapes, then fills, then the end, and nothing after it
abbrev pub in_turn : Turn → Form → Bool
in_turn Before f = eqb (rank_of f) 1
in_turn Shapes f = leb 2 (rank_of f)
in_turn Fills f = leb 3 (rank_of f)
in_turn Done f = false

-- a test for a fault: the fault's number where it fails, else what the tests after it give
abbrev pub check : (passes : Bool) (fault next : ℕ) → ℕ
check passes fault next = elim passes [ true ↦ next | false ↦ fault ]

-- the faults of a shape of either kind
unfoldable pub shape_fault : Limits → Standing → Rect → ℕ
shape_fault limits st r =
    -- 6: X1 ≥ X2 or Y1 ≥ Y2, or X2 or Y2 exceeds N
    check (fits_layout st.head r) 6
    -- 8: as many shapes as are allowed stand already
    (check (ltb (length st.shapes) limits.shapes) 8
    -- 9: it shares a unit square with one that stands
    (check (not (shares_square (rectangles st.shapes) r)) 9
    0))

-- the fillable area of tile (i, j)
abbrev pub room_of : Standing → (i j : ℕ) → ℕ
room_of st i j = fillable_area (keepouts st.head.gap st.shapes) (tile (tile_side st.head) i j)

-- the faults of a fill, where `room` is the tile's fillable area
unfoldable pub fill_fault : Head → (amounts : List ℕ) → (room i j p : ℕ) → ℕ
fill_fault h amounts room i j p =
    -- 7: I or J is not below N/(W/R)
    check (has_tile h i j) 7
    -- 10: the tile has a fill already, which is an amount other than 0, since fault 3 refuses P = 0
    (check (eqb (number_at amounts (tiles_across h) i j) 0) 10
    -- 11: P exceeds the tile's fillable area
    (check (leb p room) 11
    0))

-- the faults that are each form's own; 5: the head disagrees. An unknown form does not come here: `line_fault`
abbrev pub own_fault : Limits → Standing → Form → ℕ
own_fault limits st Unknown = 2
own_fault limits st (Heading h) = check (agrees limits h) 5 0
own_fault limits st (Metal s) = shape_fault limits st s.rect
own_fault limits st (Fill i j p) = fill_fault st.head st.amounts (room_of st i j) i j p
own_fault limits st End = 0

-- the lowest number of a fault that a line has, 0 for none: 2 none of the spellings, 3 out of range, 4 out of turn, then the others
unfoldable pub line_fault : Limits → Standing → Form → ℕ
line_fault limits st f = check (known f) 2 (check (in_range limits f) 3 (check (in_turn st.turn f) 4 (own_fault limits st f)))

-- what stands after a good line, which is never an unknown form
unfoldable pub stands_after : Standing → Form → Standing
stands_after st Unknown = st
stands_after st (Heading h) = record { turn = Shapes; head = h; shapes = []; amounts = replicate (tile_count h) 0 }
stands_after st (Metal s) = record { turn = Shapes; head = st.head; shapes = st.shapes ++ (s ∷ []); amounts = st.amounts }
stands_after st (Fill i j p) =
    record { turn = Fills; head = st.head; shapes = st.shapes; amounts = set st.amounts (tile_index (tiles_across st.head) i j) p }
stands_after st End = record { turn = Done; head = st.head; shapes = st.shapes; amounts = st.amounts }
