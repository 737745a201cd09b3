-- Document 01, "Fillable area and verdict", with the gaps of document 02's requests 5 and 6: eligible unit squares, and the fillable area of a
-- tile. A `Keepout`, of src/lib.rt, is a shape as fill sees it: its rectangle, and the least gap between it and fill.
use Rattle.std.specs.Prelude.{ℕ, suc, ◌+◌, ◌-◌, ◌*◌, max, Bool, true, ◌&&◌, not, List, [], ◌∷◌, map, leb}
use Rattle.geometry.specs.declared.Rect.{Rect}
use Rattle.geometry.specs.Count.{one_if, box_sum}
use Rattle.geometry.specs.Layout.{covered}
use Rattle.spacing.specs.declared.Keepout.{Keepout}

-- the gap on an axis: the empty distance between the spans a to b and c to d, 0 if they touch or overlap
abbrev pub gap_between : (a b c d : ℕ) → ℕ
gap_between a b c d = max (c - b) (a - d)

abbrev pub square : ℕ → ℕ
square n = n * n

-- the unit square (x, y) is far enough from a shape by straight distance: its gap across squared plus its gap down squared is at least the square
-- of the shape's gap
abbrev pub clear_of : Keepout → ℕ → ℕ → Bool
clear_of k x y =
    leb (square k.gap) (square (gap_between x (suc x) k.rect.x1 k.rect.x2) + square (gap_between y (suc y) k.rect.y1 k.rect.y2))

-- far enough from every shape
unfoldable pub clear_of_all : List Keepout → ℕ → ℕ → Bool
clear_of_all [] x y = true
clear_of_all (k ∷ ks) x y = clear_of k x y && clear_of_all ks x y

-- the shapes' rectangles
abbrev pub rects_in : List Keepout → List Rect
rects_in ks = map (λ k. k.rect) ks

-- a unit square is eligible if it is uncovered and far enough from every shape
abbrev pub eligible : List Keepout → ℕ → ℕ → Bool
eligible ks x y = not (covered (rects_in ks) x y) && clear_of_all ks x y

-- tile (i, j) of the given side
abbrev pub tile : ℕ → ℕ → ℕ → Rect
tile side i j = record { x1 = i * side; y1 = j * side; x2 = suc i * side; y2 = suc j * side }

-- the fillable area of a box, such as a tile: the number of its eligible unit squares
abbrev pub fillable_area : List Keepout → Rect → ℕ
fillable_area ks b = box_sum b (λ x y. one_if (eligible ks x y))
