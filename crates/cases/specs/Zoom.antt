-- Document 01, "Proved cases", rows A3, A4 and Z: the quick run for the greatest window; and rows for the least: job A's, whose line document
-- 02's request 1 states, and our own; and rows for the density, with the two that request 4 states.
use Rattle.std.specs.Prelude.{ℕ, List, [], ◌∷◌}
use Rattle.geometry.specs.declared.Sense.TheVariants.{Greatest, Least}
use Rattle.geometry.specs.declared.Rect.{Rect}
use Rattle.geometry.specs.Extreme.{spot_numbers}
use Rattle.cases.specs.Row.{Row, row}
use Rattle.cases.specs.JobA.{shapes_a}
use Rattle.levels.specs.declared.Level.{Level}
use Rattle.zoom.specs.declared.Quick.{Quick}
use Rattle.zoom.specs.Run.{level_at, end_number, quick_run, density}

-- F with its window, C, kept; of the least, high with its window, low, kept
abbrev pub level_numbers : Level → List ℕ
level_numbers v = spot_numbers v.named (v.limit ∷ v.kept ∷ [])

-- the end, the levels done and the last of them
abbrev pub quick_numbers : Quick → List ℕ
quick_numbers q = end_number q.end ∷ q.done ∷ level_numbers q.last

-- a block at the left of the upper edge, whose bracket closes in on the least area level by level
abbrev pub shapes_block : List Rect
shapes_block = record { x1 = 0; y1 = 3; x2 = 5; y2 = 6 } ∷ []

-- a bar at the left edge and two across, so that every window clear of the first has the least area
abbrev pub shapes_bars : List Rect
shapes_bars =
    record { x1 = 0; y1 = 0; x2 = 1; y2 = 8 }
    ∷ record { x1 = 1; y1 = 3; x2 = 8; y2 = 4 }
    ∷ record { x1 = 1; y1 = 7; x2 = 8; y2 = 8 }
    ∷ []

-- a square in the corner: windows of the same area lie to its right and above it
abbrev pub shapes_corner : List Rect
shapes_corner = record { x1 = 0; y1 = 0; x2 = 2; y2 = 2 } ∷ []

-- the window's side, F and C, and the density
abbrev pub density_rows : List Row
density_rows =
    row "density, 312 and a half: down to the even neighbour" (density 8 2 2 ∷ []) (312 ∷ [])
    ∷ row "density, 937 and a half: up to the even neighbour" (density 8 6 6 ∷ []) (938 ∷ [])
    ∷ row "density, a half of two different ends, past 10000" (density 4 16 17 ∷ []) (10312 ∷ [])
    ∷ row "density, 46 of 98 past the lower neighbour, which is odd" (density 7 18 18 ∷ []) (3673 ∷ [])
    ∷ row "density, 52 of 98 past the lower neighbour, which is even" (density 7 4 9 ∷ []) (1327 ∷ [])
    ∷ row "density, 12 of 18 past the lower neighbour, past 10000" (density 3 9 12 ∷ []) (11667 ∷ [])
    ∷ row "density, nothing past the lower neighbour, which is odd" (density 4 1 1 ∷ []) (625 ∷ [])
    ∷ []

abbrev pub zoom_rows : List Row
zoom_rows =
    row "A3" (level_numbers (level_at Greatest shapes_a 8 4 0)) (1 ∷ 0 ∷ 0 ∷ 4 ∷ 3 ∷ [])
    ∷ row "A4" (level_numbers (level_at Greatest shapes_a 8 4 1)) (4 ∷ 2 ∷ 2 ∷ 4 ∷ 0 ∷ [])
    ∷ row "Z" (quick_numbers (quick_run Greatest [] 8 4 0 6)) (0 ∷ 1 ∷ 0 ∷ 0 ∷ 0 ∷ 0 ∷ 0 ∷ [])
    ∷ row "Z, least" (quick_numbers (quick_run Least [] 8 4 0 6)) (0 ∷ 1 ∷ 0 ∷ 0 ∷ 0 ∷ 0 ∷ 0 ∷ [])
    ∷ row "A, least, level 0" (level_numbers (level_at Least shapes_a 8 4 0)) (1 ∷ 0 ∷ 0 ∷ 0 ∷ 4 ∷ [])
    ∷ row "A, least, level 1" (level_numbers (level_at Least shapes_a 8 4 1)) (1 ∷ 0 ∷ 0 ∷ 0 ∷ 5 ∷ [])
    ∷ row "A, least" (quick_numbers (quick_run Least shapes_a 8 4 0 6)) (2 ∷ 4 ∷ 1 ∷ 0 ∷ 0 ∷ 1 ∷ 0 ∷ [])
    ∷ row "least, met above 0, starts of shrunk area high not kept"
    (quick_numbers (quick_run Least shapes_block 6 4 250 3))
    (0 ∷ 3 ∷ 3 ∷ 2 ∷ 0 ∷ 2 ∷ 1 ∷ [])
    ∷ row "least, stopped" (quick_numbers (quick_run Least shapes_block 6 4 249 3)) (1 ∷ 3 ∷ 3 ∷ 2 ∷ 0 ∷ 2 ∷ 1 ∷ [])
    ∷ row "least, met at the last level allowed, least y first" (quick_numbers (quick_run Least shapes_corner 6 4 0 2)) (0 ∷ 2 ∷ 0 ∷ 2 ∷ 0 ∷ 0 ∷ 0 ∷ [])
    ∷ row "least, exact with a new window" (quick_numbers (quick_run Least shapes_corner 5 3 0 2)) (2 ∷ 2 ∷ 0 ∷ 2 ∷ 0 ∷ 0 ∷ 0 ∷ [])
    ∷ row "least, exact with an earlier window on a tie" (quick_numbers (quick_run Least shapes_bars 8 4 0 6)) (2 ∷ 4 ∷ 4 ∷ 4 ∷ 0 ∷ 4 ∷ 0 ∷ [])
    ∷ density_rows
