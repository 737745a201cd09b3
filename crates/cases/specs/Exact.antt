-- Document 01, "Proved cases", rows A1, A2 and K: areas and the exact run.
use Rattle.std.specs.Prelude.{List, [], ◌∷◌}
use Rattle.geometry.specs.declared.Rect.{Rect}
use Rattle.geometry.specs.declared.Sense.TheVariants.{Greatest, Least}
use Rattle.geometry.specs.Extreme.{spot_numbers}
use Rattle.cases.specs.Row.{Row, row}
use Rattle.cases.specs.JobA.{shapes_a}
use Rattle.geometry.specs.Positions.{window_area}
use Rattle.extremes.specs.Exact.{extreme}

-- case K: N 10, W 9
abbrev pub shapes_k : List Rect
shapes_k = record { x1 = 4; y1 = 4; x2 = 6; y2 = 6 } ∷ []

abbrev pub exact_rows : List Row
exact_rows =
    row "A1" (window_area shapes_a 4 0 0 ∷ window_area shapes_a 4 1 1 ∷ []) (1 ∷ 4 ∷ [])
    ∷ row "A2" (spot_numbers (extreme Greatest shapes_a 8 4) (spot_numbers (extreme Least shapes_a 8 4) [])) (4 ∷ 1 ∷ 1 ∷ 1 ∷ 0 ∷ 0 ∷ [])
    ∷ row "K" (spot_numbers (extreme Greatest shapes_k 10 9) []) (4 ∷ 0 ∷ 0 ∷ [])
    ∷ []
