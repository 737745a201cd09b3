-- Document 01, "Proved cases", rows A5 to A8, fillable areas and verdicts, and one for the gaps of document 02's request 5.
use Rattle.std.specs.Prelude.{ℕ, List, [], ◌∷◌, ◌++◌, map}
use Rattle.cases.specs.Row.{Row, row}
use Rattle.cases.specs.JobA.{shapes_a}
use Rattle.spacing.specs.declared.Keepout.{Keepout}
use Rattle.spacing.specs.Eligible.{fillable_area, tile}
use Rattle.fill.specs.Judge.{verdict_of, verdict_numbers}

-- job A has four tiles a side, and two units of fill in tile (0, 0)
abbrev pub amounts_a : List ℕ
amounts_a = 2 ∷ 0 ∷ 0 ∷ 0 ∷ 0 ∷ 0 ∷ 0 ∷ 0 ∷ 0 ∷ 0 ∷ 0 ∷ 0 ∷ 0 ∷ 0 ∷ 0 ∷ 0 ∷ []

-- job A's rectangle, with the gap B
abbrev keepouts_a : List Keepout
keepouts_a = map (λ r. record { rect = r; gap = 1 }) shapes_a

-- the same rectangle, and another with a gap of 2
abbrev keepouts_two : List Keepout
keepouts_two = keepouts_a ++ record { rect = record { x1 = 7; y1 = 7; x2 = 8; y2 = 8 }; gap = 2 } ∷ []

-- the verdict on job A under the upper bound u
abbrev pub verdict_a : ℕ → List ℕ
verdict_a u = verdict_numbers (verdict_of shapes_a amounts_a (record { across = 4; cut = 2; side = 2; window = 4; lower = 0; upper = u }))

abbrev pub fill_rows : List Row
fill_rows =
    row "A5" (fillable_area keepouts_a (tile 2 0 0) ∷ fillable_area keepouts_a (tile 2 1 1) ∷ []) (4 ∷ 0 ∷ [])
    ∷ row "two shapes, each with its own gap" (fillable_area keepouts_two (tile 2 0 0) ∷ fillable_area keepouts_two (tile 2 2 3) ∷ []) (4 ∷ 2 ∷ [])
    ∷ row "A6" (verdict_a 5000) (0 ∷ [])
    ∷ row "A7" (verdict_a 2500) (2 ∷ 0 ∷ 0 ∷ 0 ∷ [])
    ∷ row "A8" (verdict_a 2000) (1 ∷ 0 ∷ 1 ∷ 1 ∷ [])
    ∷ []
