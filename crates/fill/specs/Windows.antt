-- The one search that the code makes for the verdict. A buyer need not read it: proofs/Verdicts.antt shows that it gives `verdict_of`. Standard windows are searched with a margin of 0 tiles, bloated and shrunk ones with a margin of 1.
use Rattle.std.specs.Prelude.{ℕ, suc, ◌+◌, ◌-◌, ◌*◌, ◌≤◌, min, true, false, leb, Option, None, Some}
use Rattle.tiles.specs.declared.Plan.{Plan}
use Rattle.fill.specs.declared.judging.Rule.{Rule}
use Rattle.fill.specs.declared.Bound.TheVariants.{Over, Under}
use Rattle.fill.specs.declared.Failure.{Failure}
use Rattle.tiles.specs.Tiles.{TileBox}
use Rattle.fill.specs.Judge.{failing_in_rows}

-- what a window of tiles is judged by
abbrev pub rule_of : Plan → Rule
rule_of plan = record { cut = plan.cut; low = plan.lower * plan.window * plan.window; high = plan.upper * plan.window * plan.window }

-- the tiles whose load the upper bound is held to, and the lower bound
abbrev pub tiles_for_upper : Rule → (across margin i j : ℕ) → TileBox
tiles_for_upper rule across margin i j =
    record { x1 = i; y1 = j; x2 = min (i + rule.cut + margin) across; y2 = min (j + rule.cut + margin) across }

abbrev pub tiles_for_lower : Rule → (margin i j : ℕ) → TileBox
tiles_for_lower rule margin i j =
    record { x1 = min (i + margin) (i + rule.cut); y1 = min (j + margin) (j + rule.cut); x2 = i + rule.cut; y2 = j + rule.cut }

-- the bound that a start fails, U before L, by the sums that U and L are judged by
abbrev pub failing_within : Rule → (i j for_upper for_lower : ℕ) → Option Failure
failing_within rule i j for_upper for_lower =
    elim (leb (10000 * for_upper) rule.high) [
      | false ↦ Some (record { bound = Over; column = i; row = j })
      | true ↦ elim (leb rule.low (10000 * for_lower)) [ false ↦ Some (record { bound = Under; column = i; row = j }) | true ↦ None ]
    ]

-- the same by the loads of boxes of tiles
abbrev pub failing_by : (total : TileBox → ℕ) → Rule → (across margin i j : ℕ) → Option Failure
failing_by total rule across margin i j =
    failing_within rule i j (total (tiles_for_upper rule across margin i j)) (total (tiles_for_lower rule margin i j))

abbrev pub search_by : (total : TileBox → ℕ) → Rule → (across margin : ℕ) → Option Failure
search_by total rule across margin = failing_in_rows (failing_by total rule across margin) (suc (across - rule.cut)) (suc (across - rule.cut))

-- (i, j) is the start of a window that lies in the layout
pub record IsStart (rule : Rule) (across i j : ℕ) : Type 0 where
  pub columns : i + rule.cut ≤ across
  pub rows : j + rule.cut ≤ across
