-- Document 01, "Fillable area and verdict": the sums of tile windows and the verdict. Loads of tiles, and what a `Plan` has, stand in
-- tiles/specs/Tiles.antt.
use Rattle.std.specs.Prelude.{ℕ, zero, suc, ◌+◌, ◌-◌, min, true, false, List, [], ◌∷◌, Option, None, Some}
use Rattle.std.specs.Option.{option_or}
use Rattle.geometry.specs.declared.Rect.{Rect}
use Rattle.geometry.specs.Count.{box_sum}
use Rattle.geometry.specs.Bounds.{keeps_upper, keeps_lower}
use Rattle.tiles.specs.declared.Plan.{Plan}
use Rattle.fill.specs.declared.Bound.{Bound}
use Rattle.fill.specs.declared.Bound.TheVariants.{Over, Under}
use Rattle.fill.specs.declared.Failure.{Failure}
use Rattle.fill.specs.declared.Verdict.{Verdict}
use Rattle.fill.specs.declared.Verdict.TheVariants.{Safe, Broken, Undecided}
use Rattle.tiles.specs.Tiles.{TileBox, load}

-- the tiles of the standard window at start (i, j), of the bloated one, cut off at the edge, and of the shrunk one
abbrev pub standard_tiles : Plan → (i j : ℕ) → TileBox
standard_tiles plan i j = record { x1 = i; y1 = j; x2 = i + plan.cut; y2 = j + plan.cut }

abbrev pub bloated_tiles : Plan → (i j : ℕ) → TileBox
bloated_tiles plan i j = record { x1 = i; y1 = j; x2 = min (suc (i + plan.cut)) plan.across; y2 = min (suc (j + plan.cut)) plan.across }

abbrev pub shrunk_tiles : Plan → (i j : ℕ) → TileBox
shrunk_tiles plan i j = record { x1 = suc i; y1 = suc j; x2 = i + plan.cut; y2 = j + plan.cut }

-- the bound that a start fails, U before L, by the sums that U and L are judged by
abbrev pub failing_at : Plan → (i j for_upper for_lower : ℕ) → Option Failure
failing_at plan i j for_upper for_lower =
    elim (keeps_upper plan.upper plan.window for_upper) [
      | false ↦ Some (record { bound = Over; column = i; row = j })
      | true ↦ elim (keeps_lower plan.lower plan.window for_lower) [ false ↦ Some (record { bound = Under; column = i; row = j }) | true ↦ None ]
    ]

-- the first failure among f 0, …, f (k − 1)
unfoldable pub first_of : (ℕ → Option Failure) → (k : ℕ) → Option Failure
first_of f zero = None
first_of f (suc k) = option_or (first_of f k) (f k)

-- the first failing start, least row, then column, among the first m rows of k columns
abbrev pub failing_in_rows : (ℕ → ℕ → Option Failure) → (k m : ℕ) → Option Failure
failing_in_rows f k m = first_of (λ j. first_of (λ i. f i j) k) m

-- the starts on an axis: 0 to the last at which a window lies in the layout
abbrev pub starts_across : Plan → ℕ
starts_across plan = suc (plan.across - plan.cut)

-- the first start whose standard window fails a bound
unfoldable pub standard_failing : (load : ℕ → ℕ → ℕ) → Plan → Option Failure
standard_failing load plan =
    failing_in_rows (λ i j. let s = box_sum (standard_tiles plan i j) load in failing_at plan i j s s) (starts_across plan) (starts_across plan)

-- the first start whose bloated window fails U or whose shrunk window fails L
unfoldable pub margin_failing : (load : ℕ → ℕ → ℕ) → Plan → Option Failure
margin_failing load plan =
    failing_in_rows (λ i j. failing_at plan i j (box_sum (bloated_tiles plan i j) load) (box_sum (shrunk_tiles plan i j) load))
    (starts_across plan) (starts_across plan)

-- broken at a failing standard window; else undecided at a failing bloated or shrunk one; else safe
abbrev pub judged : (standard margin : Option Failure) → Verdict
judged (Some f) margin = Broken f
judged None (Some f) = Undecided f
judged None None = Safe

-- the verdict on a table of amounts
abbrev pub verdict_of : List Rect → List ℕ → Plan → Verdict
verdict_of rs amounts plan = judged (standard_failing (load rs amounts plan) plan) (margin_failing (load rs amounts plan) plan)

-- the verdict in numbers: 0 safe, 1 broken, 2 undecided; then 0 over or 1 under, and the start's column and row
abbrev pub bound_number : Bound → ℕ
bound_number Over = 0
bound_number Under = 1

abbrev pub verdict_numbers : Verdict → List ℕ
verdict_numbers Safe = 0 ∷ []
verdict_numbers (Broken f) = 1 ∷ bound_number f.bound ∷ f.column ∷ f.row ∷ []
verdict_numbers (Undecided f) = 2 ∷ bound_number f.bound ∷ f.column ∷ f.row ∷ []
