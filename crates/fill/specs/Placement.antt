-- Document 01, "Fillable area and verdict": placements of a planned fill, and the sum of a window position under one.
use Rattle.std.specs.Prelude.{ℕ, ◌+◌, ◌<◌, ◌≡◌, Bool, List, T}
use Rattle.geometry.specs.declared.Rect.{Rect}
use Rattle.geometry.specs.Count.{one_if, box_sum}
use Rattle.geometry.specs.Layout.{covered_area, window_box}
use Rattle.spacing.specs.Eligible.{eligible, tile}
use Rattle.spacing.specs.declared.Keepout.{Keepout}
use Rattle.tiles.specs.declared.Plan.{Plan}
use Rattle.fill.specs.declared.Bound.{Bound}
use Rattle.fill.specs.declared.Bound.TheVariants.{Over, Under}
use Rattle.geometry.specs.Bounds.{keeps_upper, keeps_lower}
use Rattle.tiles.specs.Tiles.{number_at}

-- the number of chosen unit squares in a box
abbrev pub chosen_area : (ℕ → ℕ → Bool) → Rect → ℕ
chosen_area chosen b = box_sum b (λ x y. one_if (chosen x y))

-- a placement: every chosen square is eligible, and each tile holds as many of them as its stated amount, in any place
pub record Placement (ks : List Keepout) (amounts : List ℕ) (plan : Plan) (chosen : ℕ → ℕ → Bool) : Type 0 where
  pub allowed : (x y : ℕ) → T (chosen x y) → T (eligible ks x y)
  pub stated : (i j : ℕ) → i < plan.across → j < plan.across → chosen_area chosen (tile plan.side i j) ≡ number_at amounts plan.across i j

-- the sum S of the window of side w at (x, y): its covered and its chosen squares
abbrev pub placed_sum : List Rect → (ℕ → ℕ → Bool) → (w x y : ℕ) → ℕ
placed_sum rs chosen w x y = covered_area rs (window_box w x y) + chosen_area chosen (window_box w x y)

-- whether the sum keeps a bound: U for over, L for under; a position breaks a bound that its sum does not keep
abbrev pub keeps : Bound → Plan → (total : ℕ) → Bool
keeps Over plan total = keeps_upper plan.upper plan.window total
keeps Under plan total = keeps_lower plan.lower plan.window total
