-- The verdict: by the load of every box of tiles, and so by corner sums.
use Prim.Native.Nat.{ℕ, suc, ◌+◌, ◌*◌, ◌≤◌, ◌<◌, min}
use mathlib.Core.Path.{◌≡◌, refl, sym, ap, ap₂, ◌∙◌}
use mathlib.Core.List.{List}
use mathlib.Core.Logic.{◌⊎◌, inl, inr}
use native.Mathlib.Numerals.{add-one}
use native.Mathlib.Omega.{arith}
use Rattle.laws.proofs.Tests.{le_or_lt}
use Rattle.geometry.specs.Count.{span, box_sum}
use Rattle.geometry.specs.declared.Rect.{Rect}
use Rattle.geometry.proofs.Counting.{same_box, span_empty}
use Rattle.tiles.specs.declared.Plan.{Plan}
use Rattle.tiles.specs.Tiles.{TileBox, number_at, load}
use Rattle.fill.specs.Judge.{standard_tiles, bloated_tiles, shrunk_tiles, failing_at, starts_across, standard_failing, margin_failing, judged, verdict_of}
use Rattle.fill.specs.Windows.{rule_of, tiles_for_upper, tiles_for_lower, failing_by, search_by, IsStart}
use Rattle.tiles.specs.Sums.{Tabled, load_of, TilesInLayout, corner_total, CornersOf}
use Rattle.fill.proofs.Starts.{rows_cong}
use Rattle.fill.proofs.Windows.{upper_inside, lower_inside}
use Rattle.tiles.proofs.Loads.{box_load}
use Rattle.tiles.proofs.Summing.{corner_total_lem}

-- ---- the search by the load of a box, and the verdict's definition

-- a shrunk window of no tiles sums to nothing, wherever it is taken to begin
shrunk_sum : (plan : Plan) (i j : ℕ) (f : ℕ → ℕ → ℕ) → box_sum (tiles_for_lower (rule_of plan) 1 i j) f ≡ box_sum (shrunk_tiles plan i j) f
shrunk_sum plan i j f = go (le_or_lt 1 plan.cut)
  where
    go : (1 ≤ plan.cut) ⊎ (plan.cut < 1) → box_sum (tiles_for_lower (rule_of plan) 1 i j) f ≡ box_sum (shrunk_tiles plan i j) f
    go (inl h) = ap (λ (b : TileBox). box_sum b f) (same_box (omega arith) (omega arith) refl refl)
    go (inr h) =
        span_empty (min (j + 1) (j + plan.cut)) (j + plan.cut) (λ y. span (min (i + 1) (i + plan.cut)) (i + plan.cut) (λ x. f x y)) (omega arith)
        ∙ sym (span_empty (suc j) (j + plan.cut) (λ y. span (suc i) (i + plan.cut) (λ x. f x y)) (omega arith))

module _ (loads : ℕ → ℕ → ℕ) (plan : Plan) (total : TileBox → ℕ) (same : (b : TileBox) → TilesInLayout plan.across b → total b ≡ box_sum b loads) where
  start_same : (margin i j : ℕ) (a b : TileBox) → box_sum (tiles_for_upper (rule_of plan) plan.across margin i j) loads ≡ box_sum a loads →
      box_sum (tiles_for_lower (rule_of plan) margin i j) loads ≡ box_sum b loads → IsStart (rule_of plan) plan.across i j →
      failing_by total (rule_of plan) plan.across margin i j ≡ failing_at plan i j (box_sum a loads) (box_sum b loads)
  start_same margin i j a b e f s =
      ap₂ (failing_at plan i j)
      (same (tiles_for_upper (rule_of plan) plan.across margin i j) (upper_inside s margin refl) ∙ e)
      (same (tiles_for_lower (rule_of plan) margin i j) (lower_inside s margin refl) ∙ f)

  pub search_verdict : plan.cut ≤ plan.across →
      judged (search_by total (rule_of plan) plan.across 0) (search_by total (rule_of plan) plan.across 1)
      ≡ judged (standard_failing loads plan) (margin_failing loads plan)
  unfolding standard_failing margin_failing
  search_verdict h =
      ap₂ judged
      (rows_cong (failing_by total (rule_of plan) plan.across 0)
      (λ i j. let s = box_sum (standard_tiles plan i j) loads in failing_at plan i j s s) (starts_across plan) (starts_across plan)
      (λ i j p q.
      start_same 0 i j (standard_tiles plan i j) (standard_tiles plan i j) (ap sum_of (same_box refl refl (whole i (omega arith)) (whole j (omega arith))))
      (ap sum_of (same_box (first i) (first j) refl refl)) (start i j (omega arith) (omega arith))))
      (rows_cong (failing_by total (rule_of plan) plan.across 1)
      (λ i j. failing_at plan i j (box_sum (bloated_tiles plan i j) loads) (box_sum (shrunk_tiles plan i j) loads))
      (starts_across plan) (starts_across plan)
      (λ i j p q.
      start_same 1 i j (bloated_tiles plan i j) (shrunk_tiles plan i j) (ap sum_of (same_box refl refl (more i) (more j))) (shrunk_sum plan i j loads)
      (start i j (omega arith) (omega arith))))
    where
      sum_of : TileBox → ℕ
      sum_of b = box_sum b loads

      start : (i j : ℕ) → i + plan.cut ≤ plan.across → j + plan.cut ≤ plan.across → IsStart (rule_of plan) plan.across i j
      start i j p q = record { columns = p; rows = q }

      first : (i : ℕ) → min (i + 0) (i + plan.cut) ≡ i
      first i = omega arith

      whole : (i : ℕ) → i + plan.cut ≤ plan.across → min (i + plan.cut + 0) plan.across ≡ i + plan.cut
      whole i h = omega arith

      more : (i : ℕ) → min (i + plan.cut + 1) plan.across ≡ min (suc (i + plan.cut)) plan.across
      more i = ap (λ (k : ℕ). min k plan.across) (add-one (i + plan.cut))

-- ---- the verdict by corner sums

pub sums_verdict : (rects : List Rect) (amounts : List ℕ) (plan : Plan) {table sums : List ℕ} →
    Tabled (load_of rects amounts plan) (plan.across * plan.across) table → CornersOf (number_at table plan.across) sums plan.across → plan.cut ≤ plan.across →
    let total = corner_total sums plan.across in
    judged (search_by total (rule_of plan) plan.across 0) (search_by total (rule_of plan) plan.across 1) ≡ verdict_of rects amounts plan
sums_verdict rects amounts plan {sums = sums} t s h =
    search_verdict (load rects amounts plan) plan (corner_total sums plan.across) (λ b k. corner_total_lem s k ∙ box_load rects amounts plan t b k) h
