-- Document 02, request 6: what was eligible before, while corner gaps were square. It is kept for the laws that compare the two, here, in jobfile's
-- specs/SquareCorners and in the unit's AnsweredAsBefore, and for a row of the table of cases.
use Rattle.std.specs.Prelude.{ℕ, suc, ◌≤◌, ◌≡◌, Bool, true, ◌&&◌, ◌||◌, not, List, [], ◌∷◌, leb}
use Rattle.geometry.specs.declared.Rect.{Rect}
use Rattle.geometry.specs.Count.{one_if, box_sum}
use Rattle.geometry.specs.Layout.{covered}
use Rattle.spacing.specs.declared.Keepout.{Keepout}
use Rattle.spacing.specs.Eligible.{gap_between, rects_in, eligible, fillable_area}

-- far enough across or down
abbrev pub clear_of_before : Keepout → ℕ → ℕ → Bool
clear_of_before k x y =
    leb k.gap (gap_between x (suc x) k.rect.x1 k.rect.x2) || leb k.gap (gap_between y (suc y) k.rect.y1 k.rect.y2)

unfoldable pub clear_of_all_before : List Keepout → ℕ → ℕ → Bool
clear_of_all_before [] x y = true
clear_of_all_before (k ∷ ks) x y = clear_of_before k x y && clear_of_all_before ks x y

abbrev pub eligible_before : List Keepout → ℕ → ℕ → Bool
eligible_before ks x y = not (covered (rects_in ks) x y) && clear_of_all_before ks x y

abbrev pub fillable_before : List Keepout → Rect → ℕ
fillable_before ks b = box_sum b (λ x y. one_if (eligible_before ks x y))

-- what was eligible is eligible now, for every shape, gap and square; so no fillable area falls. proofs/Rounded.antt proves both
abbrev pub EligibleStill : Type 0
EligibleStill = (ks : List Keepout) (x y : ℕ) → eligible_before ks x y ≡ true → eligible ks x y ≡ true

abbrev pub NoAreaFalls : Type 0
NoAreaFalls = (ks : List Keepout) (b : Rect) → fillable_before ks b ≤ fillable_area ks b
