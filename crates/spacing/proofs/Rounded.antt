-- Document 02, request 6: what was eligible while corner gaps were square is eligible now, for every shape, gap and square; so no fillable area
-- falls.
use Prim.Native.Nat.{ℕ, suc, ◌+◌, ◌≤◌}
use mathlib.Core.Path.{◌≡◌, refl, ap₂}
use mathlib.Core.Bool.{Bool, true, false, not, ◌&&◌}
use mathlib.Core.List.{List, [], ◌∷◌}
use mathlib.Core.Logic.{◌⊎◌, inl, inr}
use native.Mathlib.Omega.{arith}
use lib.Dec.{leb}
use borrow.Author.Tests.{le-leb, leb-true}
use Rattle.laws.proofs.Tests.{both, either}
use Rattle.geometry.specs.Count.{one_if}
use Rattle.geometry.specs.Layout.{covered}
use Rattle.geometry.proofs.Counting.{box_le}
use Rattle.spacing.specs.declared.Keepout.{Keepout}
use Rattle.spacing.specs.Eligible.{gap_between, square, clear_of, clear_of_all, rects_in, eligible}
use Rattle.spacing.specs.SquareCorners.{clear_of_before, clear_of_all_before, eligible_before, EligibleStill, NoAreaFalls}
use Rattle.spacing.proofs.Distances.{square_le}

clear_still : (k : Keepout) (x y : ℕ) → clear_of_before k x y ≡ true → clear_of k x y ≡ true
clear_still k x y h = go (either (leb k.gap across) (leb k.gap down) h)
  where
    across : ℕ
    across = gap_between x (suc x) k.rect.x1 k.rect.x2

    down : ℕ
    down = gap_between y (suc y) k.rect.y1 k.rect.y2

    go : (leb k.gap across ≡ true) ⊎ (leb k.gap down ≡ true) → clear_of k x y ≡ true
    go (inl e) =
        le-leb (square k.gap) (square across + square down) (omega (arith, square_le k.gap across (leb-true k.gap across e)))
    go (inr e) =
        le-leb (square k.gap) (square across + square down) (omega (arith, square_le k.gap down (leb-true k.gap down e)))

clear_of_all_still : (ks : List Keepout) (x y : ℕ) → clear_of_all_before ks x y ≡ true → clear_of_all ks x y ≡ true
unfolding clear_of_all clear_of_all_before
clear_of_all_still [] x y h = refl
clear_of_all_still (k ∷ ks) x y h =
    let each = both (clear_of_before k x y) (clear_of_all_before ks x y) h in
    ap₂ ◌&&◌ (clear_still k x y each.0) (clear_of_all_still ks x y each.1)

pub eligible_still : EligibleStill
eligible_still ks x y h =
    let each = both (not (covered (rects_in ks) x y)) (clear_of_all_before ks x y) h in
    ap₂ ◌&&◌ each.0 (clear_of_all_still ks x y each.1)

pub no_area_falls : NoAreaFalls
no_area_falls ks b = box_le b (λ x y. one_if (eligible_before ks x y)) (λ x y. one_if (eligible ks x y)) (λ x y i. one_le x y (eligible_before ks x y) refl)
  where
    one_le : (x y : ℕ) (t : Bool) → eligible_before ks x y ≡ t → one_if t ≤ one_if (eligible ks x y)
    one_le x y true e = rw (eligible_still ks x y e) (omega arith)
    one_le x y false e = omega arith
