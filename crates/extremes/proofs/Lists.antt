-- How much the list of rows grows by each position and by each rectangle.
use Prim.Native.Nat.{ℕ, ◌+◌, ◌-◌, ◌≤◌}
use mathlib.Core.Bool.{Bool, true, false}
use mathlib.Core.List.{List, [], ◌∷◌, ◌++◌}
use native.Mathlib.Omega.{arith}
use lib.Dec.{leb}
use lib.ListN.{length, length-append}
use Rattle.geometry.specs.declared.Rect.{Rect}
use Rattle.geometry.specs.declared.Sense.{Sense}
use Rattle.extremes.specs.Listing.{near_row, far_row, listed, with_position, with_end, with_sides}

grown_one : (l : List ℕ) (p : ℕ) → length (l ++ (p ∷ [])) ≤ length l + 1
grown_one l p = omega (arith, length-append l (p ∷ []))

pub position_grown : (last p : ℕ) (l : List ℕ) → length (with_position last p l) ≤ length l + 1
unfolding with_position
position_grown last p l = go (leb p last) (listed p l)
  where
    go : (t u : Bool) → length {A = ℕ} (elim t [ true ↦ elim u [ true ↦ l | false ↦ l ++ (p ∷ []) ] | false ↦ l ]) ≤ length l + 1
    go true true = omega arith
    go true false = grown_one l p
    go false u = omega arith

pub end_grown : (last w e : ℕ) (l : List ℕ) → length (with_end last w e l) ≤ length l + 1
unfolding with_end
end_grown last w e l = go (leb w e)
  where
    go : (t : Bool) → length {A = ℕ} (elim t [ true ↦ with_position last (e - w) l | false ↦ l ]) ≤ length l + 1
    go true = position_grown last (e - w) l
    go false = omega arith

pub sides_grown : (s : Sense) (last w : ℕ) (l : List ℕ) (r : Rect) → length (with_sides s last w l r) ≤ length l + 2
sides_grown s last w l r =
    omega (arith, position_grown last (near_row s r) l, end_grown last w (far_row s r) (with_position last (near_row s r) l))
