-- The list of rows that the search tries has every candidate, and positions alone.
use Prim.Native.Nat.{ℕ, zero, suc, ◌+◌, ◌-◌, ◌≤◌}
use mathlib.Core.Path.{◌≡◌, refl, sym}
use mathlib.Core.Bool.{Bool, true, false}
use mathlib.Core.Logic.{◌⊎◌, inl, inr}
use mathlib.Core.List.Memᴰ
use mathlib.Core.List.{List, [], ◌∷◌, ◌++◌, Memᴰ}
use native.Mathlib.Omega.{arith}
use lib.Dec.{leb, eqb}
use Rattle.std.specs.Prelude.{All}
use borrow.Author.Tests.{le-leb, leb-true, eqb-true}
use Rattle.geometry.specs.declared.Rect.{Rect}
use Rattle.geometry.specs.declared.Sense.{Sense}
use Rattle.std.specs.List.{fold}
use Rattle.extremes.specs.Listing.{near_row, far_row, listed, with_position, with_end, with_sides, candidates}
use Rattle.extremes.proofs.Candidates.{Meets, low_edge, high_edge, further, Candidate, at_start, at_end_lem, at_side}

listed_member : (p : ℕ) (l : List ℕ) → listed p l ≡ true → Memᴰ p l
listed_member p [] e = let z : ◌≡◌ {A = ℕ} 0 1 = cc in absurd (omega arith)
listed_member p (q ∷ l) e = go (eqb q p) refl (listed_member p l)
  where
    go : (t : Bool) → eqb q p ≡ t → (listed p l ≡ true → Memᴰ p l) → Memᴰ p (q ∷ l)
    go true h rest = Memᴰ.head (sym (eqb-true q p h))
    go false h rest = Memᴰ.tail (rest (rw h at e))

-- ---- one position more

module _ (last p : ℕ) (l : List ℕ) where
  position_kept : {q : ℕ} → Memᴰ q l → Memᴰ q (with_position last p l)
  unfolding with_position
  position_kept {q} m = go (leb p last) (listed p l)
    where
      go : (t u : Bool) → Memᴰ q (elim t [ true ↦ elim u [ true ↦ l | false ↦ l ++ (p ∷ []) ] | false ↦ l ])
      go true true = m
      go true false = Memᴰ.append_left (p ∷ []) m
      go false u = m

  position_added : p ≤ last → Memᴰ p (with_position last p l)
  unfolding with_position
  position_added h = rw (le-leb p last h, with_position) (go (listed p l) refl)
    where
      go : (u : Bool) → listed p l ≡ u → Memᴰ p (elim u [ true ↦ l | false ↦ l ++ (p ∷ []) ])
      go true e = listed_member p l e
      go false e = Memᴰ.append_right l (Memᴰ.head refl)

  position_within : ((q : ℕ) → Memᴰ q l → q ≤ last) → (q : ℕ) → Memᴰ q (with_position last p l) → q ≤ last
  unfolding with_position
  position_within all q = go (leb p last) refl (listed p l)
    where
      new : p ≤ last → Memᴰ q l ⊎ Memᴰ q (p ∷ []) → q ≤ last
      new h (inl m) = all q m
      new h (inr m) = omega (arith, Memᴰ.eq_of_singleton m)

      go : (t : Bool) → leb p last ≡ t → (u : Bool) → Memᴰ q (elim t [ true ↦ elim u [ true ↦ l | false ↦ l ++ (p ∷ []) ] | false ↦ l ]) → q ≤ last
      go true e true m = all q m
      go true e false m = new (leb-true p last e) (Memᴰ.append_cases l m)
      go false e u m = all q m

module _ (last w e : ℕ) (l : List ℕ) where
  end_kept : {q : ℕ} → Memᴰ q l → Memᴰ q (with_end last w e l)
  unfolding with_end
  end_kept {q} m = go (leb w e)
    where
      go : (t : Bool) → Memᴰ q (elim t [ true ↦ with_position last (e - w) l | false ↦ l ])
      go true = position_kept last (e - w) l m
      go false = m

  end_added : (p : ℕ) → e ≡ p + w → p ≤ last → Memᴰ p (with_end last w e l)
  unfolding with_end
  end_added p h k = rw (le-leb w e (omega arith), with_end) (Memᴰ.cast same (position_added last (e - w) l (omega arith)))
    where
      same : p ≡ e - w
      same = omega arith

  end_within : ((q : ℕ) → Memᴰ q l → q ≤ last) → (q : ℕ) → Memᴰ q (with_end last w e l) → q ≤ last
  unfolding with_end
  end_within all q = go (leb w e)
    where
      go : (t : Bool) → Memᴰ q (elim t [ true ↦ with_position last (e - w) l | false ↦ l ]) → q ≤ last
      go true m = position_within last (e - w) l all q m
      go false m = all q m

-- ---- the rectangles in turn

module _ (s : Sense) (last w : ℕ) where
  abbrev sides : List ℕ → Rect → List ℕ
  sides = with_sides s last w

  sides_kept : (rs : List Rect) (l : List ℕ) {q : ℕ} → Memᴰ q l → Memᴰ q (fold sides l rs)
  sides_kept [] l m = m
  sides_kept (r ∷ rs) l m = sides_kept rs _ (end_kept last w (far_row s r) _ (position_kept last (near_row s r) l m))

  sides_met : (weight : Rect → ℕ) (rs : List Rect) (l : List ℕ) (p : ℕ) → p ≤ last → Meets (near_row s) (far_row s) weight w p rs → Memᴰ p (fold sides l rs)
  sides_met weight [] l p h m = elim m [ ]
  sides_met weight (r ∷ rs) l p h (low_edge e z) =
      sides_kept rs _ (end_kept last w (far_row s r) _ (Memᴰ.cast (sym e) (position_added last (near_row s r) l (omega arith))))
  sides_met weight (r ∷ rs) l p h (high_edge e z) = sides_kept rs _ (end_added last w (far_row s r) _ p e h)
  sides_met weight (r ∷ rs) l p h (further m) = sides_met weight rs _ p h m

  sides_within : (rs : List Rect) (l : List ℕ) → ((q : ℕ) → Memᴰ q l → q ≤ last) → (q : ℕ) → Memᴰ q (fold sides l rs) → q ≤ last
  sides_within [] l all = all
  sides_within (r ∷ rs) l all = sides_within rs _ (end_within last w (far_row s r) _ (position_within last (near_row s r) l all))

  pub candidates_complete : (weight : Rect → ℕ) (p : ℕ) (rs : List Rect) → p ≤ last → Candidate (near_row s) (far_row s) weight w last p rs →
      Memᴰ p (candidates s last w rs)
  unfolding candidates
  candidates_complete weight p rs h (at_start e) = sides_kept rs _ (position_kept last last (0 ∷ []) (Memᴰ.head e))
  candidates_complete weight p rs h (at_end_lem e) = sides_kept rs _ (Memᴰ.cast e (position_added last last (0 ∷ []) (omega arith)))
  candidates_complete weight p rs h (at_side m) = sides_met weight rs _ p h m

  pub candidates_within : (rs : List Rect) (p : ℕ) → Memᴰ p (candidates s last w rs) → p ≤ last
  unfolding candidates
  candidates_within rs = sides_within rs _ (position_within last last (0 ∷ []) (λ q m. omega (arith, Memᴰ.eq_of_singleton m)))

-- each row that is listed is a position
pub rows_within : (s : Sense) (last w : ℕ) (rs : List Rect) → All (λ y. y ≤ last) (candidates s last w rs)
rows_within s last w rs = all (candidates s last w rs) (candidates_within s last w rs)
  where
    all : (l : List ℕ) → ((q : ℕ) → Memᴰ q l → q ≤ last) → All (λ y. y ≤ last) l
    all [] h i d k = absurd (omega arith)
    all (p ∷ l) h zero d k = h p (Memᴰ.head refl)
    all (p ∷ l) h (suc i) d k = all l (λ q m. h q (Memᴰ.tail m)) i d (omega arith)
