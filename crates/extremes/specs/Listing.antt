-- The rows that the exact run tries in place of all. A buyer need not read it: proofs/Searches.antt shows that the search finds `extreme`.
use Rattle.std.specs.Prelude.{ℕ, ◌-◌, Bool, true, false, List, [], ◌∷◌, ◌++◌, leb, eqb, fold}
use Rattle.std.specs.List.{list_any}
use Rattle.geometry.specs.declared.Rect.{Rect}
use Rattle.geometry.specs.declared.Sense.{Sense}
use Rattle.geometry.specs.declared.Sense.TheVariants.{Greatest, Least}

-- of a low and a high side, or of what stands for them, on either axis: what the window's low edge meets at a first extreme, and what its high edge
-- meets
abbrev pub near_of : {A : Type 0} → Sense → (low high : A) → A
near_of Greatest low high = low
near_of Least low high = high

abbrev pub far_of : {A : Type 0} → Sense → (low high : A) → A
far_of Greatest low high = high
far_of Least low high = low

-- the sides of a rectangle that the window's low and high edge meet in a column
abbrev pub near_row : Sense → Rect → ℕ
near_row s r = near_of s r.y1 r.y2

abbrev pub far_row : Sense → Rect → ℕ
far_row s r = far_of s r.y1 r.y2

-- whether a position is in a list
abbrev pub listed : ℕ → List ℕ → Bool
listed p l = list_any (λ q. eqb q p) l

-- a list with the position p, if p is no larger than the last one; each position stands once
unfoldable pub with_position : (last p : ℕ) → List ℕ → List ℕ
with_position last p l = elim (leb p last) [ true ↦ elim (listed p l) [ true ↦ l | false ↦ l ++ (p ∷ []) ] | false ↦ l ]

-- a list with the position whose window ends at e
unfoldable pub with_end : (last w e : ℕ) → List ℕ → List ℕ
with_end last w e l = elim (leb w e) [ true ↦ with_position last (e - w) l | false ↦ l ]

-- a list with the positions at which the window meets a rectangle
abbrev pub with_sides : Sense → (last w : ℕ) → List ℕ → Rect → List ℕ
with_sides s last w l r = with_end last w (far_row s r) (with_position last (near_row s r) l)

-- the rows that are tried: 0, the last one, and where the window meets a rectangle
unfoldable pub candidates : Sense → (last w : ℕ) → List Rect → List ℕ
candidates s last w rs = fold (with_sides s last w) (with_position last last (0 ∷ [])) rs
