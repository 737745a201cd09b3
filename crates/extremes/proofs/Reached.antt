-- The positions that the search tries in a row have every candidate, and are positions alone. A row's candidates come from the rectangles that its
-- windows reach, and these are the ones whose sides its strip lists.
use Prim.Native.Nat.{ℕ, ◌+◌, ◌-◌, ◌*◌, ◌≤◌, ◌<◌}
use mathlib.Core.Path.{◌≡◌, sym, ap₂, subst}
use mathlib.Core.Bool.{Bool, true, ◌&&◌}
use mathlib.Core.Logic.{◌⊎◌, inl, inr}
use mathlib.Core.List.Memᴰ
use mathlib.Core.List.{List, [], ◌∷◌, ◌++◌, map, Memᴰ}
use native.Mathlib.Nat.{add-zero}
use native.Mathlib.Decide.{ℕ_discrete}
use native.Mathlib.Omega.{arith}
use lib.Dec.{leb, eqb}
use Rattle.std.specs.Prelude.{filter, IsPermutation}
use Rattle.std.proofs.lemmas.Bool.{cond_both}
use Rattle.std.proofs.lemmas.List.Sums.{sum_by-cons}
use borrow.Author.Tests.{le-leb, leb-true, eq-eqb, ne_eqb}
use Rattle.laws.proofs.Tests.{both}
use Rattle.geometry.specs.declared.Rect.{Rect}
use Rattle.geometry.specs.declared.Sense.{Sense}
use Rattle.geometry.specs.declared.Sense.TheVariants.{Greatest, Least}
use Rattle.geometry.specs.Count.{one_if, rect_sum}
use Rattle.geometry.specs.Overlaps.{common}
use Rattle.sweep.specs.declared.Side.{Side}
use Rattle.sweep.specs.declared.Side.TheVariants.{Low, High}
use Rattle.sweep.specs.declared.Upright.{Upright}
use Rattle.sweep.specs.declared.sorted.Sorted.{Sorted}
use Rattle.sweep.specs.Order.{column}
use Rattle.sweep.specs.Strips.{side_sum, strip_sides}
use Rattle.sweep.proofs.Covered.{strip_sum_lem}
use Rattle.extremes.specs.Listing.{near_of, far_of}
use Rattle.extremes.specs.Search.{is_reached, positions_of, tried_row}
use Rattle.extremes.proofs.Candidates.{Meets, low_edge, high_edge, further, Candidate, at_start, at_end_lem, at_side, near_column, far_column}

-- ---- how much meets a column

-- the weight of what stands at q
abbrev at : (q v h : ℕ) → ℕ
at q v h = one_if (eqb v q) * h

at_here : (q v h : ℕ) → v ≡ q → at q v h ≡ h
at_here q v h e = rw (eq-eqb v q e) (omega arith)

at_other : (q v h : ℕ) → (v ≡ q → ⊥) → at q v h ≡ 0
at_other q v h e = rw (ne_eqb v q e) (omega arith)

-- an edge that meets a rectangle meets some weight
meets_weight : (low high weight : Rect → ℕ) (w p : ℕ) (rs : List Rect) → Meets low high weight w p rs →
    (0 < rect_sum rs (λ r. at p (low r) (weight r))) ⊎ (0 < rect_sum rs (λ r. at (p + w) (high r) (weight r)))
unfolding rect_sum
meets_weight low high weight w p [] m = elim m [ ]
meets_weight low high weight w p (r ∷ rs) (low_edge e z) = inl (omega (arith, at_here p (low r) (weight r) e))
meets_weight low high weight w p (r ∷ rs) (high_edge e z) = inr (omega (arith, at_here (p + w) (high r) (weight r) e))
meets_weight low high weight w p (r ∷ rs) (further m) = go (meets_weight low high weight w p rs m)
  where
    go : (0 < rect_sum rs (λ r. at p (low r) (weight r))) ⊎ (0 < rect_sum rs (λ r. at (p + w) (high r) (weight r))) →
        (0 < at p (low r) (weight r) + rect_sum rs (λ r. at p (low r) (weight r)))
        ⊎ (0 < at (p + w) (high r) (weight r) + rect_sum rs (λ r. at (p + w) (high r) (weight r)))
    go (inl h) = inl (omega arith)
    go (inr h) = inr (omega arith)

-- ---- the positions of a list of sides

module _ (shift last : ℕ) where
  abbrev is_tried : Upright → Bool
  is_tried u = is_reached shift last u.column

  abbrev position : Upright → ℕ
  position u = u.column - shift

  reached : (p v : ℕ) → v ≡ p + shift → p ≤ last → is_reached shift last v ≡ true
  reached p v e h = ap₂ ◌&&◌ (le-leb shift v (omega arith)) (le-leb (v - shift) last (omega arith))

  -- a side adds its position, if that is reached
  positions_complete : (p : ℕ) (s : List Upright) → p ≤ last → 0 < side_sum (at (p + shift)) s → Memᴰ p (positions_of shift last s)
  positions_complete p [] h k = absurd (omega arith)
  positions_complete p (u ∷ s) h k = go (ℕ_discrete u.column (p + shift)) (positions_complete p s h)
    where
      rest : ℕ
      rest = side_sum (at (p + shift)) s

      more : 0 < at (p + shift) u.column u.rows + rest
      more = omega (arith, sum_by-cons (λ (u : Upright). at (p + shift) u.column u.rows) u s)

      go : Dec (u.column ≡ p + shift) → (0 < rest → Memᴰ p (map position (filter is_tried s))) → Memᴰ p (map position (filter is_tried (u ∷ s)))
      go (yes e) ih = let same : p ≡ position u = omega arith in rw (reached p u.column e h) (Memᴰ.head same)
      go (no e) ih =
          let m = ih (omega (arith, more, at_other (p + shift) u.column u.rows e)) in
          cond_both (is_tried u) (u ∷ filter is_tried s) (filter is_tried s) (λ l. Memᴰ p (map position l)) (λ _. Memᴰ.tail m) (λ _. m)

  positions_within : (s : List Upright) (p : ℕ) → Memᴰ p (positions_of shift last s) → p ≤ last
  positions_within [] p m = absurd (Memᴰ.not-nil m)
  positions_within (u ∷ s) p m =
      cond_both (is_tried u) (u ∷ filter is_tried s) (filter is_tried s) (λ l. Memᴰ p (map position l) → p ≤ last)
      (λ e k. first e (positions_within s p) (Memᴰ.cases_cons k)) (λ e. positions_within s p) m
    where
      first : is_tried u ≡ true → (Memᴰ p (map position (filter is_tried s)) → p ≤ last) → (p ≡ position u) ⊎ Memᴰ p (map position (filter is_tried s)) → p ≤ last
      first e rest (inl q) = omega (arith, leb-true (position u) last (both (leb shift u.column) (leb (position u) last) e).1)
      first e rest (inr q) = rest q

-- ---- the positions that are tried in a row

module _ (m : Sorted) (n w y : ℕ) where
  abbrev rows : Rect → ℕ
  rows r = common r.y1 r.y2 y (y + w)

  abbrev lows : List Upright
  lows = strip_sides m.lows.items Low y (y + w)

  abbrev highs : List Upright
  highs = strip_sides m.highs.items High y (y + w)

  abbrev near : Sense → List Upright
  near s = near_of s lows highs

  abbrev far : Sense → List Upright
  far s = far_of s lows highs

  -- a side of the strip stands where a rectangle with rows in it has one
  side_listed : (side : Side) (sorted : List Rect) → ∥ IsPermutation m.rects.now sorted ∥₁ → (shift p : ℕ) → p ≤ n - w →
      0 < rect_sum m.rects.now (λ r. at (p + shift) (column side r) (rows r)) → Memᴰ p (positions_of shift (n - w) (strip_sides sorted side y (y + w)))
  side_listed side sorted all shift p h k =
      positions_complete shift (n - w) p (strip_sides sorted side y (y + w)) h
      (subst (λ (i : ℕ). 0 < i) (sym (strip_sum_lem m.rects.now sorted side all y (y + w) (at (p + shift)) (λ v. omega arith))) k)

  near_listed : (s : Sense) (p : ℕ) → p ≤ n - w → 0 < rect_sum m.rects.now (λ r. at p (near_column s r) (rows r)) →
      Memᴰ p (positions_of 0 (n - w) (near s))
  near_listed s p h k = go s (subst (λ (q : ℕ). 0 < rect_sum m.rects.now (λ r. at q (near_column s r) (rows r))) (sym (add-zero p)) k)
    where
      go : (s : Sense) → 0 < rect_sum m.rects.now (λ r. at (p + 0) (near_column s r) (rows r)) →
          Memᴰ p (positions_of 0 (n - w) (near s))
      go Greatest = side_listed Low m.lows.items m.low.all 0 p h
      go Least = side_listed High m.highs.items m.high.all 0 p h

  far_listed : (s : Sense) (p : ℕ) → p ≤ n - w → 0 < rect_sum m.rects.now (λ r. at (p + w) (far_column s r) (rows r)) →
      Memᴰ p (positions_of w (n - w) (far s))
  far_listed Greatest p h = side_listed High m.highs.items m.high.all w p h
  far_listed Least p h = side_listed Low m.lows.items m.low.all w p h

  sides_listed : (s : Sense) (p : ℕ) → p ≤ n - w → Meets (near_column s) (far_column s) rows w p m.rects.now →
      Memᴰ p (tried_row s w (n - w) m y)
  sides_listed s p h k = go (meets_weight (near_column s) (far_column s) rows w p m.rects.now k)
    where
      go : (0 < rect_sum m.rects.now (λ r. at p (near_column s r) (rows r))) ⊎ (0 < rect_sum m.rects.now (λ r. at (p + w) (far_column s r) (rows r))) →
          Memᴰ p (tried_row s w (n - w) m y)
      go (inl k) = Memᴰ.tail (Memᴰ.tail (Memᴰ.append_left (positions_of w (n - w) (far s)) (near_listed s p h k)))
      go (inr k) = Memᴰ.tail (Memᴰ.tail (Memᴰ.append_right (positions_of 0 (n - w) (near s)) (far_listed s p h k)))

  pub tried_complete : (s : Sense) (p : ℕ) → p ≤ n - w → Candidate (near_column s) (far_column s) (λ r. common r.y1 r.y2 y (y + w)) w (n - w) p m.rects.now →
      Memᴰ p (tried_row s w (n - w) m y)
  tried_complete s p h (at_start e) = Memᴰ.head e
  tried_complete s p h (at_end_lem e) = Memᴰ.tail (Memᴰ.head e)
  tried_complete s p h (at_side k) = sides_listed s p h k

  pub tried_within : (s : Sense) (p : ℕ) → Memᴰ p (tried_row s w (n - w) m y) → p ≤ n - w
  tried_within s p k = start (Memᴰ.cases_cons k)
    where
      sides : Memᴰ p (positions_of 0 (n - w) (near s)) ⊎ Memᴰ p (positions_of w (n - w) (far s)) → p ≤ n - w
      sides (inl q) = positions_within 0 (n - w) (near s) p q
      sides (inr q) = positions_within w (n - w) (far s) p q

      end : (p ≡ n - w) ⊎ Memᴰ p (positions_of 0 (n - w) (near s) ++ positions_of w (n - w) (far s)) → p ≤ n - w
      end (inl e) = omega arith
      end (inr q) = sides (Memᴰ.append_cases (positions_of 0 (n - w) (near s)) q)

      start : (p ≡ 0) ⊎ Memᴰ p ((n - w) ∷ (positions_of 0 (n - w) (near s) ++ positions_of w (n - w) (far s))) → p ≤ n - w
      start (inl e) = omega arith
      start (inr q) = end (Memᴰ.cases_cons q)
