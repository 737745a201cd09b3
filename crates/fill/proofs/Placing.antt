-- Every table of amounts that fit their tiles has a placement: in each tile the first P eligible squares, row by row.
use Prim.Native.Nat.{ℕ, zero, suc, ◌+◌, ◌-◌, ◌*◌, ◌/◌, ◌%◌, ◌≤◌, ◌<◌, min}
use mathlib.Core.Path.{◌≡◌, refl, sym, ap, ap₂, ◌∙◌}
use mathlib.Core.Bool.{Bool, true, false, ◌&&◌}
use mathlib.Core.List.{List}
use mathlib.Core.Logic.{◌⊎◌, inl, inr}
use native.Mathlib.Nat.{suc-mul, min-eq_left}
use native.Mathlib.Omega.{arith}
use lib.Arith.{digits_div, digits_mod}
use lib.Dec.{ltb}
use borrow.Author.Tests.{lt-ltb, le-ltb}
use Rattle.laws.proofs.Tests.{le_or_lt, T-both}
use Rattle.geometry.specs.Count.{sum, box_sum, one_if}
use Rattle.geometry.proofs.Counting.{sum_cong}
use Rattle.spacing.specs.declared.Keepout.{Keepout}
use Rattle.tiles.specs.declared.Plan.{Plan}
use Rattle.spacing.specs.Eligible.{eligible, tile, fillable_area}
use Rattle.tiles.specs.Tiles.{number_at}
use Rattle.fill.specs.Placement.{Placement, chosen_area}

-- of the numbers that e names, those before which fewer than p have been counted, c of them earlier
row_taken : (n c p : ℕ) (e : ℕ → Bool) →
    sum n (λ i. one_if (e i && ltb (c + sum i (λ v. one_if (e v))) p)) + min p c ≡ min p (c + sum n (λ v. one_if (e v)))
unfolding sum
row_taken zero c p e = omega arith
row_taken (suc n) c p e = go (row_taken n c p e) (e n) refl (le_or_lt p (c + sum n (λ v. one_if (e v))))
  where
    before : ℕ
    before = sum n (λ v. one_if (e v))

    go : sum n (λ i. one_if (e i && ltb (c + sum i (λ v. one_if (e v))) p)) + min p c ≡ min p (c + before) → (t : Bool) → e n ≡ t → (p ≤ c + before) ⊎ (c + before < p) →
        sum n (λ i. one_if (e i && ltb (c + sum i (λ v. one_if (e v))) p)) + one_if (e n && ltb (c + before) p) + min p c ≡ min p (c + (before + one_if (e n)))
    go ih true q (inl l) = rw (q, le-ltb (c + before) p l) (omega arith)
    go ih true q (inr l) = rw (q, lt-ltb (c + before) p l) (omega arith)
    go ih false q l = rw q (omega arith)

-- how many of a square of side d come before column m of row k
abbrev rank : (d : ℕ) (e : ℕ → ℕ → Bool) (m k : ℕ) → ℕ
rank d e m k = sum k (λ j. sum d (λ i. one_if (e i j))) + sum m (λ i. one_if (e i k))

rows_taken : (h d p : ℕ) (e : ℕ → ℕ → Bool) →
    sum h (λ k. sum d (λ m. one_if (e m k && ltb (rank d e m k) p))) ≡ min p (sum h (λ j. sum d (λ i. one_if (e i j))))
unfolding sum
rows_taken zero d p e = omega arith
rows_taken (suc h) d p e = omega (arith, rows_taken h d p e, row_taken d (sum h (λ j. sum d (λ i. one_if (e i j)))) p (λ m. e m h))

-- a tile's squares by their places in the tile
tile_sum : (d i j : ℕ) (f : ℕ → ℕ → ℕ) → box_sum (tile d i j) f ≡ sum d (λ k. sum d (λ m. f (i * d + m) (j * d + k)))
tile_sum d i j f = ap₂ (λ (a b : ℕ). sum a (λ k. sum b (λ m. f (i * d + m) (j * d + k)))) (side j) (side i)
  where
    side : (v : ℕ) → suc v * d - v * d ≡ d
    side v = omega (arith, suc-mul v d)

-- the first squares of each tile, row by row, as many as its amount
abbrev firsts : (ℕ → ℕ → Bool) → List ℕ → (across side : ℕ) → ℕ → ℕ → Bool
firsts e amounts across side x y =
    e x y && ltb (rank side (λ m k. e (x / side * side + m) (y / side * side + k)) (x % side) (y % side)) (number_at amounts across (x / side) (y / side))

module _ (ks : List Keepout) (amounts : List ℕ) (across side : ℕ)
    (fit : (i j : ℕ) → i < across → j < across → number_at amounts across i j ≤ fillable_area ks (tile side i j)) where
  chosen : ℕ → ℕ → Bool
  chosen = firsts (eligible ks) amounts across side

  exactly : (i j : ℕ) → i < across → j < across → chosen_area chosen (tile side i j) ≡ number_at amounts across i j
  unfolding chosen
  exactly i j hi hj =
      tile_sum side i j (λ x y. one_if (chosen x y))
      ∙ sum_cong side (λ k. sum side (λ m. one_if (chosen (i * side + m) (j * side + k)))) (λ k. sum side (λ m. one_if (e m k && ltb (rank side e m k) p)))
      (λ k hk. sum_cong side (λ m. one_if (chosen (i * side + m) (j * side + k))) (λ m. one_if (e m k && ltb (rank side e m k) p)) (λ m hm. local m k hm hk))
      ∙ rows_taken side side p e
      ∙ ap (λ (s : ℕ). min p s) (sym (tile_sum side i j (λ x y. one_if (eligible ks x y))))
      ∙ min-eq_left (fit i j hi hj)
    where
      e : ℕ → ℕ → Bool
      e m k = eligible ks (i * side + m) (j * side + k)

      p : ℕ
      p = number_at amounts across i j

      local : (m k : ℕ) → m < side → k < side → one_if (chosen (i * side + m) (j * side + k)) ≡ one_if (e m k && ltb (rank side e m k) p)
      local m k hm hk = simp (digits_div i hm, digits_div j hk, digits_mod i hm, digits_mod j hk)

module _ (ks : List Keepout) (amounts : List ℕ) (plan : Plan)
    (fit : (i j : ℕ) → i < plan.across → j < plan.across → number_at amounts plan.across i j ≤ fillable_area ks (tile plan.side i j)) where
  pub placement : (chosen : ℕ → ℕ → Bool) × Placement ks amounts plan chosen
  unfolding chosen
  placement = (
    chosen ks amounts plan.across plan.side fit,
    record {
      allowed = λ x y h. (T-both (eligible ks x y) _ h).0;
      stated = exactly ks amounts plan.across plan.side fit;
    },
  )
