-- The search among listed positions, in any order, finds the best of them: of two as good the one of least y, then least x.
use Prim.Native.Nat.{ℕ, ◌≤◌}
use mathlib.Core.Path.{◌≡◌, refl, sym, ◌∙◌}
use mathlib.Core.Bool.{Bool, true, false, ◌&&◌, ◌||◌}
use mathlib.Core.Logic.{◌⊎◌, inl, inr}
use mathlib.Core.List.{List, [], ◌∷◌, Memᴰ}
use native.Mathlib.Nat.{le_of_lt}
use native.Mathlib.Omega.{arith}
use lib.Dec.{ltb, eqb}
use borrow.Author.Tests.{ltb-true, ltb-false, eqb-true, eqb-false}
use Rattle.laws.proofs.Tests.{true_false}
use Rattle.geometry.specs.declared.Spot.{Spot}
use Rattle.geometry.specs.declared.Sense.{Sense}
use Rattle.geometry.specs.Extreme.{better, NoBetter, spot_at}
use Rattle.geometry.proofs.Extremes.{NoLater, no_later_trans, better_neither, better_self, better_trans, IsBest}
use Rattle.std.specs.List.{fold}
use Rattle.extremes.specs.Search.{earlier, leads, leading, leading_in_row, leading_in_rows}

-- a is better than b, or as good and no later
abbrev pub Ahead : Sense → Spot → Spot → Type 0
Ahead s a b = (better s a.area b.area ≡ true) ⊎ ((a.area ≡ b.area) × NoLater a.x a.y b.x b.y)

ahead_refl : (s : Sense) (a : Spot) → Ahead s a a
ahead_refl s a = inr (refl, inr (refl, omega arith))

ahead_trans : (s : Sense) (a b c : Spot) → Ahead s a b → Ahead s b c → Ahead s a c
ahead_trans s a b c (inl h) (inl k) = inl (better_trans s _ _ _ h k)
ahead_trans s a b c (inl h) (inr k) = inl (rw (← k.0) h)
ahead_trans s a b c (inr h) (inl k) = inl (rw h.0 k)
ahead_trans s a b c (inr h) (inr k) = inr (h.0 ∙ k.0, no_later_trans _ _ _ _ _ _ h.1 k.1)

-- ---- one window more

-- which of two goes first
abbrev Order : Sense → (new old : Spot) → Bool → Type 0
Order s new old true = Ahead s new old
Order s new old false = Ahead s old new

module _ (s : Sense) (new old : Spot) where
  tie : new.area ≡ old.area → Order s new old (earlier new old)
  tie a = go (ltb new.y old.y) refl (eqb new.y old.y) refl (ltb new.x old.x) refl
    where
      go : (t : Bool) → ltb new.y old.y ≡ t → (u : Bool) → eqb new.y old.y ≡ u → (v : Bool) → ltb new.x old.x ≡ v →
          Order s new old (t || (u && v))
      go true e u f v g = inr (a, inl (ltb-true _ _ e))
      go false e true f true g = inr (a, inr (eqb-true _ _ f, le_of_lt (ltb-true _ _ g)))
      go false e true f false g = inr (sym a, inr (sym (eqb-true _ _ f), ltb-false _ _ g))
      go false e false f v g =
          let l : old.y ≤ new.y = ltb-false _ _ e in
          let h : new.y ≡ old.y → ⊥ = eqb-false _ _ f in
          inr (sym a, inl (omega arith))

  order : Order s new old (leads s new old)
  order = go (better s new.area old.area) refl (eqb new.area old.area) refl (better s old.area new.area) refl
    where
      go : (t : Bool) → better s new.area old.area ≡ t → (u : Bool) → eqb new.area old.area ≡ u →
          (v : Bool) → better s old.area new.area ≡ v → Order s new old (t || (u && earlier new old))
      go true e u f v g = inl e
      go false e true f v g = tie (eqb-true _ _ f)
      go false e false f true g = inl g
      go false e false f false g = absurd (eqb-false _ _ f (better_neither s _ _ e g))

  leading_ahead : Ahead s (leading s old new) old × Ahead s (leading s old new) new
  leading_ahead = go (leads s new old) order
    where
      go : (t : Bool) → Order s new old t → Ahead s (elim t [ true ↦ new | false ↦ old ]) old × Ahead s (elim t [ true ↦ new | false ↦ old ]) new
      go true h = (h, ahead_refl s new)
      go false h = (ahead_refl s old, h)

  leading_one : (P : Spot → Type 0) → P old → P new → P (leading s old new)
  leading_one P h k = go (leads s new old)
    where
      go : (t : Bool) → P (elim t [ true ↦ new | false ↦ old ])
      go true = k
      go false = h

-- ---- rows and columns of windows

-- no step falls behind
module _ (s : Sense) (step : Spot → ℕ → Spot) (before : (b : Spot) (p : ℕ) → Ahead s (step b p) b) where
  fold_before : (l : List ℕ) (b : Spot) → Ahead s (fold step b l) b
  fold_before [] b = ahead_refl s b
  fold_before (p ∷ l) b = ahead_trans s _ _ _ (fold_before l (step b p)) (before b p)

  fold_tried : (l : List ℕ) (b a : Spot) (p : ℕ) → Memᴰ p l → ((b : Spot) → Ahead s (step b p) a) → Ahead s (fold step b l) a
  fold_tried [] b a p m h = elim m [ ]
  fold_tried (q ∷ l) b a p (Memᴰ.head e) h = ahead_trans s _ _ _ (fold_before l (step b q)) (rw e at (h b))
  fold_tried (q ∷ l) b a p (Memᴰ.tail m) h = fold_tried l (step b q) a p m h

-- what holds of each window that is tried holds of the one that is left
fold_one : (P : Spot → Type 0) (step : Spot → ℕ → Spot) (l : List ℕ) (b : Spot) → P b → ((p : ℕ) (b : Spot) → Memᴰ p l → P b → P (step b p)) →
    P (fold step b l)
fold_one P step [] b h all = h
fold_one P step (p ∷ l) b h all =
    fold_one P step l (step b p) (all p b (Memᴰ.head refl) h) (λ q c m k. all q c (Memᴰ.tail m) k)

-- y is in the list of rows, and x in the list of that row
abbrev pub Listed : (xs : ℕ → List ℕ) (ys : List ℕ) (x y : ℕ) → Type 0
Listed xs ys x y = Memᴰ x (xs y) × Memᴰ y ys

module _ (s : Sense) (f : ℕ → ℕ → ℕ) (xs : ℕ → List ℕ) (ys : List ℕ) where
  row_before : (b : Spot) (y : ℕ) → Ahead s (leading_in_row s f (xs y) y b) b
  row_before b y = fold_before s (λ b x. leading s b (spot_at f x y)) (λ b x. (leading_ahead s (spot_at f x y) b).0) (xs y) b

  row_tried : (y : ℕ) (b : Spot) (x : ℕ) → Memᴰ x (xs y) → Ahead s (leading_in_row s f (xs y) y b) (spot_at f x y)
  row_tried y b x m =
      fold_tried s (λ b x. leading s b (spot_at f x y)) (λ b x. (leading_ahead s (spot_at f x y) b).0) (xs y) b (spot_at f x y) x m
      (λ b. (leading_ahead s (spot_at f x y) b).1)

  rows_tried : (b : Spot) (x y : ℕ) → Listed xs ys x y → Ahead s (leading_in_rows s f xs ys b) (spot_at f x y)
  rows_tried b x y m = fold_tried s (λ b y. leading_in_row s f (xs y) y b) row_before ys b (spot_at f x y) y m.1 (λ b. row_tried y b x m.0)

  -- what is left is a window that was tried
  rows_one : (P : Spot → Type 0) (b : Spot) → P b → ((x y : ℕ) → Listed xs ys x y → P (spot_at f x y)) → P (leading_in_rows s f xs ys b)
  rows_one P b h all =
      fold_one P (λ b y. leading_in_row s f (xs y) y b) ys b h
      (λ y b k h. fold_one P (λ b x. leading s b (spot_at f x y)) (xs y) b h (λ x b m h. leading_one s (spot_at f x y) b P h (all x y (m, k))))

  -- the search that begins with a listed position
  pub leading_best : (x₀ y₀ : ℕ) → Listed xs ys x₀ y₀ → IsBest s f (Listed xs ys) (leading_in_rows s f xs ys (spot_at f x₀ y₀))
  leading_best x₀ y₀ m₀ =
      record {
        was_seen = rows_one (λ b. Listed xs ys b.x b.y) (spot_at f x₀ y₀) m₀ (λ x y m. m);
        area_is = rows_one (λ b. b.area ≡ f b.x b.y) (spot_at f x₀ y₀) refl (λ x y m. refl);
        none_better = λ x y m. none x y (rows_tried (spot_at f x₀ y₀) x y m);
        first = λ x y m. early x y (rows_tried (spot_at f x₀ y₀) x y m);
      }
    where
      found : Spot
      found = leading_in_rows s f xs ys (spot_at f x₀ y₀)

      none : (x y : ℕ) → Ahead s found (spot_at f x y) → NoBetter s (f x y) found.area
      none x y (inl h) = go (better s (f x y) found.area) refl
        where
          go : (t : Bool) → better s (f x y) found.area ≡ t → t ≡ false
          go true e = absurd (true_false (better s (f x y) (f x y)) (better_trans s _ _ _ e h) (better_self s (f x y)))
          go false e = refl
      none x y (inr h) = rw h.0 (better_self s (f x y))

      early : (x y : ℕ) → Ahead s found (spot_at f x y) → f x y ≡ found.area → NoLater found.x found.y x y
      early x y (inl h) e = absurd (true_false (better s (f x y) (f x y)) (rw (← e) at h) (better_self s (f x y)))
      early x y (inr h) e = h.1
