-- What a search over starts finds, as the levels need it: no worse than what stood before and than each start, and one of them.
use Prim.Native.Nat.{ℕ, zero, suc, ◌*◌, ◌<◌}
use mathlib.Core.Path.{◌≡◌, refl, sym, ap, ap₂, ◌∙◌, subst}
use mathlib.Core.Bool.{Bool, true, false}
use mathlib.Core.Logic.{inl, inr}
use native.Mathlib.Omega.{arith}
use Rattle.geometry.specs.declared.Spot.{Spot}
use Rattle.geometry.specs.declared.Sense.{Sense}
use Rattle.geometry.specs.Extreme.{better, spot_at, replaced, best_in_row, best_in_rows, NoBetter}
use Rattle.geometry.proofs.Extremes.{better_self, better_neither, step_better, step_skip, BestAfter, Start, after_no_worse, after_none_better, best_after_unique, rows_best, rows_best_of_all}
use Rattle.levels.specs.Weighing.{better_area}
use Rattle.levels.specs.Laws.{no_better_trans, replaced_stays}

-- ---- areas alone

pub area_better : (s : Sense) (b c : Spot) → better_area s b.area c.area ≡ (replaced s b c).area
area_better s b c = go (better s c.area b.area) refl
  where
    go : (t : Bool) → better s c.area b.area ≡ t → better_area s b.area c.area ≡ (replaced s b c).area
    go true e = rw (e, better_area, replaced)
    go false e = rw (e, better_area, replaced)

-- ---- a row

pub row_stays : (s : Sense) (f : ℕ → ℕ → ℕ) (t y n : ℕ) (b : Spot) → NoBetter s b.area (best_in_row s f t y n b).area
unfolding best_in_row
row_stays s f t y zero b = better_self s b.area
row_stays s f t y (suc n) b =
    no_better_trans s b.area (best_in_row s f t y n b).area (best_in_row s f t y (suc n) b).area (row_stays s f t y n b)
    (replaced_stays s (best_in_row s f t y n b) (spot_at f (n * t) y))

-- only the areas at the starts count
row_cong : (s : Sense) (f g : ℕ → ℕ → ℕ) (t y n : ℕ) (b : Spot) → ((i : ℕ) → i < n → f (i * t) y ≡ g (i * t) y) →
    best_in_row s f t y n b ≡ best_in_row s g t y n b
unfolding best_in_row
row_cong s f g t y zero b h = refl
row_cong s f g t y (suc n) b h =
    ap₂ (λ (c : Spot) (a : ℕ). replaced s c (record { area = a; x = n * t; y = y })) (row_cong s f g t y n b (λ i k. h i (omega arith))) (h n (omega arith))

pub rows_cong : (s : Sense) (f g : ℕ → ℕ → ℕ) (t n m : ℕ) (b : Spot) → ((i j : ℕ) → i < n → j < m → f (i * t) (j * t) ≡ g (i * t) (j * t)) →
    best_in_rows s f t n m b ≡ best_in_rows s g t n m b
unfolding best_in_rows
rows_cong s f g t n zero b h = refl
rows_cong s f g t n (suc m) b h =
    ap (best_in_row s f t (m * t) n) (rows_cong s f g t n m b (λ i j k l. h i j k (omega arith)))
    ∙ row_cong s f g t (m * t) n (best_in_rows s g t n m b) (λ i k. h i m k (omega arith))

-- ---- rows

module _ (s : Sense) (f : ℕ → ℕ → ℕ) (t n m : ℕ) (b : Spot) where
  pub rows_stay : NoBetter s b.area (best_in_rows s f t n m b).area
  rows_stay = after_no_worse s f (Start t n m) b (best_in_rows s f t n m b) (rows_best s f t n m b)

  pub rows_see : (i j : ℕ) → i < n → j < m → NoBetter s (f (i * t) (j * t)) (best_in_rows s f t n m b).area
  rows_see i j h k =
      after_none_better s f (Start t n m) b (best_in_rows s f t n m b) (rows_best s f t n m b) (i * t) (j * t)
      (record { column = i; row = j; column_in = h; row_in = k; x_is = refl; y_is = refl })

  -- what holds of the window before and of each start holds of what is found
  pub rows_are : (P : Spot → Type 0) → P b → ((i j : ℕ) → i < n → j < m → P (spot_at f (i * t) (j * t))) → P (best_in_rows s f t n m b)
  rows_are P p q = go (best_in_rows s f t n m b) (rows_best s f t n m b)
    where
      go : (r : Spot) → BestAfter s f (Start t n m) b r → P r
      go r (inl h) = rw h.0 p
      go r (inr h) =
          let at = h.0.was_seen in
          let area : r.area ≡ f (at.column * t) (at.row * t) = h.0.area_is ∙ ap₂ f at.x_is at.y_is in
          let is : r ≡ spot_at f (at.column * t) (at.row * t) = λ i. record { area = area i; x = at.x_is i; y = at.y_is i } in
          subst P (sym is) (q at.column at.row at.column_in at.row_in)

-- where what stood before is no better than some start, its area does not count
pub rows_forget : (s : Sense) (f : ℕ → ℕ → ℕ) (t n m : ℕ) (b c : Spot) →
    NoBetter s b.area (best_in_rows s f t n m c).area → NoBetter s c.area (best_in_rows s f t n m b).area →
    (best_in_rows s f t n m b).area ≡ (best_in_rows s f t n m c).area
rows_forget s f t n m b c h k = better_neither s (best_in_rows s f t n m b).area (best_in_rows s f t n m c).area (one b c h) (one c b k)
  where
    one : (b c : Spot) → NoBetter s b.area (best_in_rows s f t n m c).area → NoBetter s (best_in_rows s f t n m b).area (best_in_rows s f t n m c).area
    one b c h = rows_are s f t n m b (λ (a : Spot). NoBetter s a.area (best_in_rows s f t n m c).area) h (λ i j k l. rows_see s f t n m c i j k l)

-- the search from the window before finds what that window and the best of all starts leave: it is replaced only by a strictly better one
pub rows_replace : (s : Sense) (f : ℕ → ℕ → ℕ) (t n m : ℕ) (b : Spot) → 0 < n → 0 < m →
    best_in_rows s f t n m b ≡ replaced s b (best_in_rows s f t n m (spot_at f 0 0))
rows_replace s f t n m b h k =
    best_after_unique s f (Start t n m) b (best_in_rows s f t n m b) (replaced s b best) (rows_best s f t n m b) (go (better s best.area b.area) refl)
  where
    best : Spot
    best = best_in_rows s f t n m (spot_at f 0 0)

    go : (t' : Bool) → better s best.area b.area ≡ t' → BestAfter s f (Start t n m) b (replaced s b best)
    go true e = rw (step_better s b best e) (inr (rows_best_of_all s f t n m h k, e))
    go false e =
        rw (step_skip s b best e)
        (inl (refl, λ x y w. no_better_trans s (f x y) best.area b.area ((rows_best_of_all s f t n m h k).none_better x y w) e))

-- where what stood before is no better than the best of all starts, it has that area after the search
pub replaced_area : (s : Sense) (b c : Spot) → NoBetter s b.area c.area → (replaced s b c).area ≡ c.area
replaced_area s b c h = go (better s c.area b.area) refl
  where
    go : (t : Bool) → better s c.area b.area ≡ t → (replaced s b c).area ≡ c.area
    go true e = ap (λ (a : Spot). a.area) (step_better s b c e)
    go false e = ap (λ (a : Spot). a.area) (step_skip s b c e) ∙ better_neither s b.area c.area h e
