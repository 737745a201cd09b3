-- Laws of the one fold that takes an extreme, over the sense. What it finds is characterised by the positions that were looked at: none of
-- them is strictly better, and among equals it has the least y, then the least x. That determines it, so two searches that look at different
-- positions find the same as soon as both are characterised over one set of them.
use Prim.Native.Nat.{ℕ, zero, suc, ◌*◌, ◌≤◌, ◌<◌}
use mathlib.Core.Path.{◌≡◌, refl, sym, ap, ap₂, ◌∙◌}
use mathlib.Core.Bool.{Bool, true, false}
use mathlib.Core.Logic.{◌⊎◌, inl, inr}
use native.Mathlib.Nat.{zero-mul, mul-le-mul_right}
use native.Mathlib.Omega.{arith}
use borrow.Author.Tests.{ltb-true, ltb-false, lt-ltb, le-ltb}
use Rattle.laws.proofs.Tests.{le_or_lt, true_false}
use Rattle.geometry.specs.declared.Spot.{Spot}
use Rattle.geometry.specs.declared.Sense.{Sense}
use Rattle.geometry.specs.declared.Sense.TheVariants.{Greatest, Least}
use Rattle.geometry.specs.Extreme.{better, NoBetter, Bounded, spot_at, replaced, best_in_row, best_in_rows}

-- ---- one step

pub step_better : (s : Sense) (old new : Spot) → better s new.area old.area ≡ true → replaced s old new ≡ new
step_better s old new e = rw (e, replaced)

-- a window that is not strictly better changes nothing
pub step_skip : (s : Sense) (old new : Spot) → better s new.area old.area ≡ false → replaced s old new ≡ old
step_skip s old new e = rw (e, replaced)

-- ---- the order of areas

-- what the test says
pub not_better : (s : Sense) (a b : ℕ) → NoBetter s a b → Bounded s a b
not_better Greatest a b e = ltb-false b a e
not_better Least a b e = ltb-false a b e

pub bounded : (s : Sense) (a b : ℕ) → Bounded s a b → NoBetter s a b
bounded Greatest a b h = le-ltb b a h
bounded Least a b h = le-ltb a b h

-- neither is better: they are the same
pub better_neither : (s : Sense) (a b : ℕ) → better s a b ≡ false → better s b a ≡ false → a ≡ b
better_neither Greatest a b h k = omega (arith, ltb-false b a h, ltb-false a b k)
better_neither Least a b h k = omega (arith, ltb-false a b h, ltb-false b a k)

pub better_self : (s : Sense) (a : ℕ) → better s a a ≡ false
better_self Greatest a = le-ltb a a (omega arith)
better_self Least a = le-ltb a a (omega arith)

pub better_trans : (s : Sense) (a b c : ℕ) → better s a b ≡ true → better s b c ≡ true → better s a c ≡ true
better_trans Greatest a b c h k = lt-ltb c a (omega (arith, ltb-true b a h, ltb-true c b k))
better_trans Least a b c h k = lt-ltb a c (omega (arith, ltb-true a b h, ltb-true b c k))

-- a is not better than b, and c is: so c is better than a
pub better_between : (s : Sense) (a b c : ℕ) → better s a b ≡ false → better s c b ≡ true → better s c a ≡ true
better_between Greatest a b c h k = lt-ltb a c (omega (arith, ltb-false b a h, ltb-true b c k))
better_between Least a b c h k = lt-ltb c a (omega (arith, ltb-false a b h, ltb-true c b k))

-- c is better than a and not than b: so a is not better than b
better_below : (s : Sense) (a b c : ℕ) → better s c a ≡ true → better s c b ≡ false → better s a b ≡ false
better_below Greatest a b c h k = le-ltb b a (omega (arith, ltb-true a c h, ltb-false b c k))
better_below Least a b c h k = le-ltb a b (omega (arith, ltb-true c a h, ltb-false c b k))

-- the better of two is not the worse
pub better_not : (s : Sense) (a b : ℕ) → better s a b ≡ true → better s b a ≡ false
better_not Greatest a b h = le-ltb a b (omega (arith, ltb-true b a h))
better_not Least a b h = le-ltb b a (omega (arith, ltb-true a b h))

-- ---- the order of positions: least y, then least x

abbrev pub NoLater : (x y x' y' : ℕ) → Type 0
NoLater x y x' y' = (y < y') ⊎ ((y ≡ y') × (x ≤ x'))

pub no_later_trans : (x y x' y' x'' y'' : ℕ) → NoLater x y x' y' → NoLater x' y' x'' y'' → NoLater x y x'' y''
no_later_trans x y x' y' x'' y'' (inl h) (inl k) = inl (omega arith)
no_later_trans x y x' y' x'' y'' (inl h) (inr k) = inl (omega (arith, k.0))
no_later_trans x y x' y' x'' y'' (inr h) (inl k) = inl (omega (arith, h.0))
no_later_trans x y x' y' x'' y'' (inr h) (inr k) = inr (h.0 ∙ k.0, omega (arith, h.1, k.1))

-- two positions are one
record SamePlace (x y x' y' : ℕ) : Type 0 where
  x_same : x ≡ x'
  y_same : y ≡ y'

no_later_both : (x y x' y' : ℕ) → NoLater x y x' y' → NoLater x' y' x y → SamePlace x y x' y'
no_later_both x y x' y' (inl h) (inl k) = absurd (omega arith)
no_later_both x y x' y' (inl h) (inr k) = absurd (omega (arith, k.0))
no_later_both x y x' y' (inr h) (inl k) = absurd (omega (arith, h.0))
no_later_both x y x' y' (inr h) (inr k) = record { x_same = omega (arith, h.1, k.1); y_same = h.0 }

-- ---- what a search finds

-- the best of the positions that were looked at: `seen x y`
pub record IsBest (s : Sense) (f : ℕ → ℕ → ℕ) (seen : ℕ → ℕ → Type 0) (r : Spot) : Type 0 where
  pub was_seen : seen r.x r.y
  pub area_is : r.area ≡ f r.x r.y
  pub none_better : (x y : ℕ) → seen x y → NoBetter s (f x y) r.area
  pub first : (x y : ℕ) → seen x y → f x y ≡ r.area → NoLater r.x r.y x y

-- the same where b stood before: b still stands if no position is strictly better
abbrev pub BestAfter : Sense → (ℕ → ℕ → ℕ) → (ℕ → ℕ → Type 0) → Spot → Spot → Type 0
BestAfter s f seen b r =
    ((r ≡ b) × ((x y : ℕ) → seen x y → better s (f x y) b.area ≡ false)) ⊎ (IsBest s f seen r × (better s r.area b.area ≡ true))

-- ---- it is determined

spot_same : (r r' : Spot) → r.area ≡ r'.area → r.x ≡ r'.x → r.y ≡ r'.y → r ≡ r'
spot_same r r' p q w = λ i. record { area = p i; x = q i; y = w i }

-- each of two results is no better than the other
no_better_result : (s : Sense) (f : ℕ → ℕ → ℕ) (seen : ℕ → ℕ → Type 0) (r r' : Spot) → IsBest s f seen r → IsBest s f seen r' →
    better s r.area r'.area ≡ false
no_better_result s f seen r r' h k = ap (λ (a : ℕ). better s a r'.area) h.area_is ∙ k.none_better r.x r.y h.was_seen

pub best_unique : (s : Sense) (f : ℕ → ℕ → ℕ) (seen : ℕ → ℕ → Type 0) (r r' : Spot) → IsBest s f seen r → IsBest s f seen r' → r ≡ r'
best_unique s f seen r r' h k =
    let e = better_neither s r.area r'.area (no_better_result s f seen r r' h k) (no_better_result s f seen r' r k h) in
    let p =
    no_later_both r.x r.y r'.x r'.y
    (h.first r'.x r'.y k.was_seen (sym k.area_is ∙ sym e))
    (k.first r.x r.y h.was_seen (sym h.area_is ∙ e)) in
    spot_same r r' e p.x_same p.y_same

-- what stood before cannot stand where a better position was looked at
stood_or_better : (s : Sense) (f : ℕ → ℕ → ℕ) (seen : ℕ → ℕ → Type 0) (b r : Spot) → ((x y : ℕ) → seen x y → better s (f x y) b.area ≡ false) →
    IsBest s f seen r → better s r.area b.area ≡ true → ⊥
stood_or_better s f seen b r none h e =
    true_false (better s r.area b.area) e
    (ap (λ (a : ℕ). better s a b.area) h.area_is ∙ none r.x r.y h.was_seen)

pub best_after_unique : (s : Sense) (f : ℕ → ℕ → ℕ) (seen : ℕ → ℕ → Type 0) (b r r' : Spot) → BestAfter s f seen b r → BestAfter s f seen b r' → r ≡ r'
best_after_unique s f seen b r r' (inl h) (inl k) = h.0 ∙ sym k.0
best_after_unique s f seen b r r' (inl h) (inr k) = absurd (stood_or_better s f seen b r' h.1 k.0 k.1)
best_after_unique s f seen b r r' (inr h) (inl k) = absurd (stood_or_better s f seen b r k.1 h.0 h.1)
best_after_unique s f seen b r r' (inr h) (inr k) = best_unique s f seen r r' h.0 k.0

-- the result is no worse than what stood before, and than every position that was looked at
pub after_no_worse : (s : Sense) (f : ℕ → ℕ → ℕ) (seen : ℕ → ℕ → Type 0) (b r : Spot) → BestAfter s f seen b r → better s b.area r.area ≡ false
after_no_worse s f seen b r (inl h) = rw h.0 (better_self s b.area)
after_no_worse s f seen b r (inr h) = better_not s r.area b.area h.1

pub after_none_better : (s : Sense) (f : ℕ → ℕ → ℕ) (seen : ℕ → ℕ → Type 0) (b r : Spot) → BestAfter s f seen b r → (x y : ℕ) → seen x y →
    better s (f x y) r.area ≡ false
after_none_better s f seen b r (inl h) x y w = rw h.0 (h.1 x y w)
after_none_better s f seen b r (inr h) x y w = h.0.none_better x y w

-- ---- a search that looks at fewer positions

-- a position is dispensable if one that is looked at is better, or is as good and no later
abbrev pub Dispensable : Sense → (ℕ → ℕ → ℕ) → (ℕ → ℕ → Type 0) → ℕ → ℕ → Type 0
Dispensable s f seen x y =
    (x' : ℕ) × (y' : ℕ) × seen x' y' × ((better s (f x' y') (f x y) ≡ true) ⊎ ((f x' y' ≡ f x y) × NoLater x' y' x y))

-- where each position is dispensable by those that were looked at, their best is the best of all
pub best_of_fewer : (s : Sense) (f : ℕ → ℕ → ℕ) (few all : ℕ → ℕ → Type 0) (r : Spot) → ((x y : ℕ) → few x y → all x y) →
    ((x y : ℕ) → all x y → Dispensable s f few x y) → IsBest s f few r → IsBest s f all r
best_of_fewer s f few all r sub d h =
    record {
      was_seen = sub r.x r.y h.was_seen;
      area_is = h.area_is;
      none_better = λ x y a. none x y (d x y a);
      first = λ x y a e. early x y e (d x y a);
    }
  where
    none : (x y : ℕ) → Dispensable s f few x y → better s (f x y) r.area ≡ false
    none x y (x', y', w, inl k) = better_below s (f x y) r.area (f x' y') k (h.none_better x' y' w)
    none x y (x', y', w, inr k) = ap (λ (a : ℕ). better s a r.area) (sym k.0) ∙ h.none_better x' y' w

    early : (x y : ℕ) → f x y ≡ r.area → Dispensable s f few x y → NoLater r.x r.y x y
    early x y e (x', y', w, inl k) =
        absurd
        (true_false (better s (f x' y') r.area) (ap (λ (a : ℕ). better s (f x' y') a) (sym e) ∙ k) (h.none_better x' y' w))
    early x y e (x', y', w, inr k) = no_later_trans r.x r.y x' y' x y (h.first x' y' w (k.0 ∙ e)) k.1

-- the same positions in other words
pub best_same : (s : Sense) (f : ℕ → ℕ → ℕ) (seen seen' : ℕ → ℕ → Type 0) (r : Spot) → ((x y : ℕ) → seen x y → seen' x y) →
    ((x y : ℕ) → seen' x y → seen x y) → IsBest s f seen r → IsBest s f seen' r
best_same s f seen seen' r to from h =
    record {
      was_seen = to r.x r.y h.was_seen;
      area_is = h.area_is;
      none_better = λ x y w. h.none_better x y (from x y w);
      first = λ x y w. h.first x y (from x y w);
    }

pub best_after_same : (s : Sense) (f : ℕ → ℕ → ℕ) (seen seen' : ℕ → ℕ → Type 0) (b r : Spot) → ((x y : ℕ) → seen x y → seen' x y) →
    ((x y : ℕ) → seen' x y → seen x y) → BestAfter s f seen b r → BestAfter s f seen' b r
best_after_same s f seen seen' b r to from (inl h) = inl (h.0, λ x y w. h.1 x y (from x y w))
best_after_same s f seen seen' b r to from (inr h) = inr (best_same s f seen seen' r to from h.0, h.1)

-- ---- the fold finds it

-- nothing was looked at
pub best_none : (s : Sense) (f : ℕ → ℕ → ℕ) (seen : ℕ → ℕ → Type 0) (b : Spot) → ((x y : ℕ) → seen x y → ⊥) → BestAfter s f seen b b
best_none s f seen b e = inl (refl, λ x y w. absurd (e x y w))

-- one position more, no earlier than those before it
module _ (s : Sense) (f : ℕ → ℕ → ℕ) (seen : ℕ → ℕ → Type 0) (b r : Spot) (x y : ℕ) (order : (x' y' : ℕ) → seen x' y' → NoLater x' y' x y) where
  abbrev pub OrHere : ℕ → ℕ → Type 0
  OrHere x' y' = seen x' y' ⊎ ((x' ≡ x) × (y' ≡ y))

  stays : better s (f x y) r.area ≡ false → IsBest s f seen r → IsBest s f OrHere r
  stays e h =
      record {
        was_seen = inl h.was_seen;
        area_is = h.area_is;
        none_better = none;
        first = early;
      }
    where
      none : (x' y' : ℕ) → OrHere x' y' → better s (f x' y') r.area ≡ false
      none x' y' (inl w) = h.none_better x' y' w
      none x' y' (inr q) = ap₂ (λ (u v : ℕ). better s (f u v) r.area) q.0 q.1 ∙ e

      early : (x' y' : ℕ) → OrHere x' y' → f x' y' ≡ r.area → NoLater r.x r.y x' y'
      early x' y' (inl w) p = h.first x' y' w p
      early x' y' (inr q) p = rw (q.0, q.1) (order r.x r.y h.was_seen)

  -- the new position is better than all before it
  comes : ((x' y' : ℕ) → seen x' y' → better s (f x y) (f x' y') ≡ true) → IsBest s f OrHere (spot_at f x y)
  comes above =
      record {
        was_seen = inr (refl, refl);
        area_is = refl;
        none_better = none;
        first = early;
      }
    where
      none : (x' y' : ℕ) → OrHere x' y' → better s (f x' y') (f x y) ≡ false
      none x' y' (inl w) = better_not s (f x y) (f x' y') (above x' y' w)
      none x' y' (inr q) = ap₂ (λ (u v : ℕ). better s (f u v) (f x y)) q.0 q.1 ∙ better_self s (f x y)

      early : (x' y' : ℕ) → OrHere x' y' → f x' y' ≡ f x y → NoLater x y x' y'
      early x' y' (inl w) p =
          absurd (true_false (better s (f x y) (f x' y')) (above x' y' w) (ap (λ (a : ℕ). better s (f x y) a) p ∙ better_self s (f x y)))
      early x' y' (inr q) p = inr (sym q.1, omega (arith, q.0))

  pub best_step : BestAfter s f seen b r → BestAfter s f OrHere b (replaced s r (spot_at f x y))
  best_step h = go (better s (f x y) r.area) refl h
    where
      go : (t : Bool) → better s (f x y) r.area ≡ t → BestAfter s f seen b r → BestAfter s f OrHere b (replaced s r (spot_at f x y))
      go true e (inl h) =
          rw (step_better s r (spot_at f x y) e)
          (inr (
            comes (λ x' y' w. better_between s (f x' y') b.area (f x y) (h.1 x' y' w) (over_b h)),
            over_b h,
          ))
        where
          over_b : (r ≡ b) × ((x y : ℕ) → seen x y → better s (f x y) b.area ≡ false) → better s (f x y) b.area ≡ true
          over_b h = ap (λ (q : Spot). better s (f x y) q.area) (sym h.0) ∙ e
      go true e (inr h) =
          rw (step_better s r (spot_at f x y) e)
          (inr (
            comes (λ x' y' w. better_between s (f x' y') r.area (f x y) (h.0.none_better x' y' w) e),
            better_trans s (f x y) r.area b.area e h.1,
          ))
      go false e (inl h) = rw (step_skip s r (spot_at f x y) e) (inl (h.0, none))
        where
          none : (x' y' : ℕ) → OrHere x' y' → better s (f x' y') b.area ≡ false
          none x' y' (inl w) = h.1 x' y' w
          none x' y' (inr q) =
              ap₂ (λ (u v : ℕ). better s (f u v) b.area) q.0 q.1 ∙ ap (λ (q : Spot). better s (f x y) q.area) (sym h.0) ∙ e
      go false e (inr h) = rw (step_skip s r (spot_at f x y) e) (inr (stays e h.0, h.1))

-- ---- rows of starts

-- (x, y) is one of the first m rows of n starts each, t apart on both axes
pub record Start (t n m x y : ℕ) : Type 0 where
  pub column : ℕ
  pub row : ℕ
  pub column_in : column < n
  pub row_in : row < m
  pub x_is : x ≡ column * t
  pub y_is : y ≡ row * t

-- the starts of m rows, and k of the row after them
Passed : (t n m k x y : ℕ) → Type 0
Passed t n m k x y = Start t n m x y ⊎ ((i : ℕ) × (i < k) × (x ≡ i * t) × (y ≡ m * t))

passed_order : (t n m k x y : ℕ) → Passed t n m k x y → NoLater x y (k * t) (m * t)
unfolding Passed
passed_order t n m k x y (inl w) = go (le_or_lt (m * t) y)
  where
    below : y ≤ m * t
    below = omega (arith, w.y_is, mul-le-mul_right t w.row_in)

    go : (m * t ≤ y) ⊎ (y < m * t) → NoLater x y (k * t) (m * t)
    go (inl h) = inr (omega (arith, below), omega (arith, w.x_is, ap (λ (u : ℕ). w.column * u) flat))
      where
        flat : t ≡ 0
        flat = omega (arith, h, w.y_is, mul-le-mul_right t w.row_in)
    go (inr h) = inl h
passed_order t n m k x y (inr (i, l, p, q)) = inr (q, omega (arith, p, mul-le-mul_right t l))

-- one start more, and a whole row
passed_next : (t n m k x y : ℕ) → Passed t n m (suc k) x y → Passed t n m k x y ⊎ ((x ≡ k * t) × (y ≡ m * t))
unfolding Passed
passed_next t n m k x y (inl w) = inl (inl w)
passed_next t n m k x y (inr (i, l, p, q)) = go (le_or_lt k i)
  where
    go : (k ≤ i) ⊎ (i < k) → Passed t n m k x y ⊎ ((x ≡ k * t) × (y ≡ m * t))
    go (inl h) = inr (p ∙ ap (λ (u : ℕ). u * t) last, q)
      where
        last : i ≡ k
        last = omega arith
    go (inr h) = inl (inr (i, h, p, q))

passed_back : (t n m k x y : ℕ) → Passed t n m k x y ⊎ ((x ≡ k * t) × (y ≡ m * t)) → Passed t n m (suc k) x y
unfolding Passed
passed_back t n m k x y (inl (inl w)) = inl w
passed_back t n m k x y (inl (inr (i, l, p, q))) = inr (i, omega arith, p, q)
passed_back t n m k x y (inr h) = inr (k, omega arith, h.0, h.1)

row_passed : (t n m x y : ℕ) → Passed t n m n x y → Start t n (suc m) x y
unfolding Passed
row_passed t n m x y (inl w) =
    record { column = w.column; row = w.row; column_in = w.column_in; row_in = omega (arith, w.row_in); x_is = w.x_is; y_is = w.y_is }
row_passed t n m x y (inr (i, l, p, q)) = record { column = i; row = m; column_in = l; row_in = omega arith; x_is = p; y_is = q }

row_back : (t n m x y : ℕ) → Start t n (suc m) x y → Passed t n m n x y
unfolding Passed
row_back t n m x y w = go (le_or_lt m w.row)
  where
    go : (m ≤ w.row) ⊎ (w.row < m) → Start t n m x y ⊎ ((i : ℕ) × (i < n) × (x ≡ i * t) × (y ≡ m * t))
    go (inl h) = inr (w.column, w.column_in, w.x_is, w.y_is ∙ ap (λ (u : ℕ). u * t) last)
      where
        last : w.row ≡ m
        last = omega (arith, w.row_in)
    go (inr h) =
        inl (record { column = w.column; row = w.row; column_in = w.column_in; row_in = h; x_is = w.x_is; y_is = w.y_is })

none_passed : (t n m x y : ℕ) → Passed t n m 0 x y → Start t n m x y
unfolding Passed
none_passed t n m x y (inl w) = w
none_passed t n m x y (inr (i, l, p, q)) = absurd (omega arith)

none_back : (t n m x y : ℕ) → Start t n m x y → Passed t n m 0 x y
unfolding Passed
none_back t n m x y w = inl w

row_best : (s : Sense) (f : ℕ → ℕ → ℕ) (t n m k : ℕ) (b r : Spot) → BestAfter s f (Start t n m) b r →
    BestAfter s f (Passed t n m k) b (best_in_row s f t (m * t) k r)
unfolding best_in_row
row_best s f t n m zero b r h = best_after_same s f (Start t n m) (Passed t n m 0) b r (none_back t n m) (none_passed t n m) h
row_best s f t n m (suc k) b r h =
    best_after_same s f (OrHere s f (Passed t n m k) b (best_in_row s f t (m * t) k r) (k * t) (m * t) (passed_order t n m k)) (Passed t n m (suc k)) b _
    (passed_back t n m k) (passed_next t n m k)
    (best_step s f (Passed t n m k) b (best_in_row s f t (m * t) k r) (k * t) (m * t) (passed_order t n m k) (row_best s f t n m k b r h))

-- the fold over rows of starts, where b stood before
pub rows_best : (s : Sense) (f : ℕ → ℕ → ℕ) (t n m : ℕ) (b : Spot) → BestAfter s f (Start t n m) b (best_in_rows s f t n m b)
unfolding best_in_rows
rows_best s f t n zero b = best_none s f (Start t n zero) b (λ x y w. absurd (omega (arith, w.row_in)))
rows_best s f t n (suc m) b =
    best_after_same s f (Passed t n m n) (Start t n (suc m)) b (best_in_rows s f t n (suc m) b) (row_passed t n m) (row_back t n m)
    (row_best s f t n m n b (best_in_rows s f t n m b) (rows_best s f t n m b))

-- the fold that begins with the first start
pub rows_best_of_all : (s : Sense) (f : ℕ → ℕ → ℕ) (t n m : ℕ) → 0 < n → 0 < m → IsBest s f (Start t n m) (best_in_rows s f t n m (spot_at f 0 0))
rows_best_of_all s f t n m h k = go (best_in_rows s f t n m (spot_at f 0 0)) (rows_best s f t n m (spot_at f 0 0))
  where
    earliest : (x y : ℕ) → NoLater 0 0 x y
    earliest x zero = inr (refl, omega arith)
    earliest x (suc y) = inl (omega arith)

    corner : ((x y : ℕ) → Start t n m x y → better s (f x y) (f 0 0) ≡ false) → IsBest s f (Start t n m) (spot_at f 0 0)
    corner none =
        record {
          was_seen = record { column = 0; row = 0; column_in = h; row_in = k; x_is = sym (zero-mul t); y_is = sym (zero-mul t) };
          area_is = refl;
          none_better = none;
          first = λ x y w e. earliest x y;
        }

    go : (r : Spot) → BestAfter s f (Start t n m) (spot_at f 0 0) r → IsBest s f (Start t n m) r
    go r (inl q) = rw q.0 (corner q.1)
    go r (inr q) = q.0

-- with starts 1 apart, every position is one
pub start_at : (n m x y : ℕ) → x < n → y < m → Start 1 n m x y
start_at n m x y h k = record { column = x; row = y; column_in = h; row_in = k; x_is = omega arith; y_is = omega arith }

pub start_in : (n m x y : ℕ) → Start 1 n m x y → (x < n) × (y < m)
start_in n m x y w = (omega (arith, w.x_is, w.column_in), omega (arith, w.y_is, w.row_in))
