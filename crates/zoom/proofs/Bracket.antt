-- Demand 3 for the quick run: the named window is a position with that area, and the extreme of the exact run lies between the two ends.
-- Both are shown of every level, from level to level the bracket narrows, and a run keeps to the levels allowed.
use Prim.Native.Nat.{ℕ, zero, suc, ◌+◌, ◌*◌, ◌≤◌, ◌<◌}
use mathlib.Core.Path.{◌≡◌, refl, sym, ap, ap₂, ◌∙◌, subst}
use mathlib.Core.Bool.{Bool, true, false}
use mathlib.Core.Logic.{◌⊎◌, inl, inr}
use mathlib.Core.List.{List, []}
use native.Mathlib.Nat.{zero-mul, mul-le-mul_left}
use native.Mathlib.Omega.{arith}
use borrow.Author.Tests.{ltb-false, leb-true, leb-false, le-leb}
use lib.Dec.{leb}
use Rattle.laws.proofs.Tests.{le_or_lt}
use Rattle.geometry.specs.declared.Rect.{Rect}
use Rattle.geometry.specs.declared.Spot.{Spot}
use Rattle.geometry.specs.declared.Sense.{Sense}
use Rattle.geometry.specs.declared.Sense.TheVariants.{Greatest, Least}
use Rattle.geometry.specs.Extreme.{better, spot_at, replaced, NoBetter}
use Rattle.geometry.specs.Count.{sum, one_if}
use Rattle.geometry.specs.Layout.{window_box}
use Rattle.geometry.proofs.Counting.{sum_cong, sum_zero}
use Rattle.geometry.proofs.Overlaps.{nothing_covered}
use Rattle.geometry.proofs.Extremes.{better_self, step_better, step_skip}
use Rattle.geometry.specs.Positions.{window_area}
use Rattle.extremes.specs.Exact.{extreme}
use Rattle.extremes.proofs.Searches.{position, extreme_best}
use Rattle.extremes.proofs.Promises.{extreme_over_all}
use Rattle.zoom.specs.declared.End.TheVariants.{Met}
use Rattle.levels.specs.declared.Level.{Level}
use Rattle.zoom.specs.declared.Quick.{Quick}
use Rattle.zoom.specs.Run.{last_level, level_step, level_at, low_end, high_end, Brackets, Narrows, is_met, after_level, exact_end, run_from, quick_run}
use Rattle.levels.specs.Levels.{starts_on, far_window, far_area, best_start, level_of}
use Rattle.geometry.specs.Sizes.{widest}
use Rattle.levels.specs.Sizes.{LevelSmall}
use Rattle.levels.specs.Grid.{AtStart}
use Rattle.levels.specs.Laws.{no_better_trans, replaced_stays}
use Rattle.levels.proofs.Folds.{replaced_area, rows_are, rows_see}
use Rattle.levels.proofs.LevelWindows.{Placed, start_placed, level_at_start, level_best, level_bounds, far_narrows, placed_small, level_small}
use Rattle.zoom.proofs.Steps.{step_halves, step_positive}
use Rattle.levels.proofs.Starts.{at_start, start_stays}

-- ---- the exact run

extreme_placed : (s : Sense) (rs : List Rect) (n w : ℕ) → Placed rs n w (extreme s rs n w)
extreme_placed s rs n w = let m = extreme_over_all s rs n w in record { area = m.area_is; across = m.position.across; down = m.position.down }

placed_no_better : (s : Sense) (rs : List Rect) (n w : ℕ) (b : Spot) → Placed rs n w b → NoBetter s b.area (extreme s rs n w).area
placed_no_better s rs n w b p = rw p.area ((extreme_best s rs n w).none_better b.x b.y (position n w b.x b.y p.across p.down))

-- ---- a level's bracket

-- the extreme is between the ends, and the window named is real
pub record Bracketing (s : Sense) (rs : List Rect) (n w : ℕ) (v : Level) : Type 0 where
  pub named : Placed rs n w v.named
  pub bracket : Brackets s v (extreme s rs n w).area

brackets : (s : Sense) (v : Level) (m : ℕ) → NoBetter s v.named.area m → NoBetter s m v.limit → Brackets s v m
brackets Greatest v m h k = record { low = ltb-false _ _ h; high = ltb-false _ _ k }
brackets Least v m h k = record { low = ltb-false _ _ k; high = ltb-false _ _ h }

bracketing : (s : Sense) (rs : List Rect) (n w : ℕ) (v : Level) → Placed rs n w v.named → NoBetter s (extreme s rs n w).area v.limit → Bracketing s rs n w v
bracketing s rs n w v p h = record { named = p; bracket = brackets s v (extreme s rs n w).area (placed_no_better s rs n w v.named p) h }

bracketing_of : (s : Sense) (rs : List Rect) (n w t : ℕ) (b : Spot) → 1 ≤ t → w ≤ n → AtStart rs n w t b → Bracketing s rs n w (level_of s rs n w t b)
bracketing_of s rs n w t b p q a =
    bracketing s rs n w (level_of s rs n w t b) (start_placed rs n w t (level_of s rs n w t b).named p (level_at_start s rs n w t b a)) extreme_bounded
  where
    extreme_bounded : NoBetter s (extreme s rs n w).area (level_of s rs n w t b).limit
    extreme_bounded = let m = extreme_placed s rs n w in rw m.area (level_bounds s rs n w t b (extreme s rs n w).x (extreme s rs n w).y p q m.across m.down)

exact_brackets : (s : Sense) (rs : List Rect) (n w j : ℕ) (b : Spot) → Placed rs n w b → Bracketing s rs n w (exact_end s j b (extreme s rs n w)).last
exact_brackets s rs n w j b p = bracketing s rs n w (exact_end s j b m).last (go (better s m.area b.area) refl) (better_self s m.area)
  where
    m : Spot
    m = extreme s rs n w

    go : (t : Bool) → better s m.area b.area ≡ t → Placed rs n w (replaced s b m)
    go true e = rw (step_better s b m e) (extreme_placed s rs n w)
    go false e = rw (step_skip s b m e) p

-- 1000 × |low + high − 2m| ≤ 2 × e × m, in both directions
pub record Accurate (e m low high : ℕ) : Type 0 where
  pub above : 1000 * (low + high) ≤ 2000 * m + 2 * e * m
  pub below : 2000 * m ≤ 1000 * (low + high) + 2 * e * m

accurate : (e m low high : ℕ) → low ≤ m → m ≤ high → 1000 * high ≤ (1000 + 2 * e) * low → Accurate e m low high
accurate e m low high h k l = record { above = omega (arith, part); below = omega (arith, part) }
  where
    part : 2 * e * low ≤ 2 * e * m
    part = mul-le-mul_left (2 * e) h

-- ---- the levels of a run

-- the window that stands is a start of the first level, and of the next level if of this one
pub first_start : (rs : List Rect) (n w : ℕ) → AtStart rs n w (level_step w 0) (spot_at (window_area rs w) 0 0)
first_start rs n w =
    subst (λ (x : ℕ). AtStart rs n w (level_step w 0) (spot_at (window_area rs w) x x)) (zero-mul (level_step w 0))
    (at_start rs n w (level_step w 0) 0 0 (omega arith) (omega arith))

next_start : (rs : List Rect) (n w j : ℕ) (b : Spot) → 1 ≤ w → j < last_level w → AtStart rs n w (level_step w j) b → AtStart rs n w (level_step w (suc j)) b
next_start rs n w j b p h a =
    start_stays rs n w (level_step w (suc j)) b (step_positive w (suc j) p h) (subst (λ (t : ℕ). AtStart rs n w t b) (step_halves w j h) a)

narrows : (s : Sense) (v next : Level) → NoBetter s v.named.area next.named.area → NoBetter s next.limit v.limit → Narrows s v next
narrows Greatest v next h k = record { low = ltb-false _ _ h; high = ltb-false _ _ k }
narrows Least v next h k = record { low = ltb-false _ _ k; high = ltb-false _ _ h }

named_stays : (s : Sense) (rs : List Rect) (n w j : ℕ) → NoBetter s (level_at s rs n w j).named.area (level_at s rs n w (suc j)).named.area
unfolding level_at level_of
named_stays s rs n w j = replaced_stays s (level_at s rs n w j).named _

same_named : (s : Sense) (rs : List Rect) (n w i j : ℕ) → i ≡ j → NoBetter s (level_at s rs n w i).named.area (level_at s rs n w j).named.area
same_named s rs n w i j e = rw e (better_self s (level_at s rs n w j).named.area)

-- the area named is no better in an earlier level
pub named_no_worse : (s : Sense) (rs : List Rect) (n w i j : ℕ) → i ≤ j → NoBetter s (level_at s rs n w i).named.area (level_at s rs n w j).named.area
named_no_worse s rs n w i zero h = same_named s rs n w i 0 (omega arith)
named_no_worse s rs n w i (suc j) h = go (le_or_lt (suc j) i) (named_no_worse s rs n w i j)
  where
    area : ℕ → ℕ
    area j = (level_at s rs n w j).named.area

    go : (suc j ≤ i) ⊎ (i < suc j) → (i ≤ j → NoBetter s (area i) (area j)) → NoBetter s (area i) (area (suc j))
    go (inl k) r = same_named s rs n w i (suc j) (omega arith)
    go (inr k) r = no_better_trans s (area i) (area j) (area (suc j)) (r (omega arith)) (named_stays s rs n w j)

module _ (s : Sense) (rs : List Rect) (n w : ℕ) (p : 1 ≤ w) where
  pub named_start : (j : ℕ) → j ≤ last_level w → AtStart rs n w (level_step w j) (level_at s rs n w j).named
  unfolding level_at
  named_start zero h = level_at_start s rs n w (level_step w 0) _ (first_start rs n w)
  named_start (suc j) h = level_at_start s rs n w (level_step w (suc j)) _ (next_start rs n w j _ p h (named_start j (omega arith)))

  -- what holds of a level that follows a window at one of its starts holds of level j
  each_level : (P : Level → Type 0) (j : ℕ) → j ≤ last_level w →
      ((b : Spot) → 1 ≤ level_step w j → AtStart rs n w (level_step w j) b → P (level_of s rs n w (level_step w j) b)) → P (level_at s rs n w j)
  unfolding level_at
  each_level P zero h f = f (spot_at (window_area rs w) 0 0) (step_positive w 0 p h) (first_start rs n w)
  each_level P (suc j) h f = f (level_at s rs n w j).named (step_positive w (suc j) p h) (next_start rs n w j _ p h (named_start j (omega arith)))

  -- the area of the named window is the best standard area at level j
  pub named_is_best : (j : ℕ) → j ≤ last_level w →
      let t = level_step w j in
      (level_at s rs n w j).named.area ≡ (best_start s (window_area rs w) t (starts_on n w t)).area
  named_is_best j h =
      let t = level_step w j in
      each_level (λ (v : Level). v.named.area ≡ (best_start s (window_area rs w) t (starts_on n w t)).area) j h (λ b q a. level_best s rs n w t b a)

  -- so no start of the level is better
  pub named_over_starts : (j : ℕ) → j ≤ last_level w →
      let t = level_step w j in
      (i k : ℕ) → i < starts_on n w t → k < starts_on n w t → NoBetter s (window_area rs w (i * t) (k * t)) (level_at s rs n w j).named.area
  named_over_starts j h i k hi hk =
      let t = level_step w j in
      rw (named_is_best j h) (rows_see s (window_area rs w) t (starts_on n w t) (starts_on n w t) (spot_at (window_area rs w) 0 0) i k hi hk)

  -- F ≤ M ≤ C, or low ≤ minimum ≤ high
  pub level_brackets : (j : ℕ) → j ≤ last_level w → w ≤ n → Bracketing s rs n w (level_at s rs n w j)
  level_brackets j h l = each_level (Bracketing s rs n w) j h (λ b q a. bracketing_of s rs n w (level_step w j) b q l a)

  -- in the exact level that follows it, the area named is the extreme
  pub exact_named : (j : ℕ) → j ≤ last_level w → w ≤ n →
      (exact_end s j (level_at s rs n w j).named (extreme s rs n w)).last.named.area ≡ (extreme s rs n w).area
  exact_named j h l =
      replaced_area s (level_at s rs n w j).named (extreme s rs n w)
      (placed_no_better s rs n w (level_at s rs n w j).named (level_brackets j h l).named)

  -- from level j to the next the lower end never falls and the upper one never rises
  pub level_narrows : (j : ℕ) → j < last_level w → Narrows s (level_at s rs n w j) (level_at s rs n w (suc j))
  level_narrows j h = narrows s (level_at s rs n w j) (level_at s rs n w (suc j)) (named_stays s rs n w j) limit_no_better
    where
      limit_no_better : NoBetter s (level_at s rs n w (suc j)).limit (level_at s rs n w j).limit
      limit_no_better =
          each_level (λ (v : Level). NoBetter s v.limit (level_at s rs n w j).limit) (suc j) h
          (λ b q _. each_level (λ (v : Level). NoBetter s (level_of s rs n w (level_step w (suc j)) b).limit v.limit) j (omega arith)
          (λ c _ _. subst (λ (t : ℕ). NoBetter s (level_of s rs n w (level_step w (suc j)) b).limit (level_of s rs n w t c).limit) (sym (step_halves w j h))
          (far_narrows s rs n w (level_step w (suc j)) b c q)))

-- ---- the run

-- a run's answer: what holds of every level holds of its last one, and "met" means that the level is met
record RunHolds (P : Level → Type 0) (s : Sense) (e : ℕ) (q : Quick) : Type 0 where
  holds : P q.last
  met : q.end ≡ Met → is_met s e q.last ≡ true

after_level_lem : (P : Level → Type 0) (s : Sense) (e v j : ℕ) (this : Level) (next : Quick) → P this → RunHolds P s e next → RunHolds P s e (after_level s e v j this next)
after_level_lem P s e v j this next b p = go (is_met s e this) refl (leb v (suc j)) refl
  where
    go : (m : Bool) → is_met s e this ≡ m → (d : Bool) → leb v (suc j) ≡ d → RunHolds P s e (after_level s e v j this next)
    go true h d k = rw (h, after_level) (record { holds = b; met = λ _. h })
    go false h true k = rw (h, k, after_level) (record { holds = b; met = λ e. absurd (let z : ◌≡◌ {A = ℕ} 0 1 = cc in omega arith) })
    go false h false k = rw (h, k, after_level) p

module _ (P : Level → Type 0) (s : Sense) (rs : List Rect) (n w e v : ℕ) (each : (j : ℕ) → j ≤ last_level w → P (level_at s rs n w j))
    (exact : (j : ℕ) → j ≤ last_level w → P (exact_end s j (level_at s rs n w j).named (extreme s rs n w)).last) where
  run_ends : (left j : ℕ) → j + left ≡ last_level w → RunHolds P s e (run_from s rs n w e v left j)
  unfolding run_from
  run_ends zero j h =
      after_level_lem P s e v j (level_at s rs n w j) (exact_end s j (level_at s rs n w j).named (extreme s rs n w)) (each j (omega arith))
      (record { holds = exact j (omega arith); met = λ e. absurd (let z : ◌≡◌ {A = ℕ} 0 1 = cc in omega arith) })
  run_ends (suc left) j h =
      after_level_lem P s e v j (level_at s rs n w j) (run_from s rs n w e v left (suc j)) (each j (omega arith)) (run_ends left (suc j) (omega arith))

  quick_run_ends : RunHolds P s e (quick_run s rs n w e v)
  unfolding quick_run
  quick_run_ends = run_ends (last_level w) 0 (omega arith)

-- what the quick run promises
pub record Promised (s : Sense) (rs : List Rect) (n w e : ℕ) (q : Quick) : Type 0 where
  pub ends : Bracketing s rs n w q.last
  pub accurate : q.end ≡ Met → Accurate e (extreme s rs n w).area (low_end s q.last) (high_end s q.last)

pub quick_run_promises : (s : Sense) (rs : List Rect) (n w e v : ℕ) → 1 ≤ w → w ≤ n → Promised s rs n w e (quick_run s rs n w e v)
quick_run_promises s rs n w e v p q =
    let ended =
    quick_run_ends (Bracketing s rs n w) s rs n w e v (λ j h. level_brackets s rs n w p j h q)
    (λ j h. exact_brackets s rs n w j (level_at s rs n w j).named (level_brackets s rs n w p j h q).named) in
    record {
      ends = ended.holds;
      accurate = λ m. accurate e _ _ _ ended.holds.bracket.low ended.holds.bracket.high (leb-true _ _ (ended.met m));
    }

-- a run does at most v levels, the exact search counted as one
levels_after : (s : Sense) (e v j : ℕ) (this : Level) (next : Quick) → j < v → (suc j < v → next.done ≤ v) → (after_level s e v j this next).done ≤ v
levels_after s e v j this next h f = go (is_met s e this) refl (leb v (suc j)) refl
  where
    go : (m : Bool) → is_met s e this ≡ m → (d : Bool) → leb v (suc j) ≡ d → (after_level s e v j this next).done ≤ v
    go true p d q = rw (p, after_level) h
    go false p true q = rw (p, q, after_level) h
    go false p false q = rw (p, q, after_level) (f (leb-false v (suc j) q))

levels_from : (s : Sense) (rs : List Rect) (n w e v left j : ℕ) → j < v → (run_from s rs n w e v left j).done ≤ v
unfolding run_from
levels_from s rs n w e v zero j h = levels_after s e v j (level_at s rs n w j) (exact_end s j (level_at s rs n w j).named (extreme s rs n w)) h (λ k. k)
levels_from s rs n w e v (suc left) j h = levels_after s e v j (level_at s rs n w j) (run_from s rs n w e v left (suc j)) h (λ k. levels_from s rs n w e v left (suc j) k)

pub levels_at_most : (s : Sense) (rs : List Rect) (n w e v : ℕ) → 1 ≤ v → (quick_run s rs n w e v).done ≤ v
unfolding quick_run
levels_at_most s rs n w e v h = levels_from s rs n w e v (last_level w) 0 h

-- ---- a layout with no rectangle

far_nothing : (s : Sense) (n w t x y : ℕ) → far_area s [] n w t x y ≡ 0
far_nothing s n w t x y = nothing_covered (far_window s n w t x y)

best_nothing : (s : Sense) (f : ℕ → ℕ → ℕ) (t k : ℕ) → ((x y : ℕ) → f x y ≡ 0) → (best_start s f t k).area ≡ 0
best_nothing s f t k z = rows_are s f t k k (spot_at f 0 0) (λ (a : Spot). a.area ≡ 0) (z 0 0) (λ i j h l. z (i * t) (j * t))

-- 0 at (0, 0) is named, the limit is 0 and no start is kept
abbrev pub empty_level : Level
empty_level = record { named = record { area = 0; x = 0; y = 0 }; limit = 0; kept = 0 }

level_nothing : (s : Sense) (n w t : ℕ) → level_of s [] n w t (spot_at (window_area [] w) 0 0) ≡ empty_level
unfolding level_of
level_nothing s n w t = λ i. record { named = named i; limit = best_nothing s (far_area s [] n w t) t k (far_nothing s n w t) i; kept = none i }
  where
    k : ℕ
    k = starts_on n w t

    first : Spot
    first = spot_at (window_area [] w) 0 0

    best : Spot
    best = best_start s (window_area [] w) t k

    flat : best.area ≡ 0
    flat = best_nothing s (window_area [] w) t k (λ x y. nothing_covered (window_box w x y))

    corner : first ≡ record { area = 0; x = 0; y = 0 }
    corner = λ i. record { area = nothing_covered (window_box w 0 0) i; x = 0; y = 0 }

    named : replaced s first best ≡ record { area = 0; x = 0; y = 0 }
    named = step_skip s first best (ap₂ (λ (a b : ℕ). better s a b) flat (nothing_covered (window_box w 0 0)) ∙ better_self s 0) ∙ corner

    unkept : (i j : ℕ) → one_if (better s (far_area s [] n w t (i * t) (j * t)) best.area) ≡ 0
    unkept i j = ap₂ (λ (a b : ℕ). one_if (better s a b)) (far_nothing s n w t (i * t) (j * t)) flat ∙ ap one_if (better_self s 0)

    none : sum k (λ j. sum k (λ i. one_if (better s (far_area s [] n w t (i * t) (j * t)) best.area))) ≡ 0
    none = sum_cong k _ _ (λ j h. sum_cong k _ _ (λ i l. unkept i j) ∙ sum_zero k) ∙ sum_zero k

met_at_once : (s : Sense) (rs : List Rect) (n w e v left : ℕ) → is_met s e (level_at s rs n w 0) ≡ true →
    run_from s rs n w e v left 0 ≡ record { end = Met; done = 1; last = level_at s rs n w 0 }
unfolding run_from
met_at_once s rs n w e v zero h = rw (h, after_level) refl
met_at_once s rs n w e v (suc left) h = rw (h, after_level) refl

-- it is met after one level
pub empty_layout : (s : Sense) (n w e v : ℕ) → quick_run s [] n w e v ≡ record { end = Met; done = 1; last = empty_level }
unfolding quick_run level_at
empty_layout s n w e v =
    subst (λ (u : Level). quick_run s [] n w e v ≡ record { end = Met; done = 1; last = u }) level
    (met_at_once s [] n w e v (last_level w) (ap (λ (u : Level). is_met s e u) level ∙ met s))
  where
    level : level_at s [] n w 0 ≡ empty_level
    level = level_nothing s n w (level_step w 0)

    met : (s : Sense) → is_met s e empty_level ≡ true
    met Greatest = le-leb (1000 * 0) ((1000 + 2 * e) * 0) (omega arith)
    met Least = le-leb (1000 * 0) ((1000 + 2 * e) * 0) (omega arith)

-- ---- bounds

pub quick_run_small : (s : Sense) (rs : List Rect) (n w e v : ℕ) → 1 ≤ w → w ≤ n → n ≤ widest → LevelSmall (quick_run s rs n w e v).last
quick_run_small s rs n w e v p q h =
    (quick_run_ends LevelSmall s rs n w e v (λ j l. each_level s rs n w p LevelSmall j l (λ b r a. level_small s rs n w (level_step w j) b h q r a))
    (λ j l. record {
      named = placed_small rs n w (replaced s (level_at s rs n w j).named (extreme s rs n w)) h q
          (exact_brackets s rs n w j (level_at s rs n w j).named (level_brackets s rs n w p j l q).named).named;
      limit = placed_small rs n w (extreme s rs n w) h q (extreme_placed s rs n w);
    })).holds
