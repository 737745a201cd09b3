-- A level by its two passes.
use Prim.Native.Nat.{ℕ, zero, suc, ◌+◌, ◌*◌}
use mathlib.Core.Path.{◌≡◌, refl, sym, ap, ap₂, ◌∙◌, subst}
use mathlib.Core.Bool.{Bool}
use mathlib.Core.List.{List}
use native.Mathlib.Nat.{zero-add}
use native.Mathlib.Omega.{arith}
use lib.ListN.{set}
use Rattle.geometry.specs.declared.Rect.{Rect}
use Rattle.geometry.specs.declared.Spot.{Spot}
use Rattle.geometry.specs.declared.Sense.{Sense}
use Rattle.geometry.specs.Count.{sum, one_if}
use Rattle.geometry.specs.Extreme.{better, spot_at, best_in_row, best_in_rows, NoBetter}
use Rattle.geometry.specs.Positions.{window_area}
use Rattle.levels.specs.declared.Level.{Level}
use Rattle.levels.specs.declared.grid.Grid.{Grid}
use Rattle.levels.specs.Levels.{starts_on, far_area, level_of}
use Rattle.levels.specs.Grid.{AtStart}
use Rattle.levels.specs.Passing.{flag_of, flags_in_row, flags_in_rows, Harmless}
use Rattle.levels.specs.Weighing.{better_area}
use Rattle.levels.specs.Passes.{named_at, weighed_at, row_seen, rows_seen}
use Rattle.levels.specs.Laws.{no_better_trans}
use Rattle.levels.proofs.Folds.{area_better, rows_cong, rows_stay}
use Rattle.levels.proofs.LevelWindows.{level_searches, level_best}
use Rattle.levels.proofs.Starts.{standard_is_far}
use Rattle.levels.proofs.Flagging.{far_from_best}
use Rattle.levels.proofs.PassLoops.{start_inside}

-- ---- the first pass

named_row : (s : Sense) (f : ℕ → ℕ → ℕ) (t y at k : ℕ) (z : Spot × List Bool) → row_seen (named_at s) f t y at k z ≡ (best_in_row s f t y k z.0, z.1)
unfolding row_seen best_in_row
named_row s f t y at zero z = refl
named_row s f t y at (suc k) z = ap (λ (u : Spot × List Bool). named_at s u (at + k) (spot_at f (k * t) y)) (named_row s f t y at k z)

named_rows : (s : Sense) (f : ℕ → ℕ → ℕ) (t k m : ℕ) (z : Spot × List Bool) → rows_seen (named_at s) f t k m z ≡ (best_in_rows s f t k m z.0, z.1)
unfolding rows_seen best_in_rows
named_rows s f t k zero z = refl
named_rows s f t k (suc m) z =
    ap (row_seen (named_at s) f t (m * t) (m * k) k) (named_rows s f t k m z) ∙ named_row s f t (m * t) (m * k) k (best_in_rows s f t k m z.0, z.1)

-- it names the best standard window, and leaves the flags as they were
module _ (rs : List Rect) (g : Grid) (before named : Spot) (new new' : List Bool)
    (first : (named, new') ≡ rows_seen (named_at g.sense) (far_area g.sense rs g.size g.window 0) g.step g.starts g.starts (before, new)) where
  pub first_names : named ≡ best_in_rows g.sense (window_area rs g.window) g.step g.starts g.starts before
  first_names =
      ap (λ (u : Spot × List Bool). u.0) (first ∙ named_rows g.sense (far_area g.sense rs g.size g.window 0) g.step g.starts g.starts (before, new))
      ∙ rows_cong g.sense _ _ g.step g.starts g.starts before
      (λ i j h k. sym (standard_is_far g.sense rs g.size g.window (i * g.step) (j * g.step) (start_inside g i h) (start_inside g j k)))

  pub first_leaves : new' ≡ new
  first_leaves =
      ap (λ (u : Spot × List Bool). u.1) (first ∙ named_rows g.sense (far_area g.sense rs g.size g.window 0) g.step g.starts g.starts (before, new))

-- what is harmless against the window before is harmless against the level's best
pub harmless_on : (s : Sense) (rs : List Rect) (g : Grid) (flags : List Bool) (stride : ℕ) (before best : Spot) →
    best ≡ best_in_rows s (window_area rs g.window) g.step g.starts g.starts before → Harmless s rs g.size g.window g.step flags stride before.area →
    Harmless s rs g.size g.window g.step flags stride best.area
harmless_on s rs g flags stride before best e p j k i h q =
    no_better_trans s (far_area s rs g.size g.window g.step (i * g.step) (j * g.step)) before.area best.area (p j k i h q)
    (subst (λ (b : Spot). NoBetter s before.area b.area) (sym e) (rows_stay s (window_area rs g.window) g.step g.starts g.starts before))

-- ---- the second pass

-- it leaves the window, its limit is the best far area, it counts the starts whose far area is better, and it writes the flags
module _ (s : Sense) (f : ℕ → ℕ → ℕ) (t : ℕ) where
  row_named : (y at k : ℕ) (z : Level × List Bool) → (row_seen (weighed_at s) f t y at k z).0.named ≡ z.0.named
  unfolding row_seen
  row_named y at zero z = refl
  row_named y at (suc k) z = row_named y at k z

  row_limit : (y at k : ℕ) (z : Level × List Bool) (b : Spot) → z.0.limit ≡ b.area → (row_seen (weighed_at s) f t y at k z).0.limit ≡ (best_in_row s f t y k b).area
  unfolding row_seen best_in_row
  row_limit y at zero z b e = e
  row_limit y at (suc k) z b e =
      ap (λ (l : ℕ). better_area s l (f (k * t) y)) (row_limit y at k z b e) ∙ area_better s (best_in_row s f t y k b) (spot_at f (k * t) y)

  row_kept : (y at k : ℕ) (z : Level × List Bool) →
      (row_seen (weighed_at s) f t y at k z).0.kept ≡ z.0.kept + sum k (λ i. one_if (better s (f (i * t) y) z.0.named.area))
  unfolding row_seen sum
  row_kept y at zero z = omega arith
  row_kept y at (suc k) z = omega (arith, row_kept y at k z, ap (λ (b : Spot). one_if (better s (f (k * t) y) b.area)) (row_named y at k z))

  row_flags : (y at k : ℕ) (z : Level × List Bool) →
      (row_seen (weighed_at s) f t y at k z).1 ≡ flags_in_row s z.0.named.area (λ x. f x y) t at k z.1
  unfolding row_seen flags_in_row
  row_flags y at zero z = refl
  row_flags y at (suc k) z =
      ap₂ (λ (l : List Bool) (b : Spot). set l (at + k) (flag_of s b.area (f (k * t) y))) (row_flags y at k z) (row_named y at k z)

  rows_named : (k m : ℕ) (z : Level × List Bool) → (rows_seen (weighed_at s) f t k m z).0.named ≡ z.0.named
  unfolding rows_seen
  rows_named k zero z = refl
  rows_named k (suc m) z = row_named (m * t) (m * k) k (rows_seen (weighed_at s) f t k m z) ∙ rows_named k m z

  rows_limit : (k m : ℕ) (z : Level × List Bool) (b : Spot) → z.0.limit ≡ b.area → (rows_seen (weighed_at s) f t k m z).0.limit ≡ (best_in_rows s f t k m b).area
  unfolding rows_seen best_in_rows
  rows_limit k zero z b e = e
  rows_limit k (suc m) z b e = row_limit (m * t) (m * k) k (rows_seen (weighed_at s) f t k m z) (best_in_rows s f t k m b) (rows_limit k m z b e)

  rows_kept : (k m : ℕ) (z : Level × List Bool) →
      (rows_seen (weighed_at s) f t k m z).0.kept ≡ z.0.kept + sum m (λ j. sum k (λ i. one_if (better s (f (i * t) (j * t)) z.0.named.area)))
  unfolding rows_seen sum
  rows_kept k zero z = omega arith
  rows_kept k (suc m) z =
      omega (
        arith,
        row_kept (m * t) (m * k) k (rows_seen (weighed_at s) f t k m z),
        rows_kept k m z,
        ap (λ (b : Spot). sum k (λ i. one_if (better s (f (i * t) (m * t)) b.area))) (rows_named k m z),
      )

  rows_flags : (k m : ℕ) (z : Level × List Bool) → (rows_seen (weighed_at s) f t k m z).1 ≡ flags_in_rows s z.0.named.area f t k m z.1
  unfolding rows_seen flags_in_rows
  rows_flags k zero z = refl
  rows_flags k (suc m) z =
      row_flags (m * t) (m * k) k (rows_seen (weighed_at s) f t k m z)
      ∙ ap₂ (λ (l : List Bool) (b : Spot). flags_in_row s b.area (λ x. f x (m * t)) t (m * k) k l) (rows_flags k m z) (rows_named k m z)

-- ---- a level

-- what a level answers and leaves in the table of flags
pub record LevelDone (s : Sense) (rs : List Rect) (n w t : ℕ) (before : Spot) (this : Level) (new new' : List Bool) : Type 0 where
  pub answer : this ≡ level_of s rs n w t before
  pub flags : new' ≡ flags_in_rows s this.named.area (far_area s rs n w t) t (starts_on n w t) (starts_on n w t) new

pub level_done : (s : Sense) (rs : List Rect) (g : Grid) (before best : Spot) (this : Level) (new new' : List Bool) → AtStart rs g.size g.window g.step before →
    best ≡ best_in_rows s (window_area rs g.window) g.step g.starts g.starts before →
    (this, new') ≡ rows_seen (weighed_at s) (far_area s rs g.size g.window g.step) g.step g.starts g.starts (record { named = best; limit = best.area; kept = 0 }, new) →
    LevelDone s rs g.size g.window g.step before this new new'
unfolding level_of
level_done s rs g before best this new new' a e r =
    record {
      answer = λ i. record { named = (stays ∙ best_is) i; limit = limit_is i; kept = kept_is i };
      flags =
          ap (λ (u : Level × List Bool). u.1) r ∙ rows_flags s far g.step g.starts g.starts (first best, new)
          ∙ ap₂ (λ (b : Spot) (k : ℕ). flags_in_rows s b.area far g.step k k new) (sym stays) g.count;
    }
  where
    far : ℕ → ℕ → ℕ
    far = far_area s rs g.size g.window g.step

    level : Level
    level = level_of s rs g.size g.window g.step before

    first : Spot → Level
    first b = record { named = b; limit = b.area; kept = 0 }

    stays : this.named ≡ best
    stays = ap (λ (u : Level × List Bool). u.0.named) r ∙ rows_named s far g.step g.starts g.starts (first best, new)

    best_is : best ≡ level.named
    best_is =
        subst (λ (k : ℕ). best ≡ best_in_rows s (window_area rs g.window) g.step k k before) g.count e ∙ sym (level_searches s rs g.size g.window g.step before)

    counted : this ≡ (rows_seen (weighed_at s) far g.step (starts_on g.size g.window g.step) (starts_on g.size g.window g.step) (first level.named, new)).0
    counted = ap (λ (u : Level × List Bool). u.0) (r ∙ ap₂ (λ (b : Spot) (k : ℕ). rows_seen (weighed_at s) far g.step k k (first b, new)) best_is g.count)

    limit_is : this.limit ≡ level.limit
    limit_is =
        ap (λ (v : Level). v.limit) counted ∙ rows_limit s far g.step _ _ (first level.named, new) level.named refl
        ∙ far_from_best s rs g.size g.window g.step before g.some_step g.inside a

    kept_against : ℕ → ℕ
    kept_against f =
        let k = starts_on g.size g.window g.step in
        sum k (λ j. sum k (λ i. one_if (better s (far (i * g.step) (j * g.step)) f)))

    kept_is : this.kept ≡ level.kept
    kept_is =
        ap (λ (v : Level). v.kept) counted ∙ rows_kept s far g.step _ _ (first level.named, new) ∙ zero-add _
        ∙ ap kept_against (level_best s rs g.size g.window g.step before a)
