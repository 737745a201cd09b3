-- Passing over by flags is harmless: a start whose far window tells no more than one of the level before that was no better than the best window then
-- adds nothing, and the flags of a level say this for the next. And the limit may be sought from the window named on.
use Prim.Native.Nat.{ℕ, zero, suc, ◌+◌, ◌*◌, ◌/◌, ◌≤◌, ◌<◌}
use mathlib.Core.Path.{◌≡◌, refl, sym, ◌∙◌, subst}
use mathlib.Core.Bool.{Bool, true, false, false≢true, not}
use mathlib.Core.Logic.{◌⊎◌, inl, inr}
use mathlib.Core.List.{List}
use native.Mathlib.Nat.{mul-le-mul_right, zero-mul}
use native.Mathlib.Decide.{ℕ_discrete}
use native.Mathlib.Omega.{arith}
use lib.ListN.{length, get_or, set, replicate, length-set, length-replicate, get_or-replicate, get_or-eq_default}
use lib.Seq.{get_or-set_same, get_or-set_other}
use Rattle.laws.proofs.Tests.{le_or_lt, true_false}
use Rattle.geometry.specs.declared.Rect.{Rect}
use Rattle.geometry.specs.declared.Spot.{Spot}
use Rattle.geometry.specs.declared.Sense.{Sense}
use Rattle.geometry.specs.Extreme.{better, spot_at, best_in_rows, NoBetter}
use Rattle.geometry.specs.Positions.{window_area}
use Rattle.levels.specs.Levels.{starts_on, far_area, level_of}
use Rattle.levels.specs.Passing.{flag_of, flags_in_row, flags_in_rows, Harmless}
use Rattle.levels.specs.Laws.{no_better_trans}
use Rattle.levels.proofs.Folds.{rows_see, rows_forget}
use Rattle.levels.specs.Grid.{AtStart}
use Rattle.levels.proofs.Starts.{start_fits, half_start, window_within, far_halves}
use Rattle.levels.proofs.LevelWindows.{level_at_start}

-- ---- what the flags of a level say

flag_says : (s : Sense) (best far : ℕ) → flag_of s best far ≡ true → NoBetter s far best
flag_says s best far h = go (better s far best) h
  where
    go : (b : Bool) → not b ≡ true → b ≡ false
    go true e = absurd (false≢true e)
    go false e = refl

-- a flag that is read was written so
set_says : (l : List Bool) (p : ℕ) (v : Bool) → get_or (set l p v) p false ≡ true → v ≡ true
set_says l p v h = go (le_or_lt (length l) p)
  where
    go : (length l ≤ p) ⊎ (p < length l) → v ≡ true
    go (inl k) = absurd (true_false _ h (get_or-eq_default (set l p v) false {n = p} (omega (arith, length-set l p v))))
    go (inr k) = sym (get_or-set_same l p v false k) ∙ h

row_flags : (s : Sense) (best : ℕ) (far : ℕ → ℕ) (t at k : ℕ) (l : List Bool) (i : ℕ) → i < k → get_or (flags_in_row s best far t at k l) (at + i) false ≡ true →
    NoBetter s (far (i * t)) best
unfolding flags_in_row
row_flags s best far t at zero l i h e = absurd (omega arith)
row_flags s best far t at (suc k) l i h e = go (ℕ_discrete i k) (row_flags s best far t at k l i)
  where
    rest : List Bool
    rest = flags_in_row s best far t at k l

    go : Dec (i ≡ k) → (i < k → get_or rest (at + i) false ≡ true → NoBetter s (far (i * t)) best) → NoBetter s (far (i * t)) best
    go (yes q) r = rw q (flag_says s best (far (k * t)) (set_says rest (at + k) (flag_of s best (far (k * t))) (rw q at e)))
    go (no q) r = r (omega arith) (sym (get_or-set_other rest (at + k) (at + i) (flag_of s best (far (k * t))) false (omega arith)) ∙ e)

-- flags before the row stay
row_leaves : (s : Sense) (best : ℕ) (far : ℕ → ℕ) (t at k : ℕ) (l : List Bool) (p : ℕ) → p < at → get_or (flags_in_row s best far t at k l) p false ≡ get_or l p false
unfolding flags_in_row
row_leaves s best far t at zero l p h = refl
row_leaves s best far t at (suc k) l p h =
    get_or-set_other (flags_in_row s best far t at k l) (at + k) p (flag_of s best (far (k * t))) false (omega arith) ∙ row_leaves s best far t at k l p h

rows_flag : (s : Sense) (best : ℕ) (far : ℕ → ℕ → ℕ) (t k m : ℕ) (l : List Bool) (i j : ℕ) → i < k → j < m →
    get_or (flags_in_rows s best far t k m l) (j * k + i) false ≡ true → NoBetter s (far (i * t) (j * t)) best
unfolding flags_in_rows
rows_flag s best far t k zero l i j h d e = absurd (omega arith)
rows_flag s best far t k (suc m) l i j h d e = go (ℕ_discrete j m) (rows_flag s best far t k m l i j h)
  where
    rest : List Bool
    rest = flags_in_rows s best far t k m l

    go : Dec (j ≡ m) → (j < m → get_or rest (j * k + i) false ≡ true → NoBetter s (far (i * t) (j * t)) best) → NoBetter s (far (i * t) (j * t)) best
    go (yes q) r = rw q (row_flags s best (λ x. far x (m * t)) t (m * k) k rest i h (rw q at e))
    go (no q) r =
        r (omega arith)
        (sym (row_leaves s best (λ x. far x (m * t)) t (m * k) k rest (j * k + i) (omega (arith, mul-le-mul_right {m = suc j} {n = m} k (omega arith)))) ∙ e)

-- ---- it is harmless to pass over what the flags say

pub harmless_first : (s : Sense) (rs : List Rect) (n w t stride size best : ℕ) → Harmless s rs n w t (replicate size false) stride best
harmless_first s rs n w t stride size best j k i h e = absurd (go (le_or_lt size (j / 2 * stride + i / 2)))
  where
    go : (size ≤ j / 2 * stride + i / 2) ⊎ (j / 2 * stride + i / 2 < size) → ⊥
    go (inl l) =
        true_false _ e (get_or-eq_default (replicate size false) false {n = j / 2 * stride + i / 2} (omega (arith, length-replicate {A = Bool} size false)))
    go (inr l) = true_false _ e (get_or-replicate size (j / 2 * stride + i / 2) false false l)

pub harmless_next : (s : Sense) (rs : List Rect) (n w t best : ℕ) (l : List Bool) → 1 ≤ t →
    Harmless s rs n w t
    (flags_in_rows s best (far_area s rs n w (2 * t)) (2 * t) (starts_on n w (2 * t)) (starts_on n w (2 * t)) l)
    (starts_on n w (2 * t)) best
harmless_next s rs n w t best l p j k i h e =
    no_better_trans s (far_area s rs n w t (i * t) (j * t)) (far_area s rs n w (2 * t) (i / 2 * (2 * t)) (j / 2 * (2 * t))) best
    (far_halves s rs n w t i j)
    (rows_flag s best (far_area s rs n w (2 * t)) (2 * t) (starts_on n w (2 * t)) (starts_on n w (2 * t)) l (i / 2) (j / 2)
    (half_start n w t i p h) (half_start n w t j p k) e)

-- the standard window of a start has no better an area than its far one
pub standard_no_better : (s : Sense) (rs : List Rect) (n w t i j best : ℕ) → 1 ≤ t → w ≤ n → i < starts_on n w t → j < starts_on n w t →
    NoBetter s (far_area s rs n w t (i * t) (j * t)) best → NoBetter s (window_area rs w (i * t) (j * t)) best
standard_no_better s rs n w t i j best p q h k b =
    no_better_trans s (window_area rs w (i * t) (j * t)) (far_area s rs n w t (i * t) (j * t)) best
    (window_within s rs n w t (i * t) (j * t) (i * t) (j * t) (omega (arith, start_fits n w t i p h)) (omega (arith, start_fits n w t j p k))
    (omega arith) (omega arith) (omega arith) (omega arith))
    b

-- the limit may be sought from the area named on: the best window is no better than the far window of its own start
pub far_from_best : (s : Sense) (rs : List Rect) (n w t : ℕ) (b : Spot) → 1 ≤ t → w ≤ n → AtStart rs n w t b →
    (best_in_rows s (far_area s rs n w t) t (starts_on n w t) (starts_on n w t) (level_of s rs n w t b).named).area ≡ (level_of s rs n w t b).limit
unfolding level_of
far_from_best s rs n w t b p q a =
    rows_forget s far t k k (level_of s rs n w t b).named (spot_at far 0 0) (seen (level_at_start s rs n w t b a))
    (rw (zero-mul t) at (rows_see s far t k k (level_of s rs n w t b).named 0 0 (omega arith) (omega arith)))
  where
    k : ℕ
    k = starts_on n w t

    far : ℕ → ℕ → ℕ
    far = far_area s rs n w t

    seen : {c : Spot} → AtStart rs n w t c → NoBetter s c.area (best_in_rows s far t k k (spot_at far 0 0)).area
    seen {c} m =
        subst (λ (d : Spot). NoBetter s d.area (best_in_rows s far t k k (spot_at far 0 0)).area) (sym m.is)
        (standard_no_better s rs n w t m.column m.row (best_in_rows s far t k k (spot_at far 0 0)).area p q m.across m.down
        (rows_see s far t k k (spot_at far 0 0) m.column m.row m.across m.down))
