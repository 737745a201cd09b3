-- The run, level by level.
use Prim.Native.Nat.{ℕ, suc, ◌+◌, ◌-◌, ◌*◌, ◌/◌, ◌≤◌, ◌<◌, min}
use mathlib.Core.Path.{◌≡◌, sym, ap, ap₂, ◌∙◌, subst}
use mathlib.Core.Bool.{Bool, true, false}
use mathlib.Core.List.{List, ◌++◌}
use mathlib.Core.Logic.{◌⊎◌, inl, inr}
use native.Mathlib.Nat.{div-one}
use native.Mathlib.Numerals.{add-one}
use native.Mathlib.Omega.{arith}
use lib.Arith.{digits_lt}
use lib.ListN.{length, get_or, take, drop, replicate, length-replicate, get_or-append, get_or-eq_default}
use lib.Seq.{length-take-le, get_or-take}
use Rattle.laws.proofs.Tests.{le_or_lt, true_false}
use Rattle.geometry.specs.declared.Rect.{Rect}
use Rattle.geometry.specs.declared.Spot.{Spot}
use Rattle.geometry.specs.declared.Sense.{Sense}
use Rattle.geometry.specs.Extreme.{spot_at}
use Rattle.geometry.specs.Positions.{window_area}
use Rattle.extremes.specs.Exact.{extreme}
use Rattle.levels.specs.declared.Level.{Level}
use Rattle.levels.specs.declared.grid.Grid.{Grid}
use Rattle.levels.specs.Levels.{starts_on, far_area, level_of}
use Rattle.levels.specs.Sizes.{flags_room, starts_room, LevelSmall}
use Rattle.levels.specs.Grid.{AtStart}
use Rattle.levels.specs.Passing.{Harmless, flags_in_rows}
use Rattle.levels.proofs.PassLoops.{starts_small}
use Rattle.levels.proofs.TwoPasses.{LevelDone}
use Rattle.levels.proofs.Starts.{start_stays, half_start}
use Rattle.levels.proofs.LevelWindows.{level_at_start, level_small}
use Rattle.levels.proofs.Flagging.{harmless_first, harmless_next}
use Rattle.zoom.specs.declared.Quick.{Quick}
use Rattle.zoom.specs.Run.{last_level, level_step, level_at, after_level, exact_end, run_from, quick_run}
use Rattle.zoom.proofs.Steps.{step_next, step_halves}
use Rattle.zoom.proofs.Bracket.{first_start}

-- ---- flags that were copied

-- what is harmless by a level's flags is harmless by as many of them as the level has, or as the table has room for
module _ (s : Sense) (rs : List Rect) (n w t best : ℕ) (from to out : List Bool) (stride k : ℕ) (p : 1 ≤ t) (counted : stride ≡ starts_on n w (2 * t))
    (used : k ≡ min (stride * stride) (length out)) (full : length from ≡ length out) (copy : out ≡ take k from ++ drop k to) where
  flag_copied : (at : ℕ) → at < stride * stride → get_or out at false ≡ true → get_or from at false ≡ true
  flag_copied at inside e = go (le_or_lt k at)
    where
      go : (k ≤ at) ⊎ (at < k) → get_or from at false ≡ true
      go (inl l) = absurd (true_false _ e (get_or-eq_default out false (omega (arith, used))))
      go (inr l) =
          sym (ap (λ (l : List Bool). get_or l at false) copy
          ∙ get_or-append (take k from) (drop k to) false at (omega (arith, length-take-le k from (omega (arith, used, full))))
          ∙ get_or-take k from at false l)
          ∙ e

  harmless_copied : Harmless s rs n w t from stride best → Harmless s rs n w t out stride best
  harmless_copied h j hj i hi e =
      h j hj i hi
      (flag_copied (j / 2 * stride + i / 2) (digits_lt (omega (arith, counted, half_start n w t j p hj)) (omega (arith, counted, half_start n w t i p hi))) e)

-- ---- what holds before each level

pub record RunSoFar (s : Sense) (rs : List Rect) (n w e v : ℕ) (flags : List Bool) (before : Spot) (stride : ℕ) (g : Grid) (j : ℕ) : Type 0 where
  pub whole : run_from s rs n w e v (last_level w - j) j ≡ quick_run s rs n w e v
  pub level : j ≤ last_level w
  pub step : g.step ≡ level_step w j
  pub follows : level_of s rs n w g.step before ≡ level_at s rs n w j
  pub start : AtStart rs n w g.step before
  pub spare : Harmless s rs n w g.step flags stride before.area
  pub size : length flags ≡ flags_room
  pub sense_is : g.sense ≡ s
  pub size_is : g.size ≡ n
  pub window_is : g.window ≡ w
  pub few : stride ≤ starts_room

pub run_begins : (s : Sense) (rs : List Rect) (n w e v : ℕ) (flags : List Bool) (before : Spot) (g : Grid) → before ≡ spot_at (window_area rs w) 0 0 →
    flags ≡ replicate flags_room false → g.sense ≡ s → g.size ≡ n → g.window ≡ w → g.step ≡ w → RunSoFar s rs n w e v flags before 0 g 0
unfolding quick_run level_at
run_begins s rs n w e v flags before g k none sense size window step =
    record {
      whole = ap (λ (l : ℕ). run_from s rs n w e v l 0) left;
      level = omega arith;
      step = first;
      follows = ap₂ (λ (t : ℕ) (b : Spot). level_of s rs n w t b) first k;
      start = rw (k, first) (first_start rs n w);
      spare = rw none (harmless_first s rs n w g.step 0 flags_room before.area);
      size = ap length none ∙ length-replicate {A = Bool} flags_room false;
      sense_is = sense;
      size_is = size;
      window_is = window;
      few = omega arith;
    }
  where
    left : last_level w - 0 ≡ last_level w
    left = omega arith

    first : g.step ≡ level_step w 0
    first = step ∙ sym (div-one w)

module _ {s : Sense} {rs : List Rect} {n w e v : ℕ} {flags : List Bool} {before : Spot} {stride : ℕ} {g : Grid} {j : ℕ} (so_far : RunSoFar s rs n w e v flags before stride g j) where
  -- what the code sees of a level is level j of the run
  pub run_level : level_of g.sense rs g.size g.window g.step before ≡ level_at s rs n w j
  run_level = rw (so_far.sense_is, so_far.size_is, so_far.window_is) so_far.follows

  pub run_start : AtStart rs g.size g.window g.step before
  run_start = rw (so_far.size_is, so_far.window_is) so_far.start

  pub run_spares : Harmless g.sense rs g.size g.window g.step flags stride before.area
  run_spares = rw (so_far.sense_is, so_far.size_is, so_far.window_is) so_far.spare

  -- the numbers of a level fit the tests after it
  pub run_small : (this : Level) → this ≡ level_of g.sense rs g.size g.window g.step before → LevelSmall this
  run_small this h = subst LevelSmall (sym h) (level_small g.sense rs g.size g.window g.step before g.small g.inside g.some_step run_start)

  -- the run from level j on, by what follows level j
  pub run_on : (this : Level) → this ≡ level_of g.sense rs g.size g.window g.step before → j < last_level w →
      after_level s e v j this (run_from s rs n w e v (last_level w - (j + 1)) (j + 1)) ≡ quick_run s rs n w e v
  unfolding run_from
  run_on this h l =
      ap₂ (λ (u : Level) (q : Quick). after_level s e v j u q) (h ∙ run_level)
      (ap (λ (i : ℕ). run_from s rs n w e v (last_level w - (j + 1)) i) (add-one j))
      ∙ ap (λ (k : ℕ). run_from s rs n w e v k j) more ∙ so_far.whole
    where
      more : suc (last_level w - (j + 1)) ≡ last_level w - j
      more = omega arith

  pub run_last : (this : Level) (m : Spot) (z : ℕ) (q : Quick) → this ≡ level_of g.sense rs g.size g.window g.step before → m ≡ extreme s rs n w →
      z ≡ last_level w → z ≤ j → q ≡ exact_end s z this.named m → after_level s e v z this q ≡ quick_run s rs n w e v
  unfolding run_from
  run_last this m z q h k l o r =
      ap (after_level s e v z this) r
      ∙ ap (λ (i : ℕ). after_level s e v i this (exact_end s i this.named m)) same
      ∙ ap₂ (λ (u : Level) (b : Spot). after_level s e v j u (exact_end s j u.named b)) (h ∙ run_level) k
      ∙ ap (λ (i : ℕ). run_from s rs n w e v i j) none ∙ so_far.whole
    where
      same : z ≡ j
      same = omega (arith, so_far.level)

      none : 0 ≡ last_level w - j
      none = omega arith

  module _ (l : j < last_level w) where
    half : g.step / 2 ≡ level_step w (suc j)
    half = ap (λ (u : ℕ). u / 2) so_far.step ∙ sym (step_next w j)

    even : g.step ≡ 2 * (g.step / 2)
    even = omega (arith, so_far.step, step_halves w j l, step_next w j)

    pub some_half : 1 ≤ g.step / 2
    some_half = omega (arith, even, g.some_step)

    counted : g.starts ≡ starts_on n w (2 * (g.step / 2))
    counted = g.count ∙ rw (so_far.size_is, so_far.window_is) (ap (starts_on n w) even)

    pub run_goes_on : (this : Level) (new new' copied : List Bool) (used : ℕ) (next : Grid) →
        LevelDone g.sense rs g.size g.window g.step before this new new' → run_from s rs n w e v (last_level w - (j + 1)) (j + 1) ≡ quick_run s rs n w e v →
        length new' ≡ flags_room → copied ≡ take used new' ++ drop used flags → length copied ≡ flags_room → used ≡ min (g.starts * g.starts) flags_room →
        next.sense ≡ s → next.size ≡ n → next.window ≡ w → next.step ≡ g.step / 2 →
        RunSoFar s rs n w e v copied this.named g.starts next (j + 1)
    unfolding level_at
    run_goes_on this new new' copied used next d whole new_size copy size fits sense_is size_is window_is step_is =
        record {
          whole = whole;
          level = omega arith;
          step = step_is ∙ half ∙ ap (λ (i : ℕ). level_step w i) (sym (add-one j));
          follows =
              ap₂ (λ (u : ℕ) (b : Level). level_of s rs n w u b.named) (step_is ∙ half) (d.answer ∙ run_level) ∙ ap (level_at s rs n w) (sym (add-one j));
          start = rw step_is (start_stays rs n w (g.step / 2) this.named some_half (subst (λ (u : ℕ). AtStart rs n w u this.named) even stands));
          spare =
              rw step_is
              (harmless_copied s rs n w (g.step / 2) this.named.area new' flags copied g.starts used some_half counted
              (fits ∙ ap (min (g.starts * g.starts)) (sym size)) (new_size ∙ sym size) copy (rw counted spare));
          size = size;
          sense_is = sense_is;
          size_is = size_is;
          window_is = window_is;
          few = starts_small g;
        }
      where
        done : LevelDone s rs n w g.step before this new new'
        done = rw (so_far.sense_is, so_far.size_is, so_far.window_is) at d

        stands : AtStart rs n w g.step this.named
        stands = subst (λ (u : Level). AtStart rs n w g.step u.named) (sym done.answer) (level_at_start s rs n w g.step before so_far.start)

        spare : Harmless s rs n w (g.step / 2) new' (starts_on n w (2 * (g.step / 2))) this.named.area
        spare =
            subst (λ (l : List Bool). Harmless s rs n w (g.step / 2) l (starts_on n w (2 * (g.step / 2))) this.named.area) (sym done.flags)
            (subst
            (λ (u : ℕ). Harmless s rs n w (g.step / 2) (flags_in_rows s this.named.area (far_area s rs n w u) u (starts_on n w u) (starts_on n w u) new)
            (starts_on n w (2 * (g.step / 2))) this.named.area)
            (sym even) (harmless_next s rs n w (g.step / 2) this.named.area new some_half))
