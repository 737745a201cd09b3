-- The level that a run ends with; after the exact search both ends are the extreme.
use Prim.Native.Nat.{ℕ, zero, suc, ◌+◌, ◌≤◌}
use mathlib.Core.Path.{◌≡◌, refl, ap}
use mathlib.Core.Bool.{Bool, true, false}
use mathlib.Core.List.{List}
use native.Mathlib.Omega.{arith}
use lib.Dec.{leb}
use Rattle.geometry.specs.declared.Rect.{Rect}
use Rattle.geometry.specs.declared.Sense.{Sense}
use Rattle.extremes.specs.Exact.{extreme}
use Rattle.zoom.specs.declared.End.{End}
use Rattle.zoom.specs.declared.End.TheVariants.{Met, Stopped, Exact}
use Rattle.zoom.specs.declared.Quick.{Quick}
use Rattle.zoom.specs.Run.{last_level, level_at, is_met, after_level, exact_end, run_from, quick_run}
use Rattle.zoom.proofs.Bracket.{exact_named}

pub record EndsAtLevel (s : Sense) (rs : List Rect) (n w : ℕ) (q : Quick) : Type 0 where
  pub some : 1 ≤ q.done
  pub level : (j : ℕ) → q.done ≡ suc j → (q.end ≡ Exact → ⊥) → (j ≤ last_level w) × (q.last ≡ level_at s rs n w j)
  pub exact : q.end ≡ Exact → (q.last.named.area ≡ (extreme s rs n w).area) × (q.last.limit ≡ (extreme s rs n w).area)

module _ (s : Sense) (rs : List Rect) (n w : ℕ) where
  -- the run ends with level j
  ends_with : (j : ℕ) → j ≤ last_level w → (end : End) → (end ≡ Exact → ⊥) → EndsAtLevel s rs n w (record { end = end; done = suc j; last = level_at s rs n w j })
  ends_with j h end other =
      record {
        some = omega arith;
        level = λ i e _. let same : j ≡ i = omega arith in (omega arith, ap (level_at s rs n w) same);
        exact = λ e. absurd (other e);
      }

  after : (e v j : ℕ) → j ≤ last_level w → (next : Quick) → EndsAtLevel s rs n w next → EndsAtLevel s rs n w (after_level s e v j (level_at s rs n w j) next)
  after e v j h next l = go (is_met s e (level_at s rs n w j)) refl (leb v (suc j)) refl
    where
      go : (m : Bool) → is_met s e (level_at s rs n w j) ≡ m → (d : Bool) → leb v (suc j) ≡ d →
          EndsAtLevel s rs n w (after_level s e v j (level_at s rs n w j) next)
      go true p d q = rw (p, after_level) (ends_with j h Met (λ z. let y : ◌≡◌ {A = ℕ} 0 1 = cc in omega arith))
      go false p true q = rw (p, q, after_level) (ends_with j h Stopped (λ z. let y : ◌≡◌ {A = ℕ} 0 1 = cc in omega arith))
      go false p false q = rw (p, q, after_level) l

  module _ (e v : ℕ) (p : 1 ≤ w) (fits : w ≤ n) where
    from : (left j : ℕ) → j + left ≡ last_level w → EndsAtLevel s rs n w (run_from s rs n w e v left j)
    unfolding run_from
    from zero j h =
        after e v j (omega arith) (exact_end s j (level_at s rs n w j).named (extreme s rs n w))
        (record { some = omega arith; level = λ i d other. absurd (other refl); exact = λ _. (exact_named s rs n w p j (omega arith) fits, refl) })
    from (suc left) j h = after e v j (omega arith) (run_from s rs n w e v left (suc j)) (from left (suc j) (omega arith))

    pub run_end : EndsAtLevel s rs n w (quick_run s rs n w e v)
    unfolding quick_run
    run_end = from (last_level w) 0 (omega arith)
