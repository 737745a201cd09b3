-- Passing over is harmless: a start whose far window tells no more than one of the level before that was no better than the best window then
-- adds nothing to either end or to kept. levels/proofs/Flagging.antt has the same by the flags of a level.
use Prim.Native.Nat.{ℕ, ◌+◌, ◌≤◌}
use mathlib.Core.Path.{◌≡◌, ap}
use mathlib.Core.List.{List}
use native.Mathlib.Omega.{arith}
use Rattle.geometry.specs.declared.Rect.{Rect}
use Rattle.geometry.specs.declared.Spot.{Spot}
use Rattle.geometry.specs.declared.Sense.{Sense}
use Rattle.geometry.specs.Count.{one_if}
use Rattle.geometry.specs.Extreme.{better, spot_at, replaced, NoBetter, Bounded}
use Rattle.geometry.proofs.Extremes.{step_skip, bounded}
use Rattle.geometry.specs.Positions.{window_area}
use Rattle.zoom.specs.Run.{level_step, level_at}
use Rattle.levels.specs.Levels.{far_window, far_area}
use Rattle.levels.specs.Laws.{no_better_trans}
use Rattle.levels.proofs.Starts.{Nested, nested_no_better, window_within}
use Rattle.zoom.proofs.Bracket.{named_no_worse}

-- ---- the law of passing over

-- a start whose far area is no better than f, where the window named has area f: it would change neither that window nor the limit, which is
-- no worse than f, and is not kept
pub record AddsNothing (s : Sense) (rs : List Rect) (n w t x y f : ℕ) : Type 0 where
  pub no_better : NoBetter s (far_area s rs n w t x y) f
  pub named : (b : Spot) → NoBetter s f b.area → replaced s b (spot_at (window_area rs w) x y) ≡ b
  pub limit : (b : Spot) → NoBetter s f b.area → replaced s b (spot_at (far_area s rs n w t) x y) ≡ b
  pub kept : one_if (better s (far_area s rs n w t x y) f) ≡ 0

-- a start (x, y) of level j may be passed over: for the greatest if its bloated window lies inside one of an earlier level i of area at most the
-- F of that level, for the least if its shrunk window holds one of an earlier level of area at least the high end of that level
pub passed_over_lem : (s : Sense) (rs : List Rect) (n w i j x y x' y' : ℕ) → i ≤ j → x + w ≤ n → y + w ≤ n →
    Nested s (far_window s n w (level_step w j) x y) (far_window s n w (level_step w i) x' y') →
    Bounded s (far_area s rs n w (level_step w i) x' y') (level_at s rs n w i).named.area →
    AddsNothing s rs n w (level_step w j) x y (level_at s rs n w j).named.area
passed_over_lem s rs n w i j x y x' y' h ex ey l k =
    record {
      no_better = far;
      named = λ b p. step_skip s b (spot_at (window_area rs w) x y) (no_better_trans s _ _ _ standard (no_better_trans s _ _ _ far p));
      limit = λ b p. step_skip s b (spot_at (far_area s rs n w t) x y) (no_better_trans s _ _ _ far p);
      kept = ap one_if far;
    }
  where
    t : ℕ
    t = level_step w j

    far : NoBetter s (far_area s rs n w t x y) (level_at s rs n w j).named.area
    far =
        no_better_trans s _ _ _ (nested_no_better s rs (far_window s n w t x y) (far_window s n w (level_step w i) x' y') l)
        (no_better_trans s _ _ _ (bounded s _ _ k) (named_no_worse s rs n w i j h))

    standard : NoBetter s (window_area rs w x y) (far_area s rs n w t x y)
    standard = window_within s rs n w t x y x y ex ey (omega arith) (omega arith) (omega arith) (omega arith)
