-- The windows of a row's starts, from left to right: a box that is carried along may move from each to the next.
use Prim.Native.Nat.{ℕ, ◌+◌, ◌*◌, ◌≤◌}
use native.Mathlib.Nat.{mul-le-mul_right}
use native.Mathlib.Omega.{arith}
use Rattle.geometry.specs.declared.Sense.{Sense}
use Rattle.geometry.specs.declared.Sense.TheVariants.{Greatest, Least}
use Rattle.levels.specs.declared.grid.Grid.{Grid}
use Rattle.levels.specs.Spans.{span_from, span_to}

-- ---- spans

-- a window further on begins and ends no earlier
from_grows : (s : Sense) (u a b : ℕ) → a ≤ b → span_from s u a ≤ span_from s u b
from_grows Greatest u a b h = h
from_grows Least u a b h = omega arith

to_grows : (s : Sense) (n w u a b : ℕ) → a ≤ b → span_to s n w u a ≤ span_to s n w u b
to_grows Greatest n w u a b h = omega arith
to_grows Least n w u a b h = omega arith

-- ---- the box

module _ (g : Grid) (u i : ℕ) where
  further : i * g.step ≤ (i + 1) * g.step
  further = mul-le-mul_right g.step (omega arith)

  -- the window of the next start begins and ends no earlier
  pub from_next : span_from g.sense u (i * g.step) ≤ span_from g.sense u ((i + 1) * g.step)
  from_next = from_grows g.sense u (i * g.step) ((i + 1) * g.step) further

  pub to_next : span_to g.sense g.size g.window u (i * g.step) ≤ span_to g.sense g.size g.window u ((i + 1) * g.step)
  to_next = to_grows g.sense g.size g.window u (i * g.step) ((i + 1) * g.step) further
