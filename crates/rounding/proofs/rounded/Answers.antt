-- `rounding::rounded` meets its contract. Assumes nothing.
use native.Mathlib.Omega.{arith}
use Rattle.rounding.proofs.Rounding.{lower_returned, upper_returned}
use Rattle.rounding.proofs.rounded.Goals as goal

pub returns-then-past-missing : goal.returns-then-past-missing
returns-then-past-missing c = lower_returned _ _ c.requires (omega arith) (λ e. omega arith)

pub returns-then-missing-past : goal.returns-then-missing-past
returns-then-missing-past c = upper_returned _ _ c.requires (omega arith) (λ e. omega arith)

pub returns-then-lower-eq0 : goal.returns-then-lower-eq0
returns-then-lower-eq0 c = lower_returned _ _ c.requires (omega arith) (λ e. omega arith)

pub returns : goal.returns
returns c = upper_returned _ _ c.requires (omega arith) (λ e. omega arith)
