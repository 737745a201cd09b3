-- How the code reads areas: windows by their spans. A buyer need not read it: no contract of the unit's
-- public functions names it. Windows are bloated or shrunk by a reach u: the level's step in the second pass, and 0, which leaves them standard,
-- in the first.
use Rattle.std.specs.Prelude.{ℕ, ◌+◌, min}
use Rattle.geometry.specs.declared.Sense.{Sense}
use Rattle.geometry.specs.declared.Sense.TheVariants.{Greatest, Least}

-- the span of a far window on an axis
abbrev pub span_from : Sense → (u x : ℕ) → ℕ
span_from Greatest u x = x
span_from Least u x = x + u

abbrev pub span_to : Sense → (n w u x : ℕ) → ℕ
span_to Greatest n w u x = min (x + w + u) n
span_to Least n w u x = x + w
