-- The second pass of a level: its limit and the starts kept. It carries the level through the search, with its window known. A buyer need not read
-- it: no contract of the unit's public functions names it.
use Rattle.std.specs.Prelude.{ℕ, ◌+◌, true, false}
use Rattle.geometry.specs.declared.Sense.{Sense}
use Rattle.geometry.specs.Count.{one_if}
use Rattle.geometry.specs.Extreme.{better, NoBetter}
use Rattle.levels.specs.declared.Level.{Level}

-- the better of two areas
abbrev pub better_area : Sense → (old new : ℕ) → ℕ
better_area s old new = elim (better s new old) [ true ↦ new | false ↦ old ]

-- the search after one more start, of this far area
abbrev pub weighed : Sense → Level → (far : ℕ) → Level
weighed s v far = record { named = v.named; limit = better_area s v.limit far; kept = v.kept + one_if (better s far v.named.area) }

-- the window does not pass the limit
abbrev pub Stands : Sense → Level → Type 0
Stands s v = NoBetter s v.named.area v.limit
