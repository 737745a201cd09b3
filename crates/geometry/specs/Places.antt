-- Lists of places in a table: what is left to be looked at. A buyer need not read it: no contract of the unit's public functions names it.
use Rattle.std.specs.Prelude.{ℕ, ◌<◌, List, length, All}

-- each place of a list is one of the table
abbrev pub Listed : {X : Type 0} (table : List X) (places : List ℕ) → Type 0
Listed table places = All (λ p. p < length table) places
