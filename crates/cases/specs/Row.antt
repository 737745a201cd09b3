-- Cases with their answers: a row has what the definitions give and what is stated. The table of rows is proved by one computation.
use Rattle.std.specs.Prelude.{ℕ, List, map}
use Prim.Native.String.{String}

pub record Row : Type 0 where
  pub name : String
  pub found : List ℕ
  pub stated : List ℕ

abbrev pub row : String → List ℕ → List ℕ → Row
row name found stated = record { name = name; found = found; stated = stated }

abbrev pub found_in : List Row → List (List ℕ)
found_in rows = map (λ r. r.found) rows

abbrev pub stated_in : List Row → List (List ℕ)
stated_in rows = map (λ r. r.stated) rows
