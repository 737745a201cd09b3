-- Document 01, the order of faults in a file: 1 first; then the earliest faulty line, in it the lowest number; then 12.
use Rattle.std.specs.Prelude.{ℕ, suc, true, false, List, [], ◌∷◌, leb, eqb, length}
use Rattle.spelling.specs.Text.{pieces}
use Rattle.forms.specs.Limits.{Limits}
use Rattle.lines.specs.Reading.{form_of}
use Rattle.standing.specs.declared.Turn.{Turn}
use Rattle.standing.specs.declared.Turn.TheVariants.{Before, Shapes, Fills, Done}
use Rattle.standing.specs.Faults.{Standing, before_head, line_fault, stands_after}

-- what a file comes to: the number and line of its first fault, or what stands at its end
pub data Outcome : Type 0 where
  refused : (number line : ℕ) → Outcome
  accepted : Standing → Outcome

-- after the last line feed, at line k: no more bytes and an (end), else 12; further bytes are a line without a line feed, 2
abbrev pub at_end : Turn → ℕ → Standing → Outcome
at_end Before k st = refused 12 k
at_end Shapes k st = refused 12 k
at_end Fills k st = refused 12 k
at_end Done k st = accepted st

abbrev pub after_last : Standing → ℕ → List ℕ → Outcome
after_last st k [] = at_end st.turn k st
after_last st k (b ∷ s) = refused 2 k

-- the lines from line k on, as the pieces of the file between its line feeds; there is always one, so the empty list does not come here
unfoldable pub read_lines : Limits → Standing → (k : ℕ) → List (List ℕ) → Outcome
read_lines limits st k [] = at_end st.turn k st
read_lines limits st k (line ∷ []) = after_last st k line
read_lines limits st k (line ∷ next ∷ more) =
    let fault = line_fault limits st (form_of limits line) in
    let rest = read_lines limits (stands_after st (form_of limits line)) (suc k) (next ∷ more) in
    elim (eqb fault 0) [ true ↦ rest | false ↦ refused fault k ]

-- the whole file. `Acceptance` in specs/Acceptance.antt says the same without reading line by line
unfoldable pub outcome_of : Limits → List ℕ → Outcome
outcome_of limits file = elim (leb (length file) limits.bytes) [ true ↦ read_lines limits before_head 1 (pieces file) | false ↦ refused 1 0 ]
