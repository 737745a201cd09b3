-- Files that are the same but for what the head says of gaps: where both heads may begin a file, only the gap of each kind of shape that the file has plays
-- a part. So D plays no part where there is no dummy, B none where there is no drawn metal, and (gap B) is (gap B B). The unit's specs/Guarantee.antt says
-- what follows for what is printed.
use Rattle.std.specs.Prelude.{ℕ, ◌≤◌, ◌≡◌, true, List, [], ◌∷◌, ◌++◌, ◌⊎◌, length}
use Rattle.spelling.specs.Text.{pieces}
use Rattle.spelling.specs.Decimal.{EachShort}
use Rattle.forms.specs.declared.Form.TheVariants.{Heading, Metal}
use Rattle.forms.specs.declared.Gap.{Gap}
use Rattle.forms.specs.declared.Head.{Head}
use Rattle.forms.specs.declared.Kind.{Kind}
use Rattle.forms.specs.declared.Shape.{Shape}
use Rattle.forms.specs.Limits.{Limits}
use Rattle.forms.specs.Shapes.{gap_for, with_gap}
use Rattle.forms.specs.Forms.{gap_in_range}
use Rattle.lines.specs.Spellings.{numbers_of, spelling_of, Spells}
use Rattle.standing.specs.Faults.{Standing}
use Rattle.jobfile.specs.File.{Outcome, refused, accepted, outcome_of}

-- what stands, and what a file comes to, under a head that says something else of gaps
abbrev pub standing_with : Gap → Standing → Standing
standing_with g st = record { turn = st.turn; head = with_gap st.head g; shapes = st.shapes; amounts = st.amounts }

abbrev pub outcome_with : Gap → Outcome → Outcome
outcome_with g (refused number line) = refused number line
outcome_with g (accepted st) = accepted (standing_with g st)

-- a file by its head, what this says of gaps, and the text after it
abbrev pub file_with : Head → Gap → (rest : List ℕ) → List ℕ
file_with h g rest = spelling_of (Heading (with_gap h g)) ++ (10 ∷ rest)

-- the head's numbers have no more digits than are allowed, its gaps are in their range, and the file is not too long
pub record MayBegin (limits : Limits) (h : Head) (g : Gap) (rest : List ℕ) : Type 0 where
  pub short : EachShort limits.digits (numbers_of (Heading (with_gap h g)))
  pub range : gap_in_range limits g ≡ true
  pub fits : length (file_with h g rest) ≤ limits.bytes

-- no line spells a shape of a kind, of a text by its pieces between line feeds
unfoldable pub NoneOf : Limits → Kind → List (List ℕ) → Type 0
NoneOf limits k [] = Unit {0}
NoneOf limits k (line ∷ more) = ((s : Shape) → s.kind ≡ k → Spells limits line (Metal s) → ⊥) × NoneOf limits k more

-- two heads have the same gap for each kind of shape that a text has
abbrev pub SameGaps : Limits → (g g' : Gap) (rest : List ℕ) → Type 0
SameGaps limits g g' rest = (k : Kind) → (gap_for g k ≡ gap_for g' k) ⊎ NoneOf limits k (pieces rest)

-- then a file comes to the same under one as under the other; proofs/SameGaps.antt proves it for all limits
abbrev pub GapsDecide : Type 0
GapsDecide = (limits : Limits) (h : Head) (g g' : Gap) (rest : List ℕ) → MayBegin limits h g rest → MayBegin limits h g' rest →
    SameGaps limits g g' rest → outcome_of limits (file_with h g' rest) ≡ outcome_with g' (outcome_of limits (file_with h g rest))
