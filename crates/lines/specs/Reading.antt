-- How a line is read. A buyer need not read it: what a line spells is said in specs/Spellings.antt, and proofs/Spelled.antt shows that the two agree.
use Rattle.std.specs.Prelude.{ℕ, ◌+◌, List, get_or, Option, Some, None}
use Rattle.spelling.specs.Pattern.{read_as}
use Rattle.forms.specs.declared.Head.{Head}
use Rattle.forms.specs.declared.Form.{Form}
use Rattle.forms.specs.declared.Form.TheVariants.{Unknown, Heading, Metal, Fill, End}
use Rattle.forms.specs.declared.Gap.{Gap}
use Rattle.forms.specs.declared.Gap.TheVariants.{Both, Each}
use Rattle.forms.specs.declared.Kind.{Kind}
use Rattle.forms.specs.declared.Kind.TheVariants.{Drawn, Dummy}
use Rattle.forms.specs.Limits.{Limits}
use Rattle.lines.specs.Spellings.{one_gap_pattern, two_gaps_pattern, rect_pattern, dummy_pattern, fill_pattern, end_pattern}

-- the head by a spelling's numbers before the gaps, the gaps, and its numbers from place i on, behind them
abbrev pub head_by : (ns : List ℕ) (gap : Gap) (i : ℕ) → Head
head_by ns gap i =
    record {
      size = get_or ns 0 0;
      window = get_or ns 1 0;
      cut = get_or ns 2 0;
      gap = gap;
      lower = get_or ns i 0;
      upper = get_or ns (i + 1) 0;
      accuracy = get_or ns (i + 2) 0;
      levels = get_or ns (i + 3) 0;
    }

-- the forms of a spelling's numbers
abbrev pub one_gap_form : List ℕ → Form
one_gap_form ns = Heading (head_by ns (Both (get_or ns 3 0)) 4)

abbrev pub two_gaps_form : List ℕ → Form
two_gaps_form ns = Heading (head_by ns (Each (get_or ns 3 0) (get_or ns 4 0)) 5)

abbrev pub shape_form : Kind → List ℕ → Form
shape_form kind ns = Metal (record { kind = kind; rect = record { x1 = get_or ns 0 0; y1 = get_or ns 1 0; x2 = get_or ns 2 0; y2 = get_or ns 3 0 } })

abbrev pub fill_form : List ℕ → Form
fill_form ns = Fill (get_or ns 0 0) (get_or ns 1 0) (get_or ns 2 0)

abbrev pub end_form : List ℕ → Form
end_form ns = End

-- the form where numbers were read, else another
abbrev pub form_if : Option (List ℕ) → (List ℕ → Form) → Form → Form
form_if None form other = other
form_if (Some ns) form other = form ns

-- the form that a line spells, without its line feed. The patterns are tried in some order, and no line spells two of them: here the commonest first
abbrev pub head_form : Limits → List ℕ → Form
head_form limits line =
    form_if (read_as limits.digits one_gap_pattern line) one_gap_form (form_if (read_as limits.digits two_gaps_pattern line) two_gaps_form Unknown)

abbrev pub rare_form : Limits → List ℕ → Form
rare_form limits line =
    form_if (read_as limits.digits dummy_pattern line) (shape_form Dummy) (form_if (read_as limits.digits end_pattern line) end_form (head_form limits line))

unfoldable pub form_of : Limits → List ℕ → Form
form_of limits line =
    form_if (read_as limits.digits fill_pattern line) fill_form (form_if (read_as limits.digits rect_pattern line) (shape_form Drawn) (rare_form limits line))
