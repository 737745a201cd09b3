-- The patterns in turn: what a line spells by one of them, or else by those behind it.
use Rattle.std.proofs.Common.{◌≡◌, Option, Some, None, List, ℕ, MatchOption, option_map, unwrap_or, ap, rules, ◌∙◌}
use Rattle.spelling.specs.Pattern.{read_as}
use Rattle.forms.specs.declared.Form.{Form}
use Rattle.forms.specs.declared.Kind.TheVariants.{Drawn, Dummy}
use Rattle.forms.specs.Limits.{unit_limits}
use Rattle.lines.specs.Spellings.{one_gap_pattern, two_gaps_pattern, shape_pattern, fill_pattern, end_pattern}
use Rattle.lines.specs.Reading.{one_gap_form, two_gaps_form, shape_form, fill_form, end_form, form_if, form_of}
use Rattle.lines.proofs.form_of.Goals as goal

by_pattern : (form : List ℕ → Form) (o : Option (List ℕ)) (r : Option Form) → r ≡ option_map form o → (other : Form) → unwrap_or r other ≡ form_if o form other
by_pattern form None r e other = ap (λ (q : Option Form). unwrap_or q other) e
by_pattern form (Some ns) r e other = ap (λ (q : Option Form). unwrap_or q other) e

or_by_pattern : {P : Type 0} (form : List ℕ → Form) (o : Option (List ℕ)) (p r : Option Form) → MatchOption p P (λ x. r ≡ Some x) →
    (P → r ≡ option_map form o) → (other : Form) → unwrap_or r other ≡ unwrap_or p (form_if o form other)
or_by_pattern form o None r h f other = by_pattern form o r (f h) other
or_by_pattern form o (Some x) r h f other = ap (λ (q : Option Form). unwrap_or q other) h

pub returns : goal.returns
unfolding form_of
returns c =
    let read = λ (p : List ℕ). read_as unit_limits.digits p c.args.line.now in
    c.unwrap_or.ensures
    ∙ or_by_pattern two_gaps_form (read two_gaps_pattern) c.or_else-4.result c.or_else-5.result c.or_else-5.ensures (λ e. search rules) _
    ∙ or_by_pattern one_gap_form (read one_gap_pattern) c.or_else-3.result c.or_else-4.result c.or_else-4.ensures (λ e. search rules) _
    ∙ or_by_pattern end_form (read end_pattern) c.or_else-2.result c.or_else-3.result c.or_else-3.ensures (λ e. search rules) _
    ∙ or_by_pattern (shape_form Dummy) (read (shape_pattern Dummy)) c.or_else.result c.or_else-2.result c.or_else-2.ensures (λ e. search rules) _
    ∙ or_by_pattern (shape_form Drawn) (read (shape_pattern Drawn)) c.fill.result c.or_else.result c.or_else.ensures (λ e. search rules) _
    ∙ by_pattern fill_form (read fill_pattern) c.fill.result c.fill.ensures _
