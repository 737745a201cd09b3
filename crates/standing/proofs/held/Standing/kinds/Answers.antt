-- `standing::held::Standing::kinds` meets its contract. Assumes nothing.
use Rattle.std.proofs.Common.{map, sym, ap, ◌∙◌}
use Rattle.forms.specs.declared.Shape.{Shape}
use Rattle.standing.specs.Faults.{Standing}
use Rattle.standing.proofs.Shapes.{kinds_by}
use Rattle.standing.proofs.held.Standing.kinds.Goals as goal

pub returns : goal.returns
returns c =
    c.as_slice.ensures.value ∙ sym (kinds_by _ _ c.self.invariant.kinds) ∙ ap (λ (st : Standing). map (λ (s : Shape). s.kind) st.shapes) c.self.view_is
