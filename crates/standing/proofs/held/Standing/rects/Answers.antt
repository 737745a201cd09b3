-- `standing::held::Standing::rects` meets its contract. Assumes nothing.
use Rattle.std.proofs.Common.{sym, ap, ◌∙◌}
use Rattle.forms.specs.Shapes.{rectangles}
use Rattle.standing.specs.Faults.{Standing}
use Rattle.standing.proofs.Shapes.{rects_by, sound_layer}
use Rattle.standing.proofs.held.Standing.rects.Goals as goal

pub returns-clause-value : goal.returns-clause-value
returns-clause-value c =
    c.as_slice.ensures.value ∙ sym (rects_by _ _ c.self.invariant.kinds) ∙ ap (λ (s : Standing). rectangles s.shapes) c.self.view_is

pub returns-clause-layer : goal.returns-clause-layer
returns-clause-layer c = rw (c.as_slice.ensures.value, ← rects_by _ _ c.self.invariant.kinds) (sound_layer _ c.self.invariant.sound)
