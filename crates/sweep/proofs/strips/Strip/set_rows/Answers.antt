-- `sweep::strips::Strip::set_rows` meets its contract. Assumes nothing.
use mathlib.Core.Path.{ap, ◌∙◌}
use mathlib.Core.List.{List}
use Rattle.geometry.specs.declared.Rect.{Rect}
use Rattle.sweep.specs.declared.Side.TheVariants.{Low, High}
use Rattle.sweep.specs.Strips.{strip_sides}
use Rattle.sweep.proofs.Covered.{strip_of}
use Rattle.sweep.proofs.strips.Strip.set_rows.Goals as goal

pub invariant_of-self : goal.invariant_of-self
invariant_of-self c = let a = c.args in record {
  strip = strip_of a.self.now.sorted.now _ _ _ _
      (c.set_sides.ensures ∙ ap (λ (l : List Rect). strip_sides l Low a.y1 a.y2) c.deref.ensures.0)
      (c.set_sides-2.ensures ∙ ap (λ (l : List Rect). strip_sides l High a.y1 a.y2) c.deref-2.ensures.0);
}
