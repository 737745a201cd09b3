-- `straight::Patch::flip` meets its contract: what runs straight does so with the axes exchanged. Assumes nothing.
use mathlib.Core.Path.{sym, subst}
use Rattle.straight.specs.declared.Corners.{Corners}
use Rattle.straight.specs.Flatness.{Flat, SmallCorners, flipped}
use Rattle.straight.proofs.FlatBoxes.{full_flipped, small_flipped, flip_flat}
use Rattle.straight.proofs.Patch.flip.Goals as goal

pub invariant_of-result : goal.invariant_of-result
invariant_of-result c =
    let p = c.args.self in
    record {
      full = full_flipped p.extent p.full;
      small = subst SmallCorners (sym c.flip.ensures) (small_flipped p.corners p.small);
      flat = subst (λ (v : Corners). Flat (flipped p.extent) v) (sym c.flip.ensures) (flip_flat p.extent p.corners p.flat p.full);
    }
