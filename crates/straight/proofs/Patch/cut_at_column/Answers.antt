-- `straight::Patch::cut_at_column` meets its contract: both parts have the values that the whole has there. Assumes nothing.
use Rattle.geometry.specs.declared.Cut.TheVariants.{Column}
use Rattle.geometry.proofs.Cutting.{before_within, behind_within, before_full, behind_full}
use Rattle.straight.proofs.FlatBoxes.{before_corners, behind_corners, part_flat, part_small}
use Rattle.straight.proofs.Patch.cut_at_column.Goals as goal

pub returns-clause-before_corners : goal.returns-clause-before_corners
returns-clause-before_corners c =
    let p = c.args.self in before_corners p.extent p.corners p.flat p.full _ _ _ c.value_between-south.ensures c.value_between-north.ensures

pub returns-clause-behind_corners : goal.returns-clause-behind_corners
returns-clause-behind_corners c =
    let p = c.args.self in behind_corners p.extent p.corners p.flat p.full _ _ _ c.value_between-south.ensures c.value_between-north.ensures

pub invariant_of-result : goal.invariant_of-result
invariant_of-result c =
    let p = c.args.self in
    let at = Column c.args.x in
    let full = before_full p.extent at p.full c.requires in
    let inside = before_within p.extent at c.requires in
    let e = before_corners p.extent p.corners p.flat p.full _ _ _ c.value_between-south.ensures c.value_between-north.ensures in
    record { full = full; small = part_small p.extent p.corners p.flat p.full _ inside full _ e p.small; flat = part_flat p.extent p.corners p.flat p.full _ inside full _ e }

pub invariant_of-result-2 : goal.invariant_of-result-2
invariant_of-result-2 c =
    let p = c.args.self in
    let at = Column c.args.x in
    let full = behind_full p.extent at p.full c.requires in
    let inside = behind_within p.extent at c.requires in
    let e = behind_corners p.extent p.corners p.flat p.full _ _ _ c.value_between-south.ensures c.value_between-north.ensures in
    record { full = full; small = part_small p.extent p.corners p.flat p.full _ inside full _ e p.small; flat = part_flat p.extent p.corners p.flat p.full _ inside full _ e }
