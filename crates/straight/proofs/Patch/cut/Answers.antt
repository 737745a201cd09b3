-- `straight::Patch::cut` meets its contract: between rows by the cut with the axes exchanged. Assumes nothing.
use Rattle.straight.proofs.FlatBoxes.{exchanged_before, exchanged_behind}
use Rattle.straight.proofs.Patch.cut.Goals as goal

pub returns-in-Row-clause-before_corners : goal.returns-in-Row-clause-before_corners
returns-in-Row-clause-before_corners c =
    let p = c.args.self in
    exchanged_before p.extent p.corners p.flat p.full _ _ c.in-Row.is c.requires _ _ _ _ c.flip.ensures.extent c.flip.ensures.corners c.cut_at_column-parts.ensures.before_corners c.flip-in-Row.ensures.corners

pub returns-in-Row-clause-behind_corners : goal.returns-in-Row-clause-behind_corners
returns-in-Row-clause-behind_corners c =
    let p = c.args.self in
    exchanged_behind p.extent p.corners p.flat p.full _ _ c.in-Row.is c.requires _ _ _ _ c.flip.ensures.extent c.flip.ensures.corners c.cut_at_column-parts.ensures.behind_corners c.flip-in-Row-2.ensures.corners
