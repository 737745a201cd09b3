-- `fill::judge` meets its contract: the search by the corner sums of the tiles' loads gives the verdict. Assumes nothing.
use mathlib.Core.Path.{◌∙◌}
use Rattle.tiles.proofs.Loads.{table_light}
use Rattle.fill.proofs.Verdicts.{sums_verdict}
use Rattle.fill.proofs.judge.Goals as goal

pub of-corners-requires : goal.of-corners-requires
of-corners-requires c = rw c.deref.ensures.0 (table_light _ _ _ c.tile_loads-loads.ensures c.requires.tiled)

pub returns : goal.returns
returns c =
    let found = rw c.of-corners.ensures.across at c.judge_loads.ensures in
    let corners = rw c.deref.ensures.0 at c.of-corners.ensures.corners in
    found ∙ sums_verdict _ _ _ c.tile_loads-loads.ensures corners c.requires.fits
