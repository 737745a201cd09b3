-- `standing::held::Standing::add_fill` meets its contract, by the laws of entering a fill. Assumes nothing.
use Rattle.std.proofs.Common.{arith}
use Rattle.standing.proofs.Entering.{place_small, fill_head, fill_tile, fill_stands, fill_held}
use Rattle.standing.proofs.held.Standing.add_fill.Goals as goal

pub tile_place-at-requires : goal.tile_place-at-requires
tile_place-at-requires c = fill_tile _ c.self.invariant _ c.self.view_is _ _ _ c.requires

pub bounds-self-inside-at : goal.bounds-self-inside-at
bounds-self-inside-at c = rw c.tile_place-at.ensures (place_small _ _ _ (fill_tile _ c.self.invariant _ c.self.view_is _ _ _ c.requires))

pub offset_bounds-self-inside-at : goal.offset_bounds-self-inside-at
offset_bounds-self-inside-at c =
    record { fits = omega (arith, c.tile_place-at.ensures, place_small _ _ _ (fill_tile _ c.self.invariant _ c.self.view_is _ _ _ c.requires)) }

pub near_row-near-requires-clause-good : goal.near_row-near-requires-clause-good
near_row-near-requires-clause-good c = fill_head _ c.self.invariant _ c.self.view_is _ _ _ c.requires

pub near_row-near-requires-clause-row_bound : goal.near_row-near-requires-clause-row_bound
near_row-near-requires-clause-row_bound c = (fill_tile _ c.self.invariant _ c.self.view_is _ _ _ c.requires).row

pub invariant_of-self : goal.invariant_of-self
invariant_of-self c =
    rw c.tile_place-at.ensures (fill_held _ c.self.invariant _ c.self.view_is _ _ _ c.requires c.near_row-near.result (rw c.as_slice.ensures.value at c.near_row-near.ensures))

pub returns : goal.returns
returns c = rw c.tile_place-at.ensures (fill_stands _ c.self.invariant _ c.self.view_is _ _ _ c.requires c.near_row-near.result)
