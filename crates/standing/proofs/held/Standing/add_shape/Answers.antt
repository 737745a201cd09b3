-- `standing::held::Standing::add_shape` meets its contract, by the laws of entering a shape. Assumes nothing.
use Rattle.std.proofs.Common.{arith, lit<}
use Rattle.std.proofs.lemmas.Grind.{common_steps}
use Rattle.standing.proofs.Entering.{rects_room, kinds_room, regions_room, shape_small, shape_stands, shape_held}
use Rattle.standing.proofs.held.Standing.add_shape.Goals as goal

pub push-requires : goal.push-requires
push-requires c = (lit< tt, rects_room _ c.self.invariant _ c.self.view_is _ c.requires)

pub push-requires-2 : goal.push-requires-2
push-requires-2 c = (lit< tt, kinds_room _ c.self.invariant _ c.self.view_is _ c.requires)

pub region-requires : goal.region-requires
region-requires c = rw c.gap_for.ensures (shape_small _ c.self.invariant _ c.self.view_is _ c.requires)

pub push-requires-3 : goal.push-requires-3
push-requires-3 c = (lit< tt, regions_room _ c.self.invariant _ c.self.view_is _ c.requires)

pub invariant_of-self : goal.invariant_of-self
invariant_of-self c =
    shape_held _ c.self.invariant _ c.self.view_is _ c.requires _ _ _ c.region.result c.push.ensures.items c.push-2.ensures.items (grind (arith, common_steps))
    (rw (← c.gap_for.ensures) c.region.ensures)

pub returns : goal.returns
returns c =
    shape_stands _ c.self.invariant _ c.self.view_is _ c.requires _ _ c.push-3.new.self c.region.result c.push.ensures.items c.push-2.ensures.items
