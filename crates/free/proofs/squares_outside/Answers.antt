use Rattle.free.proofs.Settling.{empty_free, whole_free}
use Rattle.free.proofs.squares_outside.Goals as goal

pub returns-then-is_empty : goal.returns-then-is_empty
returns-then-is_empty c = empty_free c.args.regions.now c.args.b _ c.is_empty.ensures c.if-is_empty.true

pub returns-then-is_empty-2 : goal.returns-then-is_empty-2
returns-then-is_empty-2 c = whole_free c.args.regions.now _ c.is_empty-2.ensures c.if-is_empty-2.true c.args.b _ c.box_size.ensures

pub returns : goal.returns
returns c = rw (c.as_slice.ensures.value, c.all_places-places.ensures.each) at c.free_by.ensures
