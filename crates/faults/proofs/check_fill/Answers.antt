-- `faults::check_fill` meets its contract: a head that was entered is good. Assumes nothing.
use Rattle.faults.proofs.check_fill.Goals as goal

pub tile_room-requires-clause-good : goal.tile_room-requires-clause-good
tile_room-requires-clause-good c = c.head.ensures.good c.requires
