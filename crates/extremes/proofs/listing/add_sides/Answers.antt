-- `extremes::listing::add_sides` meets its contract. Assumes nothing.
use native.Mathlib.Omega.{arith}
use Rattle.extremes.proofs.Lists.{position_grown}
use Rattle.extremes.proofs.listing.add_sides.Goals as goal

pub add_end-requires : goal.add_end-requires
add_end-requires c = let a = c.args in
    grind (arith, position_grown a.search.last a.r.y1, position_grown a.search.last a.r.y2)
