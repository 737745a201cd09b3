use native.Mathlib.Omega.{arith}
use Rattle.geometry.proofs.Listing.{listed_more}
use Rattle.free.proofs.Places.{next_place}
use Rattle.free.proofs.all_places.Goals as goal

pub loop-i-preserved : goal.loop-i-preserved
loop-i-preserved c =
    let z = c.loop-i.invariant in
    let count = c.push.ensures.len in
    record {
      listed = rw c.push.ensures.items (listed_more _ _ _ z.listed c.loop-i-test.true);
      each = rw c.push.ensures.items (next_place _ _ _ c.loop-i-test.true z.each);
      count = omega (arith, z.count);
    }
