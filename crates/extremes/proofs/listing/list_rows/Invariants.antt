-- `extremes::listing::list_rows` meets its contract. The loop's invariant: the rows of the rectangles so far are listed. Assumes nothing.
use Prim.Native.Nat.{◌*◌, ◌+◌, ◌≤◌}
use mathlib.Core.Path.{◌≡◌}
use lib.ListN.{length, take}
use Rattle.extremes.specs.Listing.{candidates}
use Rattle.extremes.proofs.listing.list_rows.Given as goal

abbrev pub invariant-loop-r : goal.invariant-loop-r
invariant-loop-r l = record {
  listed : l.rows.items ≡ candidates l.search.sense l.search.last l.search.w (take l.r-index l.rects);
  room : length l.rows.items ≤ 2 * l.r-index + 2;
}
