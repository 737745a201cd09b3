-- `sweep::strips::set_sides` meets its contract. The loop's invariant: the sides of the rectangles so far are listed. Assumes nothing.
use Rattle.std.proofs.Common.{◌≤◌, ◌≡◌, length, take}
use Rattle.sweep.specs.Strips.{strip_sides}
use Rattle.sweep.proofs.strips.set_sides.Given as goal

abbrev pub invariant-loop-r : goal.invariant-loop-r
invariant-loop-r l = record {
  so_far : l.out.items ≡ strip_sides (take l.r-index l.rects) l.side l.y1 l.y2;
  few : length l.out.items ≤ l.r-index;
}
