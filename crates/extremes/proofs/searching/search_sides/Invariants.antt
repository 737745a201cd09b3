-- `extremes::searching::search_sides` meets its contract. The loop's invariant: the windows at the sides so far were tried, and the sweep is not right of
-- that at the next side. Assumes nothing.
use Rattle.std.proofs.Common.{◌≡◌, ◌≤◌, ◌<◌, ◌+◌, ◌-◌, length, get_or, take}
use Rattle.sweep.specs.declared.Upright.{Upright}
use Rattle.extremes.specs.Search.{leading_along, positions_of}
use Rattle.extremes.proofs.searching.search_sides.Given as goal

abbrev pub invariant-loop-side : goal.invariant-loop-side
invariant-loop-side l = record {
  along : l.sweep.strip.now ≡ l.row.strip.now;
  leads : l.leader ≡ leading_along l.row (positions_of l.shift l.row.search.last (take l.side-index l.sides)) l.fn.best;
  left_earlier : (d : Upright) → l.side-index < length l.sides → l.sweep.frame.left ≤ (get_or l.sides l.side-index d).column - l.shift;
  right_earlier : l.sweep.frame.right ≤ l.sweep.frame.left + l.row.search.w;
}
