-- `extremes::find_extreme` meets its contract. The loop's invariant: what stands leads the windows of the rows so far. Assumes nothing.
use Rattle.std.proofs.Common.{◌≡◌, take}
use Rattle.geometry.specs.Extreme.{spot_at}
use Rattle.geometry.specs.Positions.{window_area}
use Rattle.extremes.specs.Search.{leading_in_rows, tried_row}
use Rattle.extremes.proofs.find_extreme.Given as goal

abbrev pub invariant-loop-y : goal.invariant-loop-y
invariant-loop-y l = record {
  strip : l.strip.sorted.now ≡ l.fn.sorted;
  leads : l.best ≡ leading_in_rows l.search.sense (window_area l.fn.sorted.rects.now l.w) (tried_row l.search.sense l.w l.last l.fn.sorted) (take l.y-index l.y-items) (spot_at (window_area l.fn.sorted.rects.now l.w) 0 0);
}
