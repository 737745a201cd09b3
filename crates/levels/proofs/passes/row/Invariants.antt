-- `levels::passes::row` meets its contract. The loop's invariant: the first i starts were seen, and the box that is carried along is not right of the
-- next one's window. Assumes nothing.
use Prim.Native.Nat.{◌*◌, ◌≤◌}
use mathlib.Core.Path.{◌≡◌}
use Rattle.levels.specs.Levels.{far_area}
use Rattle.levels.specs.Spans.{span_from, span_to}
use Rattle.levels.specs.Passes.{row_seen}
use Rattle.levels.proofs.passes.row.Given as goal

abbrev pub invariant-loop-i : goal.invariant-loop-i
invariant-loop-i g l = record {
  along : l.sweep.strip.now ≡ l.fn.strip;
  left : l.sweep.frame.left ≤ span_from l.g.sense l.reach (l.i * l.g.step);
  right : l.sweep.frame.right ≤ span_to l.g.sense l.g.size l.g.window l.reach (l.i * l.g.step);
  so_far :
      (l.so_far, l.new) ≡
      row_seen (g.P.Pass.looked l.g.sense) (far_area l.g.sense l.fn.strip.sorted.now.rects.now l.g.size l.g.window l.reach) l.g.step (l.j * l.g.step)
      (l.j * l.g.starts) l.i (l.initial.so_far, l.initial.new);
}
