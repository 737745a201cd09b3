-- `levels::passes::rows` meets its contract. The loop's invariant: the first j rows were seen. Assumes nothing.
use mathlib.Core.Path.{◌≡◌}
use Rattle.levels.specs.Levels.{far_area}
use Rattle.levels.specs.Passes.{rows_seen}
use Rattle.levels.proofs.passes.rows.Given as goal

abbrev pub invariant-loop-j : goal.invariant-loop-j
invariant-loop-j g l = record {
  along : l.strip.sorted.now ≡ l.initial.strip.sorted.now;
  so_far :
      (l.so_far, l.new) ≡
      rows_seen (g.P.Pass.looked l.g.sense) (far_area l.g.sense l.initial.strip.sorted.now.rects.now l.g.size l.g.window l.reach) l.g.step l.g.starts l.j
      (l.initial.so_far, l.initial.new);
}
