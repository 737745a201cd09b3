-- `zoom::run_levels` meets its contract. The loop's invariant: the run from level j on is the whole run's answer, and after the window that
-- stands comes level j. Assumes nothing.
use Rattle.zoom.proofs.Zooming.{RunSoFar}
use Rattle.zoom.proofs.run_levels.Given as goal

abbrev pub invariant-loop-j : goal.invariant-loop-j
invariant-loop-j l = RunSoFar l.sense l.sorted.rects.now l.asked.size l.asked.window l.asked.accuracy l.asked.levels l.old l.before l.stride l.grid l.j
