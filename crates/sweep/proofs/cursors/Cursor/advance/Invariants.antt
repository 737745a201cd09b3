-- `sweep::cursors::Cursor::advance` meets its contract. The loop's invariant: the sums formed and those over the sides that are left make the true
-- ones at the new column. Assumes nothing.
use Rattle.std.proofs.Common.{◌≡◌, ◌+◌}
use Rattle.sweep.proofs.Moving.{Advancing}
use Rattle.sweep.proofs.cursors.Cursor.advance.Given as goal

abbrev pub invariant-loop-side : goal.invariant-loop-side
invariant-loop-side l = record {
  place : l.passed ≡ l.fn.self.passed + l.side-index;
  sums : Advancing l.sides l.x l.passed l.rows l.moment;
}
