-- `tiles::corners::Corners::of` meets its contract. The loop's invariant: the rows below j are summed. Assumes nothing.
use Prim.Native.Nat.{◌*◌}
use Rattle.tiles.specs.Sums.{Tabled, corner_sum}
use Rattle.tiles.proofs.corners.Corners.of.Given as goal

abbrev pub invariant-loop-j : goal.invariant-loop-j
invariant-loop-j l = Tabled (corner_sum l.loads l.across) (l.j * l.across) l.sums.items
