-- Each call of `free_by` is on a box of fewer squares, so the measure is their number, with `free_among` after `free_by` on the same box.
use Prim.Native.Nat.{◌+◌, ◌*◌}
use Rattle.geometry.specs.Cuts.{size_of}
use Rattle.free.proofs.left.Left.+free_among_free_by.Given as goal

abbrev pub decreases-free_among : goal.decreases-free_among
decreases-free_among l = 2 * size_of l.self.bounds

abbrev pub decreases-free_by : goal.decreases-free_by
decreases-free_by l = 2 * size_of l.self.bounds + 1
