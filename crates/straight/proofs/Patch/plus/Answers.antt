-- `straight::Patch::plus` meets its contract: the sum of two that run straight does so too. Assumes nothing.
use Rattle.straight.proofs.FlatBoxes.{sum_flat}
use Rattle.straight.proofs.Patch.plus.Goals as goal

pub invariant_of-result : goal.invariant_of-result
invariant_of-result c = let p = c.args.self in
    rw c.plus.ensures (record { full = p.full; small = c.requires.small; flat = sum_flat p.extent p.corners c.args.u p.full p.flat c.requires.flat })
