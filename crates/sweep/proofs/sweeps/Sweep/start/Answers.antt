-- `sweep::sweeps::Sweep::start` meets its contract. Assumes nothing.
use Rattle.sweep.proofs.Moving.{behind_start}
use Rattle.sweep.proofs.sweeps.Sweep.start.Goals as goal

pub invariant_of-result : goal.invariant_of-result
invariant_of-result c = let s = c.args.strip.now in
    record { stands = behind_start s.lows.items s.highs.items c.start_frame.result _ _ s.strip.strip c.start_frame.ensures }
