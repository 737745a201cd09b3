-- `sweep::sweeps::Sweep::move_to` meets its contract. Assumes nothing.
use Rattle.sweep.proofs.Moving.{sweep_may, sweep_stands}
use Rattle.sweep.proofs.sweeps.Sweep.move_to.Goals as goal

pub move_to-self-requires-clause-behind : goal.move_to-self-requires-clause-behind
move_to-self-requires-clause-behind c = let z = c.args.self.now in
    sweep_may z.strip.now z.frame _ _ c.deref.ensures.0 c.deref-2.ensures.0 _ _ z.stands c.requires.left_later c.requires.right_later

pub invariant_of-self : goal.invariant_of-self
invariant_of-self c = let r = c.move_to-self.ensures in
    record { stands = sweep_stands c.args.self.now.strip.now _ _ _ c.deref.ensures.0 c.deref-2.ensures.0 _ _ r.value r.true_area }
