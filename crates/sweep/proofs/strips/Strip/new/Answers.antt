-- `sweep::strips::Strip::new` meets its contract. Assumes nothing.
use Rattle.sweep.proofs.Covered.{strip_of, no_rows}
use Rattle.sweep.specs.declared.Side.TheVariants.{Low, High}
use Rattle.sweep.proofs.strips.Strip.new.Goals as goal

pub invariant_of-result : goal.invariant_of-result
invariant_of-result c = let m = c.args.sorted.now in
    record { strip = strip_of m 0 0 _ _ (no_rows m.lows.items Low _ c.new.ensures) (no_rows m.highs.items High _ c.new-2.ensures) }
