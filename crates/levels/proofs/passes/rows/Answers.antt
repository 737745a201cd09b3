-- `levels::passes::rows` meets its contract. Assumes nothing.
use mathlib.Core.Path.{◌≡◌, refl, ◌∙◌}
use native.Mathlib.Omega.{arith}
use Rattle.levels.specs.Passes.{rows_seen}
use Rattle.levels.proofs.PassLoops.{row_place, rows_next, rows_few, rows_ask, rows_no_better}
use Rattle.levels.proofs.passes.rows.Goals as goal

pub loop-j-init : goal.loop-j-init
unfolding rows_seen
loop-j-init g c = record { along = refl; so_far = refl }

pub row-so_far-requires-clause-few : goal.row-so_far-requires-clause-few
row-so_far-requires-clause-few g c =
    rows_few g.P.Pass.laws _ _ _ _ _ _ _ c.loop-j.invariant.so_far c.requires.few (row_place c.args.g c.loop-j.j (omega (arith, c.loop-j-test.true)))

pub row-so_far-requires-clause-able : goal.row-so_far-requires-clause-able
row-so_far-requires-clause-able g c = rows_ask g.P.Pass.laws _ _ _ _ _ _ _ c.loop-j.invariant.so_far c.requires.able

pub row-so_far-requires-clause-passable : goal.row-so_far-requires-clause-passable
row-so_far-requires-clause-passable g c =
    let along : c.set_rows.new.self.sorted.now ≡ c.args.strip.now.sorted.now = c.set_rows.ensures.sorted ∙ c.loop-j.invariant.along in
    rw along
    (λ i h e. rows_no_better g.P.Pass.laws _ _ _ _ _ _ _ c.loop-j.invariant.so_far _ (c.requires.passable c.loop-j.j (rw c.args.g.count at c.loop-j-test.true) i h e))

pub loop-j-preserved : goal.loop-j-preserved
loop-j-preserved g c =
    let along : c.set_rows.new.self.sorted.now ≡ c.args.strip.now.sorted.now = c.set_rows.ensures.sorted ∙ c.loop-j.invariant.along in
    record {
      along = along;
      so_far = rows_next g.P.Pass.laws _ _ _ _ _ _ _ c.loop-j.invariant.so_far _ (rw (along, ← c.reach-reach.ensures.value) at c.row-so_far.ensures);
    }
