-- `run::run_sorted` meets its contract. Assumes nothing.
use mathlib.Core.Path.{ap}
use Rattle.geometry.specs.declared.Sense.TheVariants.{Greatest, Least}
use Rattle.extremes.specs.declared.Extremes.{Extremes}
use Rattle.run.proofs.Running.{runnable, spots_small, bracket_small, tallied, planned, answer_is}
use Rattle.run.proofs.run_sorted.Goals as goal

pub quick_run-greatest-requires : goal.quick_run-greatest-requires
quick_run-greatest-requires c = runnable c.args.head c.args.sorted.now.rects.now c.args.amounts.now Greatest c.requires (ap (λ (x : Extremes). x.greatest) c.exact_run-exact.ensures)

pub quick_run-least-requires : goal.quick_run-least-requires
quick_run-least-requires c = runnable c.args.head c.args.sorted.now.rects.now c.args.amounts.now Least c.requires (ap (λ (x : Extremes). x.least) c.exact_run-exact.ensures)

pub counts_of-counts-requires : goal.counts_of-counts-requires
counts_of-counts-requires c =
    let exact = c.exact_run-exact in
    let greatest = c.quick_run-greatest in record { layer = c.requires.layer; small_spots = spots_small c.args.head c.args.sorted.now.rects.now c.args.amounts.now c.requires exact.result greatest.result c.quick_run-least.result exact.ensures greatest.ensures c.quick_run-least.ensures }

pub density-density-requires : goal.density-density-requires
density-density-requires c = bracket_small c.args.head c.args.sorted.now.rects.now c.args.amounts.now c.requires c.quick_run-greatest.result c.quick_run-greatest.ensures

pub count_positions-positions-requires : goal.count_positions-positions-requires
count_positions-positions-requires c = tallied c.args.head c.args.sorted.now.rects.now c.args.amounts.now c.requires

pub judge-verdict-requires : goal.judge-verdict-requires
judge-verdict-requires c = planned c.args.head c.args.sorted.now.rects.now c.args.amounts.now c.requires c.plan_of.ensures

pub returns : goal.returns
returns c =
    let exact = c.exact_run-exact in
    let greatest = c.quick_run-greatest in
    let least = c.quick_run-least in
    let counts = c.counts_of-counts in
    let density = c.density-density in
    let positions = c.count_positions-positions in
    let plan = c.plan_of in
    answer_is c.args.head c.args.sorted.now.rects.now c.args.amounts.now
    exact.result greatest.result least.result counts.result density.result positions.result plan.result c.judge-verdict.result
    exact.ensures greatest.ensures least.ensures counts.ensures density.ensures positions.ensures plan.ensures c.judge-verdict.ensures
