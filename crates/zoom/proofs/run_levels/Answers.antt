-- `zoom::run_levels` meets its contract. Assumes nothing.
use Prim.Native.Nat.{◌≤◌, ◌<◌}
use mathlib.Core.Path.{sym, ap, ◌∙◌}
use mathlib.Core.List.{◌++◌}
use native.Mathlib.Omega.{arith}
use lib.ListN.{length, drop, length-append, length-drop}
use lib.Seq.{length-take-le}
use Rattle.zoom.specs.Run.{last_level}
use Rattle.zoom.proofs.Zooming.{run_begins, run_start, run_spares, run_small, run_on, run_last, some_half, run_goes_on}
use Rattle.zoom.proofs.run_levels.Goals as goal

pub loop-j-init : goal.loop-j-init
loop-j-init c =
    let grid = c.new-grid.ensures in
    run_begins _ _ _ _ _ _ _ _ _ c.first_window-before.ensures c.requires.unflagged grid.sense grid.size grid.window grid.step

pub search_level-this-requires : goal.search_level-this-requires
search_level-this-requires c = record { passable = run_spares c.loop-j.invariant; at_start = run_start c.loop-j.invariant }

pub search_level-this-requires-2 : goal.search_level-this-requires-2
search_level-this-requires-2 c = record { passable = run_spares c.loop-j.invariant; at_start = run_start c.loop-j.invariant }

pub over-requires-clause-testable : goal.over-requires-clause-testable
over-requires-clause-testable c =
    record { accurate = c.requires.runnable.accurate; small = run_small c.loop-j.invariant _ c.search_level-this.ensures.value }

pub over-requires-2-clause-testable : goal.over-requires-2-clause-testable
over-requires-2-clause-testable c =
    record { accurate = c.requires.runnable.accurate; small = run_small c.loop-j.invariant _ c.search_level-this-2.ensures.value }

pub returns-in-Some : goal.returns-in-Some
returns-in-Some c =
    sym (c.in-Some.ensures _)
    ∙ run_on c.loop-j.invariant _ c.search_level-this.ensures.value (omega (arith, c.loop-j-test.true, c.last_level-last.ensures))

pub returns : goal.returns
returns c =
    c.unwrap_or.ensures
    ∙ sym (c.over-2.ensures c.exact_end.result)
    ∙ run_last c.loop-j.invariant _ c.args.m _ _ c.search_level-this-2.ensures.value c.requires.runnable.extreme_is c.last_level-last.ensures
    c.loop-j-test.false c.exact_end.ensures

-- no more flags are in use than the tables have
pub slice_bounds-copy_from_slice-end-in-loop-j-3 : goal.slice_bounds-copy_from_slice-end-in-loop-j-3
slice_bounds-copy_from_slice-end-in-loop-j-3 c =
    sym (length-take-le _ _ (omega (arith, c.flag_count-used.ensures, c.search_level-this.auto.new, c.loop-j.auto.new, c.requires.room)))

pub copy_from_slice-requires : goal.copy_from_slice-requires
copy_from_slice-requires c =
    length-take-le _ _ (omega (arith, c.flag_count-used.ensures, c.loop-j.invariant.size))
    ∙ sym (length-take-le _ _ (omega (arith, c.flag_count-used.ensures, c.search_level-this.auto.new, c.loop-j.auto.new, c.requires.room)))

pub new-grid-requires-in-loop-j-clause-some_step : goal.new-grid-requires-in-loop-j-clause-some_step
new-grid-requires-in-loop-j-clause-some_step c =
    omega (arith, some_half c.loop-j.invariant (omega (arith, c.loop-j-test.true, c.last_level-last.ensures)))

pub loop-j-preserved : goal.loop-j-preserved
loop-j-preserved c =
    let at = c.loop-j.invariant in
    let level = c.search_level-this in
    let used : c.flag_count-used.result ≤ length c.loop-j.old = omega (arith, c.flag_count-used.ensures, at.size) in
    let deep : c.loop-j.j < last_level c.args.asked.window = omega (arith, c.loop-j-test.true, c.last_level-last.ensures) in
    let next = c.new-grid-in-loop-j.ensures in
    run_goes_on at deep level.result _ level.new.new _ _ _ (record { answer = level.ensures.value; flags = level.ensures.after })
    (sym (c.in_default.ensures _) ∙ run_on at _ level.ensures.value deep)
    (omega (arith, level.auto.new, c.loop-j.auto.new, c.requires.room))
    (ap (λ l. l ++ drop c.flag_count-used.result c.loop-j.old) c.copy_from_slice.ensures.after)
    (omega (
      arith,
      length-append c.copy_from_slice.new.self (drop c.flag_count-used.result c.loop-j.old),
      c.copy_from_slice.ensures.len,
      length-take-le _ _ used,
      length-drop c.flag_count-used.result c.loop-j.old,
      at.size,
    ))
    c.flag_count-used.ensures
    next.sense next.size next.window next.step
