-- `tiles::corners::push_sums` meets its contract. The loop's invariant: the row is summed before column i, and `run` is its load there. Assumes nothing.
use Prim.Native.Nat.{◌*◌}
use mathlib.Core.Path.{refl, sym}
use native.Mathlib.Nat.{add-zero, add_assoc}
use native.Mathlib.Omega.{arith}
use Rattle.geometry.proofs.Counting.{span_empty}
use Rattle.tiles.specs.Tiles.{number_at}
use Rattle.tiles.proofs.Loads.{tabled_more, tabled_to}
use Rattle.tiles.proofs.Summing.{run_light, run_next, sum_light, sum_formed}
use Rattle.tiles.proofs.corners.push_sums.Goals as goal

pub loop-i-init : goal.loop-i-init
loop-i-init c =
    let a = c.args in
    record {
      so_far = sym (span_empty 0 0 (λ x. number_at a.loads.now a.across x a.j) (omega arith));
      summed = tabled_to c.requires.below (sym (add-zero (a.j * a.across)));
    }

pub overflow_add-run-in-loop-i : goal.overflow_add-run-in-loop-i
overflow_add-run-in-loop-i c =
    let at = c.loop-i.invariant in omega (arith, run_light _ at.summed c.requires.loads c.requires.row c.loop-i-test.true refl at.so_far)

pub overflow_add-run-in-loop-i-2 : goal.overflow_add-run-in-loop-i-2
overflow_add-run-in-loop-i-2 c =
    let at = c.loop-i.invariant in
    let below = rw c.deref.ensures.0 at c.corner-below.ensures in
    omega (arith, sum_light _ at.summed c.requires.loads c.requires.row c.loop-i-test.true refl at.so_far below)

pub loop-i-preserved : goal.loop-i-preserved
loop-i-preserved c =
    let at = c.loop-i.invariant in
    let row = c.requires.row in
    let more = c.loop-i-test.true in
    let below = rw c.deref.ensures.0 at c.corner-below.ensures in
    record {
      so_far = run_next _ at.summed c.requires.loads row more refl at.so_far;
      summed =
          tabled_more at.summed (sum_formed _ at.summed c.requires.loads row more refl at.so_far below) c.push.ensures.items
          (sym (add_assoc (c.args.j * c.args.across) c.loop-i.i 1));
    }
