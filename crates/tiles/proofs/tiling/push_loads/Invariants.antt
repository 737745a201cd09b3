-- `tiles::tiling::push_loads` meets its contract. The loop's invariant: the loads before tile i of the row are there, and the box that is carried along
-- ends where that tile begins. Assumes nothing.
use Prim.Native.Nat.{◌+◌, ◌*◌, ◌≤◌}
use mathlib.Core.Path.{◌≡◌}
use Rattle.tiles.specs.Sums.{Tabled, load_of}
use Rattle.tiles.proofs.tiling.push_loads.Given as goal

abbrev pub invariant-loop-i : goal.invariant-loop-i
invariant-loop-i l =
    let plan = l.plan in
    record {
      strip : l.sweep.strip.now ≡ l.fn.strip;
      left : l.sweep.frame.left ≤ l.i * plan.side;
      right : l.sweep.frame.right ≤ l.i * plan.side;
      tabled : Tabled (load_of l.fn.strip.sorted.now.rects.now l.amounts plan) (l.j * plan.across + l.i) l.loads.items;
    }
