-- `tiles::tiling::push_loads` meets its contract. The loop's invariant: the loads before tile i of the row are there, and the box that is carried along
-- ends where that tile begins. Assumes nothing.
use Prim.Native.Nat.{◌*◌}
use mathlib.Core.Path.{sym, ◌∙◌}
use native.Mathlib.Nat.{add_assoc}
use native.Mathlib.Omega.{arith}
use Rattle.tiles.proofs.Loads.{tabled_more, tile_end, load_light, load_formed}
use Rattle.tiles.proofs.tiling.push_loads.Goals as goal

pub overflow_add-sweep : goal.overflow_add-sweep
overflow_add-sweep c =
    let r = c.requires in omega (arith, load_light r.tiled r.tile_row c.loop-i-test.true c.loop-i.invariant.strip c.move_to.ensures.area)

pub loop-i-preserved : goal.loop-i-preserved
loop-i-preserved c =
    let at = c.loop-i in
    let r = c.requires in
    let moved = c.move_to.ensures in
    record {
      strip = moved.strip ∙ at.invariant.strip;
      left = omega (arith, moved.left, tile_end c.args.plan.side at.i);
      right = omega (arith, moved.right);
      tabled =
          tabled_more at.invariant.tabled (load_formed r.tiled r.tile_row c.loop-i-test.true at.invariant.strip moved.area) c.push.ensures.items
          (sym (add_assoc (c.args.j * c.args.plan.across) at.i 1));
    }
