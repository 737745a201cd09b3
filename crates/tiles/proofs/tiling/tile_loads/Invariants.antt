-- `tiles::tiling::tile_loads` meets its contract. The loop's invariant: the loads of the rows below j are there. Assumes nothing.
use Prim.Native.Nat.{◌*◌}
use mathlib.Core.Path.{◌≡◌}
use Rattle.tiles.specs.Sums.{Tabled, load_of}
use Rattle.tiles.proofs.tiling.tile_loads.Given as goal

abbrev pub invariant-loop-j : goal.invariant-loop-j
invariant-loop-j l =
    record {
      sorted : l.strip.sorted.now ≡ l.fn.sorted;
      tabled : Tabled (load_of l.fn.sorted.rects.now l.amounts l.plan) (l.j * l.plan.across) l.loads.items;
    }
