-- `tiles::corners::push_sums` meets its contract. The loop's invariant: the row is summed before column i, and `run` is its load there. Assumes nothing.
use Prim.Native.Nat.{◌+◌, ◌*◌}
use mathlib.Core.Path.{◌≡◌}
use Rattle.geometry.specs.Count.{span}
use Rattle.tiles.specs.Tiles.{number_at}
use Rattle.tiles.specs.Sums.{Tabled, corner_sum}
use Rattle.tiles.proofs.corners.push_sums.Given as goal

abbrev pub invariant-loop-i : goal.invariant-loop-i
invariant-loop-i l =
    record {
      so_far : l.run ≡ span 0 l.i (λ x. number_at l.loads l.across x l.j);
      summed : Tabled (corner_sum l.loads l.across) (l.j * l.across + l.i) l.sums.items;
    }
