-- The part of the table of regions that is kept at hand for a row of tiles: it is enough for every box in the row.
use Prim.Native.Nat.{ℕ, ◌+◌, ◌*◌, ◌≤◌, ◌<◌}
use native.Mathlib.Nat.{le_trans}
use native.Mathlib.Omega.{arith}
use lib.Dec.{lit≤}
use Rattle.geometry.specs.declared.Rect.{Rect}
use Rattle.spacing.specs.Sizes.{SmallBox}
use Rattle.forms.specs.declared.Head.{Head}
use Rattle.forms.specs.Limits.{unit_limits}
use Rattle.forms.specs.Forms.{tile_side, tiles_across, GoodHead}
use Rattle.forms.proofs.Heads.{head_facts, tile_end}
use Rattle.standing.specs.Sound.{row_box, InRow}

-- a row of tiles ends where sides may
pub row_end : (h : Head) (row : ℕ) → GoodHead h → row < tiles_across h → row * tile_side h + tile_side h ≤ unit_limits.side
row_end h row g inside = omega (arith, tile_end h row (head_facts h g) inside)

pub row_small : (h : Head) (row : ℕ) → GoodHead h → row < tiles_across h → SmallBox (row_box h row)
row_small h row g inside =
    record {
      across = omega arith;
      up = omega arith;
      right = le_trans (head_facts h g).size_most (lit≤ tt);
      high = le_trans (row_end h row g inside) (lit≤ tt);
    }

pub box_small : (h : Head) (row : ℕ) (b : Rect) → InRow h row b → SmallBox b
box_small h row b k =
    let r = row_small h row k.good k.row_bound in
    record { across = k.across; up = k.up; right = le_trans k.right r.right; high = le_trans k.high r.high }
