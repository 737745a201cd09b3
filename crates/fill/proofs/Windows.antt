-- The tiles of a start lie in the layout.
use Prim.Native.Nat.{ℕ}
use mathlib.Core.Path.{◌≡◌}
use native.Mathlib.Omega.{arith}
use Rattle.tiles.specs.Tiles.{TileBox}
use Rattle.tiles.specs.Sums.{TilesInLayout}
use Rattle.fill.specs.declared.judging.Rule.{Rule}
use Rattle.fill.specs.Windows.{tiles_for_upper, tiles_for_lower, IsStart}

module _ {rule : Rule} {across i j : ℕ} {b : TileBox} (s : IsStart rule across i j) where
  pub upper_inside : (margin : ℕ) → b ≡ tiles_for_upper rule across margin i j → TilesInLayout across b
  upper_inside margin e = rw e (record { columns = omega arith; rows = omega arith; right = omega arith; high = omega arith })

  pub lower_inside : (margin : ℕ) → b ≡ tiles_for_lower rule margin i j → TilesInLayout across b
  lower_inside margin e = rw e (record { columns = omega arith; rows = omega arith; right = s.columns; high = s.rows })
