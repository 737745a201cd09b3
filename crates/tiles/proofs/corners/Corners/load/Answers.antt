-- `tiles::corners::Corners::load` meets its contract: the corners that are added fit 64 bits, and those taken away hold no more. Assumes nothing.
use native.Mathlib.Omega.{arith}
use Rattle.tiles.proofs.Summing.{far_light, near_less}
use Rattle.tiles.proofs.corners.Corners.load.Goals as goal

pub overflow_add-more : goal.overflow_add-more
overflow_add-more c = omega (arith, far_light c.args.self.now.corner_sums c.requires, c.before-2.ensures, c.before-3.ensures)

pub overflow_add-less : goal.overflow_add-less
overflow_add-less c =
    omega (
      arith,
      far_light c.args.self.now.corner_sums c.requires,
      near_less c.args.self.now.corner_sums c.requires,
      c.before-4.ensures,
      c.before-5.ensures,
    )

pub overflow_sub-result : goal.overflow_sub-result
overflow_sub-result c =
    omega (
      arith,
      near_less c.args.self.now.corner_sums c.requires,
      c.before-2.ensures,
      c.before-3.ensures,
      c.before-4.ensures,
      c.before-5.ensures,
    )
