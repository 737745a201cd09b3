-- The two parts of a box that is cut have its free squares, and the places that are kept are enough for a box.
use native.Mathlib.Omega.{arith}
use Rattle.free.proofs.Settling.{covered_free, enough_free}
use Rattle.free.proofs.Halves.{both_free, both_fit}
use Rattle.free.proofs.left.Left.+free_among_free_by.Goals as goal

pub free_among-overflow_add-result : goal.free_among-overflow_add-result
free_among-overflow_add-result t c =
    record { fits = omega (arith, both_fit _ c.cut-cut.result c.args.self.full c.cut-cut.ensures _ _ _ c.part_before.ensures c.part_behind.ensures _ _ c.free_by-low.ensures c.free_by-high.ensures) }

pub free_among-returns : goal.free_among-returns
free_among-returns t c =
    both_free _ c.cut-cut.result c.args.self.full c.cut-cut.ensures _ _ _ c.part_before.ensures c.part_behind.ensures _ _ c.free_by-low.ensures c.free_by-high.ensures

pub free_by-returns-in-None : goal.free_by-returns-in-None
free_by-returns-in-None t c = covered_free _ _ c.in-None.ensures

pub free_by-returns-in-Some : goal.free_by-returns-in-Some
free_by-returns-in-Some t c = enough_free _ _ c.in-Some.ensures _ c.free_among.ensures
