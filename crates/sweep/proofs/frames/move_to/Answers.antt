-- `sweep::frames::move_to` meets its contract. Assumes nothing.
use native.Mathlib.Omega.{arith}
use borrow.Author.Rules.{rules}
use Rattle.sweep.proofs.Moving.{low_before, high_before, gained_fits, lost_below}
use Rattle.sweep.proofs.frames.move_to.Goals as goal

pub overflow_add-result : goal.overflow_add-result
overflow_add-result c = let a = c.args in
    omega (
      arith,
      gained_fits a.lows.now a.highs.now a.left a.right _ _ c.advance-low.ensures c.advance-high.ensures
          c.requires.strip c.requires.columns_in_order,
    )

pub overflow_add-result-2 : goal.overflow_add-result-2
overflow_add-result-2 c = let a = c.args in
    let low = c.advance-low.ensures in
    let high = c.advance-high.ensures in
    omega (
      arith,
      gained_fits a.lows.now a.highs.now a.left a.right _ _ low high c.requires.strip c.requires.columns_in_order,
      lost_below a.lows.now a.highs.now a.left a.right _ _ low high c.requires.strip c.requires.columns_in_order,
    )

pub overflow_sub-result : goal.overflow_sub-result
overflow_sub-result c = let a = c.args in
    lost_below a.lows.now a.highs.now a.left a.right _ _ c.advance-low.ensures
    c.advance-high.ensures c.requires.strip c.requires.columns_in_order

pub advance-low-requires : goal.advance-low-requires
advance-low-requires c = search (low_before, rules)

pub advance-high-requires : goal.advance-high-requires
advance-high-requires c = search (high_before, rules)
