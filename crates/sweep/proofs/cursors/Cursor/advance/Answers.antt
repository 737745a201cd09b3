-- `sweep::cursors::Cursor::advance` meets its contract. Assumes nothing.
use Rattle.std.proofs.Common.{arith}
use Rattle.sweep.specs.declared.Upright.{Upright}
use Rattle.sweep.proofs.Moving.{advance_starts, this_taken, this_small, this_product, none_behind, none_from_here, rows_fit, moment_fits, product_fits, moment_below, advance_ends}
use Rattle.sweep.proofs.cursors.Cursor.advance.Goals as goal
use Rattle.sweep.proofs.cursors.Cursor.advance.Goals.{else-loop-side-test, then-loop-side-test+then-x-side}

abbrev none : Upright
none = record { column = 0; rows = 0 }

pub offset_bounds-sides-self : goal.offset_bounds-sides-self
offset_bounds-sides-self c =
    let a = advance_starts _ _ _ c.requires.sides c.requires.stands_before in omega (arith, a.within, c.requires.sides.few)

pub slice_bounds-side-items-count : goal.slice_bounds-side-items-count
slice_bounds-side-items-count c = (advance_starts _ _ _ c.requires.sides c.requires.stands_before).within

pub slice_bounds-side-items-start : goal.slice_bounds-side-items-start
slice_bounds-side-items-start c = (advance_starts _ _ _ c.requires.sides c.requires.stands_before).within

pub loop-side-init : goal.loop-side-init
loop-side-init c = record { place = omega arith; sums = advance_starts _ _ _ c.requires.sides c.requires.stands_before }

pub overflow_add-rows : goal.overflow_add-rows
overflow_add-rows c = let at = c.loop-side.invariant in
    omega (
      arith,
      rows_fit _ _ _ _ _ at.sums c.requires.sides,
      (this_small _ _ _ _ _ _ _ at.sums at.place none c.loop-side-test.true c.requires.sides).rows,
    )

pub overflow_add-moment : goal.overflow_add-moment
overflow_add-moment c = let at = c.loop-side.invariant in
    omega (
      arith,
      moment_fits _ _ _ _ _ at.sums c.requires.sides,
      this_product _ _ _ _ _ _ _ at.sums at.place none c.loop-side-test.true c.requires.sides,
    )

pub loop-side-preserved : goal.loop-side-preserved
loop-side-preserved c = let at = c.loop-side.invariant in record {
  place = omega (arith, at.place);
  sums = this_taken _ _ _ _ _ _ _ at.sums at.place _ c.loop-side-test.true c.if-x-side.false;
}

pub overflow_mul-result : goal.overflow_mul-result
overflow_mul-result c = omega (arith, product_fits _ _ _ _ _ c.loop-side.invariant.sums c.requires.sides c.requires.stands_before.small)

pub overflow_sub-result : goal.overflow_sub-result
overflow_sub-result c = let at = c.loop-side.invariant in
    moment_below _ _ _ _ _ at.sums (elim c.loop-side-test.branch [
      | else-loop-side-test w ↦ none_behind _ _ _ _ _ _ _ at.sums at.place w.loop-side-test.false
      | then-loop-side-test+then-x-side w ↦ none_from_here _ _ _ _ _ _ _ at.sums at.place _ w.loop-side-test.true w.if-x-side.true
    ])

pub returns : goal.returns
returns c = let at = c.loop-side.invariant in
    advance_ends _ _ _ _ _ at.sums (elim c.loop-side-test.branch [
      | else-loop-side-test w ↦ none_behind _ _ _ _ _ _ _ at.sums at.place w.loop-side-test.false
      | then-loop-side-test+then-x-side w ↦ none_from_here _ _ _ _ _ _ _ at.sums at.place _ w.loop-side-test.true w.if-x-side.true
    ])
