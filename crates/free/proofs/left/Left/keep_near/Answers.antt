use mathlib.Core.Path.{refl, sym, ◌∙◌}
use native.Mathlib.Omega.{arith}
use Rattle.free.proofs.Places.{covered_by, keeping_far, keeping_spare, keeping_one, keeping_ends}
use Rattle.free.proofs.left.Left.keep_near.Goals as goal
use Rattle.free.proofs.left.Left.keep_near.Goals.{then-is_near+else-covers_box+then-not-is_spare, then-is_near+else-covers_box+else-not-is_spare, else-is_near}

pub returns-then-covers_box : goal.returns-then-covers_box
returns-then-covers_box c =
    covered_by _ _ _ c.region-r.result _ c.loop-place-test.true c.region-r.ensures (sym c.covers_box.ensures ∙ c.if-covers_box.true)

pub loop-place-preserved : goal.loop-place-preserved
loop-place-preserved c =
    let l = c.args.self in
    let z = c.loop-place.invariant in
    let there = c.region-c.ensures in
    let within = c.loop-place-test.true in
    let r = c.region-r.result in
    let here = c.region-r.ensures in
    elim c.if-is_near.branch [
      | then-is_near+else-covers_box+then-not-is_spare w ↦ rw (w.own-is, w.push.ensures.items)
          (keeping_one l _ c.region-c.result _ _ z there within r here (sym c.is_near.ensures ∙ w.if-is_near.true) (sym w.covers_box.ensures ∙ w.if-covers_box.false))
      | then-is_near+else-covers_box+else-not-is_spare w ↦ rw w.own-is
          (keeping_spare l _ c.region-c.result _ _ z there within r here (rw (w.from.ensures, w.from-then-is_near.ensures) at (sym w.is_spare.ensures ∙ w.if-not-is_spare.false)))
      | else-is_near w ↦ rw w.own-is (keeping_far l _ c.region-c.result _ _ z there within r here (sym c.is_near.ensures ∙ w.if-is_near.false))
    ]

pub returns : goal.returns
returns c =
    keeping_ends c.args.self _ c.region-c.result _ _ c.loop-place.invariant c.region-c.ensures _ refl refl c.as_slice.ensures.value c.requires.has_lead (omega arith)
