-- `levels::search_level` meets its contract. Assumes nothing.
use mathlib.Core.Path.{ap, ◌∙◌}
use mathlib.Core.Bool.{Bool}
use mathlib.Core.List.{List}
use Rattle.levels.specs.declared.Level.{Level}
use Rattle.levels.specs.Passes.{weighed_at, rows_seen}
use Rattle.levels.specs.Levels.{far_area}
use Rattle.levels.proofs.TwoPasses.{first_names, first_leaves, harmless_on, level_done}
use Rattle.levels.proofs.search_level.Goals as goal

pub rows-requires-clause-passable : goal.rows-requires-clause-passable
rows-requires-clause-passable c =
    let a = c.args in
    let rs = a.sorted.now.rects.now in
    rw (c.rows-named.ensures.sorted, c.new-strip.ensures)
    (harmless_on a.g.sense rs a.g a.flags.table.now a.flags.stride a.before _
    (first_names rs a.g a.before _ _ _ (rw c.new-strip.ensures at c.rows-named.ensures.seen)) c.requires.passable)

pub returns : goal.returns
returns c =
    let a = c.args in
    let rs = a.sorted.now.rects.now in
    let first = c.rows-named in
    let seen = rw c.new-strip.ensures at first.ensures.seen in
    let start : List Bool → Level × List Bool = λ l. (record { named = first.result; limit = first.result.area; kept = 0 }, l) in
    let done =
    level_done a.g.sense rs a.g a.before first.result c.rows.result a.new.now _ c.requires.at_start
    (first_names rs a.g a.before _ _ _ seen)
    (rw (first.ensures.sorted, c.new-strip.ensures) at c.rows.ensures.seen
    ∙ ap (λ (l : List Bool). rows_seen (weighed_at a.g.sense) (far_area a.g.sense rs a.g.size a.g.window a.g.step) a.g.step a.g.starts a.g.starts (start l))
    (first_leaves rs a.g a.before _ _ _ seen)) in
    record { value = done.answer; after = done.flags }
