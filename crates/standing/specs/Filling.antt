-- What fill is told of a job: its shapes, each with the gap of its kind, and the plan that a fill is judged by.
use Rattle.std.specs.Prelude.{List, map}
use Rattle.spacing.specs.declared.Keepout.{Keepout}
use Rattle.tiles.specs.declared.Plan.{Plan}
use Rattle.forms.specs.declared.Gap.{Gap}
use Rattle.forms.specs.declared.Head.{Head}
use Rattle.forms.specs.declared.Shape.{Shape}
use Rattle.forms.specs.Shapes.{gap_for}
use Rattle.forms.specs.Forms.{tile_side, tiles_across}

-- a shape as fill sees it, with the gap of its kind; and all shapes
abbrev pub keepout_of : Gap → Shape → Keepout
keepout_of g s = record { rect = s.rect; gap = gap_for g s.kind }

abbrev pub keepouts : Gap → List Shape → List Keepout
keepouts g ss = map (keepout_of g) ss

-- what a job's fill is judged by
abbrev pub plan_of : Head → Plan
plan_of h =
    record { across = tiles_across h; cut = h.cut; side = tile_side h; window = h.window; lower = h.lower; upper = h.upper }
