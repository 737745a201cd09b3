-- How the code holds what stands: what the fields of a `Standing`, of src/held.rt, mean, and what is always so of them. A buyer need not read it: a contract
-- sees what stands alone.
use Rattle.std.specs.Prelude.{ℕ, ◌*◌, ◌≤◌, ◌≡◌, List, [], ◌∷◌, length, take, replicate}
use Rattle.geometry.specs.declared.Rect.{Rect}
use Rattle.spacing.specs.Regions.{Regions}
use Rattle.forms.specs.declared.Kind.{Kind}
use Rattle.forms.specs.declared.Shape.{Shape}
use Rattle.forms.specs.Limits.{unit_limits}
use Rattle.forms.specs.Forms.{tiles_across, tile_count}
use Rattle.standing.specs.declared.Turn.TheVariants.{Before}
use Rattle.standing.specs.declared.held.Standing.TheInside.{Inside}
use Rattle.standing.specs.Filling.{keepouts}
use Rattle.standing.specs.Faults.{Standing}
use Rattle.standing.specs.Near.{NearHeld}
use Rattle.standing.specs.Sound.{Sound}

-- how many amounts the table has room for: one to a tile
abbrev pub amounts_room : ℕ
amounts_room = unit_limits.tiles * unit_limits.tiles

-- shapes by their kinds and rectangles
unfoldable pub shapes_by : List Kind → List Rect → List Shape
shapes_by [] rs = []
shapes_by (k ∷ ks) [] = []
shapes_by (k ∷ ks) (r ∷ rs) = record { kind = k; rect = r } ∷ shapes_by ks rs

abbrev pub standing_of : Inside → Standing
standing_of a =
    record { turn = a.turn; head = a.head; shapes = shapes_by a.kinds.items a.rects.items; amounts = take (tile_count a.head) a.amounts }

pub record Held (a : Inside) : Type 0 where
  pub kinds : length a.kinds.items ≡ length a.rects.items
  -- the regions are those of the shapes, each with the gap of its kind
  pub regions : Regions a.regions.items (keepouts a.head.gap (standing_of a).shapes)
  pub across : tiles_across a.head ≤ unit_limits.tiles
  pub unused : a.turn ≡ Before → a.amounts ≡ replicate amounts_room 0
  pub near : NearHeld a.head a.regions.items a.near
  pub sound : Sound (standing_of a)
