-- Document 01, "The job file", with the dummies of document 02's request 5: what is asked of a form by itself, or by the head alone, under some limits:
-- the ranges of its numbers, that a head agrees, that a rectangle or a tile lies in the layout.
use Rattle.std.specs.Prelude.{ℕ, ◌-◌, ◌*◌, ◌/◌, ◌%◌, ◌≡◌, Bool, true, false, ◌&&◌, leb, ltb, eqb}
use Rattle.geometry.specs.declared.Rect.{Rect}
use Rattle.forms.specs.declared.Head.{Head}
use Rattle.forms.specs.declared.Form.{Form}
use Rattle.forms.specs.declared.Form.TheVariants.{Unknown, Heading, Metal, Fill, End}
use Rattle.forms.specs.declared.Gap.{Gap}
use Rattle.forms.specs.declared.Gap.TheVariants.{Both, Each}
use Rattle.forms.specs.Limits.{Limits, unit_limits}

-- whether a line is one of the spellings
abbrev pub known : Form → Bool
known Unknown = false
known (Heading h) = true
known (Metal s) = true
known (Fill i j p) = true
known End = true

abbrev pub in_span : (lo hi n : ℕ) → Bool
in_span lo hi n = leb lo n && leb n hi

-- the table of ranges; D has B's
abbrev pub gap_in_range : Limits → Gap → Bool
gap_in_range limits (Both b) = in_span 0 limits.side b
gap_in_range limits (Each b d) = in_span 0 limits.side b && in_span 0 limits.side d

abbrev pub head_in_range : Limits → Head → Bool
head_in_range limits h =
    (in_span 1 limits.side h.size && in_span 1 limits.side h.window)
    && (in_span 1 limits.tiles h.cut && gap_in_range limits h.gap)
    && (in_span 0 limits.bound h.lower && in_span 0 limits.bound h.upper)
    && (in_span 0 limits.accuracy h.accuracy && in_span 1 limits.levels h.levels)

abbrev pub rect_in_range : Limits → Rect → Bool
rect_in_range limits r =
    (in_span 0 limits.side r.x1 && in_span 0 limits.side r.y1) && (in_span 0 limits.side r.x2 && in_span 0 limits.side r.y2)

abbrev pub fill_in_range : Limits → (column row amount : ℕ) → Bool
fill_in_range limits i j p = in_span 0 (limits.tiles - 1) i && in_span 0 (limits.tiles - 1) j && in_span 1 limits.amount p

abbrev pub in_range : Limits → Form → Bool
in_range limits Unknown = true
in_range limits (Heading h) = head_in_range limits h
in_range limits (Metal s) = rect_in_range limits s.rect
in_range limits (Fill i j p) = fill_in_range limits i j p
in_range limits End = true

-- the tile side W/R; N/(W/R), the number of tiles across the layout; and the number of all its tiles
abbrev pub tile_side : Head → ℕ
tile_side h = h.window / h.cut

abbrev pub tiles_across : Head → ℕ
tiles_across h = h.size / tile_side h

abbrev pub tile_count : Head → ℕ
tile_count h = tiles_across h * tiles_across h

-- the head agrees: W ≤ N, R divides W, W/R divides N, N/(W/R) is at most the tiles across a layout, and L ≤ U
abbrev pub agrees : Limits → Head → Bool
agrees limits h =
    leb h.window h.size
    && (eqb (h.window % h.cut) 0 && eqb (h.size % tile_side h) 0)
    && (leb (tiles_across h) limits.tiles && leb h.lower h.upper)

-- a rectangle fits the layout: X1 < X2, Y1 < Y2, and X2 and Y2 at most N
abbrev pub fits_layout : Head → Rect → Bool
fits_layout h r = (ltb r.x1 r.x2 && ltb r.y1 r.y2) && (leb r.x2 h.size && leb r.y2 h.size)

-- tile (i, j) lies in the layout: I and J are below N/(W/R)
abbrev pub has_tile : Head → (i j : ℕ) → Bool
has_tile h i j = ltb i (tiles_across h) && ltb j (tiles_across h)

-- a head without a fault, under the unit's limits
pub record GoodHead (h : Head) : Type 0 where
  pub range : head_in_range unit_limits h ≡ true
  pub agreement : agrees unit_limits h ≡ true
