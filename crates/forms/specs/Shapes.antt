-- Document 02, request 5: shapes are drawn metal or dummies from an earlier pass, and fill keeps a gap of its own from each kind. A `Shape`, of
-- src/lib.rt, is a rectangle with its kind; a `Gap` is what the head says, (gap B) or (gap B D).
use Rattle.std.specs.Prelude.{ℕ, Bool, true, false, List, [], ◌∷◌, map}
use Rattle.geometry.specs.declared.Rect.{Rect}
use Rattle.forms.specs.declared.Gap.{Gap}
use Rattle.forms.specs.declared.Gap.TheVariants.{Both, Each}
use Rattle.forms.specs.declared.Head.{Head}
use Rattle.forms.specs.declared.Kind.{Kind}
use Rattle.forms.specs.declared.Kind.TheVariants.{Drawn, Dummy}
use Rattle.forms.specs.declared.Shape.{Shape}

-- the least gap between fill and a shape: B for drawn metal, D for a dummy; (gap B) means D = B
abbrev pub gap_for : Gap → Kind → ℕ
gap_for (Both b) kind = b
gap_for (Each b d) Drawn = b
gap_for (Each b d) Dummy = d

-- the rectangles of shapes of either kind: what areas, the shapes under a window and fault 9 go by
abbrev pub rectangles : List Shape → List Rect
rectangles ss = map (λ s. s.rect) ss

-- whether two kinds are the same; and the rectangles of the shapes of one kind
abbrev pub is_kind : Kind → Kind → Bool
is_kind Drawn Drawn = true
is_kind Drawn Dummy = false
is_kind Dummy Drawn = false
is_kind Dummy Dummy = true

unfoldable pub rectangles_of : Kind → List Shape → List Rect
rectangles_of k [] = []
rectangles_of k (s ∷ ss) = elim (is_kind k s.kind) [ true ↦ s.rect ∷ rectangles_of k ss | false ↦ rectangles_of k ss ]

-- a head that says something else of gaps
abbrev pub with_gap : Head → Gap → Head
with_gap h g =
    record {
      size = h.size;
      window = h.window;
      cut = h.cut;
      gap = g;
      lower = h.lower;
      upper = h.upper;
      accuracy = h.accuracy;
      levels = h.levels;
    }
