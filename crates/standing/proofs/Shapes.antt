-- Shapes by their kinds and rectangles, and what all of them are good for.
use mathlib.Core.Path.{◌≡◌, refl, sym, ap, ◌∙◌}
use mathlib.Core.List.{List, [], ◌∷◌, ◌++◌, map}
use native.Mathlib.Nat.{le_trans}
use native.Mathlib.Omega.{arith}
use lib.Dec.{lit≤}
use lib.ListN.{length, length-map}
use Rattle.std.proofs.lemmas.List.Elements.{All-weaker}
use Rattle.geometry.specs.declared.Rect.{Rect}
use Rattle.geometry.specs.Sizes.{SmallSides}
use Rattle.geometry.specs.Layout.{Layer}
use Rattle.forms.specs.declared.Kind.{Kind}
use Rattle.forms.specs.declared.Shape.{Shape}
use Rattle.forms.specs.Limits.{unit_limits}
use Rattle.forms.specs.Shapes.{rectangles}
use Rattle.forms.proofs.Spans.{corners}
use Rattle.standing.specs.Faults.{Standing}
use Rattle.standing.specs.Sound.{GoodRect, Sound}
use Rattle.standing.specs.Held.{shapes_by}

pub rects_by : (ks : List Kind) (rs : List Rect) → length ks ≡ length rs → rectangles (shapes_by ks rs) ≡ rs
unfolding shapes_by
rects_by [] [] e = refl
rects_by [] (r ∷ rs) e = absurd (omega arith)
rects_by (k ∷ ks) [] e = absurd (omega arith)
rects_by (k ∷ ks) (r ∷ rs) e = ap (λ (l : List Rect). r ∷ l) (rects_by ks rs (omega arith))

pub kinds_by : (ks : List Kind) (rs : List Rect) → length ks ≡ length rs → map (λ (s : Shape). s.kind) (shapes_by ks rs) ≡ ks
unfolding shapes_by
kinds_by [] rs e = refl
kinds_by (k ∷ ks) [] e = absurd (omega arith)
kinds_by (k ∷ ks) (r ∷ rs) e = ap (λ (l : List Kind). k ∷ l) (kinds_by ks rs (omega arith))

pub by_length : (ks : List Kind) (rs : List Rect) → length ks ≡ length rs → length (shapes_by ks rs) ≡ length rs
by_length ks rs e = sym (length-map (shapes_by ks rs) (λ s. s.rect)) ∙ ap length (rects_by ks rs e)

-- one shape more
pub by_more : (ks : List Kind) (rs : List Rect) (s : Shape) → length ks ≡ length rs →
    shapes_by (ks ++ (s.kind ∷ [])) (rs ++ (s.rect ∷ [])) ≡ shapes_by ks rs ++ (s ∷ [])
unfolding shapes_by
by_more [] [] s e = refl
by_more [] (r ∷ rs) s e = absurd (omega arith)
by_more (k ∷ ks) [] s e = absurd (omega arith)
by_more (k ∷ ks) (r ∷ rs) s e = ap (λ (l : List Shape). record { kind = k; rect = r } ∷ l) (by_more ks rs s (omega arith))

-- ---- the layer of all shapes

good_small : (st : Standing) (r : Rect) → GoodRect st.head r → SmallSides r
good_small st r g =
    let c = corners unit_limits r g.range in
    record {
      left = le_trans c.left.most (lit≤ tt);
      right = le_trans c.right.most (lit≤ tt);
      low = le_trans c.low.most (lit≤ tt);
      high = le_trans c.high.most (lit≤ tt);
    }

pub sound_layer : (st : Standing) → Sound st → Layer (rectangles st.shapes)
sound_layer st k =
    record {
      few = omega (arith, length-map st.shapes (λ s. s.rect), k.few);
      small = All-weaker _ _ (good_small st) (rectangles st.shapes) k.good;
      apart = k.apart;
    }
