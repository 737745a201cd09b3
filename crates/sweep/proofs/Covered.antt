-- Strips: that the sides which rows hold of sorted rectangles rise, and that what is added up along a strip is the covered area.
use Prim.Native.Nat.{ℕ, ◌+◌, ◌-◌, ◌*◌, ◌≤◌, ◌<◌, max}
use mathlib.Core.Path.{◌≡◌, refl, sym, ap, ap₂, ◌∙◌}
use mathlib.Core.Logic.{◌⊎◌, inl, inr}
use mathlib.Core.List.{List, [], ◌∷◌, map}
use native.Mathlib.Omega.{arith}
use lib.Dec.{ltb}
use lib.ListN.{length, get_or, get_or-map}
use borrow.Author.Tests.{lt-ltb, le-ltb}
use Rattle.std.specs.Prelude.{All, sum_by, IsPermutation}
use Rattle.std.specs.List.Sorted.{IsNonDecreasingBy}
use Rattle.std.proofs.Math.Logic.{∥∥₁_elim}
use Rattle.std.proofs.Math.Bridge.{le_prop}
use Rattle.std.proofs.Math.Nat.{ℕ_set}
use Rattle.std.proofs.lemmas.List.{length-map}
use Rattle.std.proofs.lemmas.List.Elements.{All-filter, All-map}
use Rattle.std.proofs.lemmas.List.Kept.{IsNonDecreasingBy-filter}
use Rattle.std.proofs.lemmas.List.Recursion.{is_sum_by}
use Rattle.std.proofs.lemmas.List.Sorted.{IsNonDecreasingBy-from_default, length_permutation, All-permutation, sum_by-IsPermutation}
use Rattle.std.proofs.lemmas.List.Sums.{length-filter, count_by-le-length, sum_by-cons}
use Rattle.laws.proofs.Tests.{le_or_lt}
use Rattle.geometry.specs.declared.Rect.{Rect}
use Rattle.geometry.specs.Sizes.{SmallSides}
use Rattle.geometry.specs.Count.{one_if, rect_sum}
use Rattle.geometry.specs.Layout.{covered, covered_area, Layer}
use Rattle.geometry.specs.Overlaps.{common}
use Rattle.geometry.proofs.Counting.{rect_cong, rect_plus, box_cut_columns}
use Rattle.geometry.proofs.Overlaps.{overlap_is_area}
use Rattle.sweep.specs.declared.Side.{Side}
use Rattle.sweep.specs.declared.Side.TheVariants.{Low, High}
use Rattle.sweep.specs.declared.Upright.{Upright}
use Rattle.sweep.specs.declared.sorted.Sorted.{Sorted}
use Rattle.sweep.specs.Order.{column}
use Rattle.sweep.specs.Strips.{side_in, strip_sides, side_sum, ramps, SmallUpright, Sides, IsStrip, AreasAlong, StripOf}

-- ---- the sides that rows hold of sorted rectangles

rect_total : (f : Rect → ℕ) (rs : List Rect) → rect_sum rs f ≡ sum_by f rs
unfolding rect_sum
rect_total f rs = is_sum_by (λ (rs : List Rect). rect_sum rs f) f refl (λ r rs. refl) rs

side_small : (side : Side) (y1 y2 : ℕ) (r : Rect) → SmallSides r → SmallUpright (side_in side y1 y2 r)
side_small Low y1 y2 r h = record { column = h.left; rows = omega (arith, h.high) }
side_small High y1 y2 r h = record { column = omega (arith, h.left, h.right); rows = omega (arith, h.high) }

-- all of the rectangles, in any order
module _ (rects sorted : List Rect) (side : Side) (all : ∥ IsPermutation rects sorted ∥₁) where
  pub sorted_count : length sorted ≡ length rects
  sorted_count = ∥∥₁_elim all (ℕ_set (length sorted) (length rects)) (λ p. length_permutation rects sorted p)

  sorted_sum : (f : Rect → ℕ) → sum_by f sorted ≡ rect_sum rects f
  sorted_sum f = ∥∥₁_elim all (ℕ_set (sum_by f sorted) (sum_by f rects)) (λ p. sum_by-IsPermutation f rects sorted p) ∙ sym (rect_total f rects)

  sorted_small : All SmallSides rects → All SmallSides sorted
  sorted_small z k d h = record {
    left = ∥∥₁_elim all le_prop (λ p. (each p).left);
    right = ∥∥₁_elim all le_prop (λ p. (each p).right);
    low = ∥∥₁_elim all le_prop (λ p. (each p).low);
    high = ∥∥₁_elim all le_prop (λ p. (each p).high);
  }
    where
      each : IsPermutation rects sorted → SmallSides (get_or sorted k d)
      each p = All-permutation SmallSides rects sorted p z k d h

  module _ (y1 y2 : ℕ) where
    abbrev all_sides : List Upright
    all_sides = map (side_in side y1 y2) sorted

    pub strip_sides_lem : IsNonDecreasingBy (column side) sorted → Layer rects → Sides (strip_sides sorted side y1 y2)
    strip_sides_lem rises d = record {
      few = omega (arith, length-filter (λ (u : Upright). ltb 0 u.rows) all_sides, count_by-le-length (λ (u : Upright). ltb 0 u.rows) all_sides, length-map sorted (side_in side y1 y2), sorted_count, d.few);
      small = All-filter (λ u. ltb 0 u.rows) SmallUpright all_sides (All-map SmallUpright (side_in side y1 y2) sorted (λ k e h. side_small side y1 y2 (get_or sorted k e) (sorted_small d.small k e h)));
      rising = IsNonDecreasingBy-filter (λ u. u.column) (λ u. ltb 0 u.rows) all_sides (mapped sorted rises);
    }
      where
        mapped : (rs : List Rect) → IsNonDecreasingBy (column side) rs → IsNonDecreasingBy (λ (u : Upright). u.column) (map (side_in side y1 y2) rs)
        mapped rs n =
            IsNonDecreasingBy-from_default (λ (u : Upright). u.column) (map (side_in side y1 y2) rs) (side_in side y1 y2 none)
            (λ i j p q. rw (get_or-map (side_in side y1 y2) rs i none, get_or-map (side_in side y1 y2) rs j none) (n i j none p (omega (arith, length-map rs (side_in side y1 y2)))))
          where
            none : Rect
            none = record { x1 = 0; y1 = 0; x2 = 0; y2 = 0 }

    -- a sum over the sides is one over the rectangles, if a side without rows adds nothing
    module _ (g : ℕ → ℕ → ℕ) (nothing : (v : ℕ) → g v 0 ≡ 0) where
      abbrev on_rect : Rect → ℕ
      on_rect r = g (column side r) (common r.y1 r.y2 y1 y2)

      sides_sum : (rs : List Rect) → side_sum g (strip_sides rs side y1 y2) ≡ sum_by on_rect rs
      sides_sum [] = refl
      sides_sum (r ∷ rs) = go (le_or_lt (common r.y1 r.y2 y1 y2) 0) (sides_sum rs)
        where
          go : (common r.y1 r.y2 y1 y2 ≤ 0) ⊎ (0 < common r.y1 r.y2 y1 y2) → side_sum g (strip_sides rs side y1 y2) ≡ sum_by on_rect rs →
              side_sum g (strip_sides (r ∷ rs) side y1 y2) ≡ sum_by on_rect (r ∷ rs)
          go (inl p) ih =
              rw (le-ltb 0 (common r.y1 r.y2 y1 y2) p)
              (omega (arith, sum_by-cons on_rect r rs, ih, nothing (column side r), ap (g (column side r)) no_rows))
            where
              no_rows : common r.y1 r.y2 y1 y2 ≡ 0
              no_rows = omega (arith, p)
          go (inr p) ih =
              rw (lt-ltb 0 (common r.y1 r.y2 y1 y2) p)
              (omega (arith, sum_by-cons on_rect r rs, sum_by-cons (λ (u : Upright). g u.column u.rows) (side_in side y1 y2 r) (strip_sides rs side y1 y2), ih))

      pub strip_sum_lem : side_sum g (strip_sides sorted side y1 y2) ≡ rect_sum rects (λ r. g (column side r) (common r.y1 r.y2 y1 y2))
      strip_sum_lem = sides_sum sorted ∙ sorted_sum on_rect

-- ---- ramps and areas

-- what a rectangle has left of a column: the ramp of its low side less that of its high side
one_rect : (a b h x : ℕ) → h * (x - a) ≡ common a b 0 x * h + h * (x - max a b)
one_rect a b h x = let e : x - a ≡ common a b 0 x + (x - max a b) = omega arith in omega (arith, ap (λ (k : ℕ). h * k) e)

-- all of the rectangles in two orders, one for the low sides and one for the high sides: what is added up along them does not depend on the orders
module _ (rects by_low by_high : List Rect) (low : ∥ IsPermutation rects by_low ∥₁) (high : ∥ IsPermutation rects by_high ∥₁) (layer : Layer rects) (y1 y2 : ℕ) where
  abbrev between : (x1 x2 : ℕ) → Rect
  between x1 x2 = record { x1 = x1; y1 = y1; x2 = x2; y2 = y2 }

  abbrev low_list : List Upright
  low_list = strip_sides by_low Low y1 y2

  abbrev high_list : List Upright
  high_list = strip_sides by_high High y1 y2

  ramps_of : (side : Side) (sorted : List Rect) → ∥ IsPermutation rects sorted ∥₁ → (x : ℕ) →
      ramps (strip_sides sorted side y1 y2) x ≡ rect_sum rects (λ r. common r.y1 r.y2 y1 y2 * (x - column side r))
  ramps_of side sorted all x = strip_sum_lem rects sorted side all y1 y2 (λ v h. h * (x - v)) (λ v. omega arith)

  -- the covered area left of a column
  left_area : (x : ℕ) → ramps low_list x ≡ covered_area rects (between 0 x) + ramps high_list x
  left_area x =
      ramps_of Low by_low low x
      ∙ rect_cong rects _ _ (λ r. one_rect r.x1 r.x2 (common r.y1 r.y2 y1 y2) x)
      ∙ rect_plus rects _ _
      ∙ ap₂ ◌+◌ (sym (overlap_is_area rects (between 0 x) layer.apart)) (sym (ramps_of High by_high high x))

  -- and between two columns
  strip_area_lem : (x1 x2 : ℕ) → x1 ≤ x2 →
      ramps low_list x2 + ramps high_list x1 ≡ covered_area rects (between x1 x2) + (ramps low_list x1 + ramps high_list x2)
  strip_area_lem x1 x2 h =
      omega (
        arith,
        left_area x1,
        left_area x2,
        box_cut_columns 0 y1 x2 y2 x1 (λ x y. one_if (covered rects x y)) (omega arith) h,
      )

  pub areas_along : AreasAlong rects y1 y2 low_list high_list
  areas_along x1 x2 h = omega (arith, strip_area_lem x1 x2 h)

  -- so what the rows hold is a strip, where both rise, whichever side comes first on a tie
  pub is_strip : IsNonDecreasingBy (column Low) by_low → IsNonDecreasingBy (column High) by_high → IsStrip low_list high_list
  is_strip low_rises high_rises = record {
    low = strip_sides_lem rects by_low Low low y1 y2 low_rises layer;
    high = strip_sides_lem rects by_high High high y1 y2 high_rises layer;
    grows = λ x1 x2 h. omega (arith, strip_area_lem x1 x2 h);
  }

module _ (m : Sorted) (y1 y2 : ℕ) where
  abbrev rects : List Rect
  rects = m.rects.now

  pub strip_of : (lows highs : List Upright) → lows ≡ strip_sides m.lows.items Low y1 y2 → highs ≡ strip_sides m.highs.items High y1 y2 →
      StripOf rects y1 y2 lows highs
  strip_of lows highs e f = rw (e, f) record {
    low = ap (λ (rs : List Rect). strip_sides rs Low y1 y2) m.low.exact;
    high = ap (λ (rs : List Rect). strip_sides rs High y1 y2) m.high.exact;
    strip = is_strip rects m.lows.items m.highs.items m.low.all m.high.all m.layer y1 y2 m.low.rises m.high.rises;
    areas = areas_along rects m.lows.items m.highs.items m.low.all m.high.all m.layer y1 y2;
  }

-- the strip of no rows has no sides
pub no_rows : (sorted : List Rect) (side : Side) (l : List Upright) → l ≡ [] → l ≡ strip_sides sorted side 0 0
no_rows sorted side l e = e ∙ go sorted
  where
    go : (rs : List Rect) → [] ≡ strip_sides rs side 0 0
    go [] = refl
    go (r ∷ rs) = rw (le-ltb 0 (common r.y1 r.y2 0 0) (omega arith)) (go rs)
