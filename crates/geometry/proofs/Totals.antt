-- Sums that a loop forms over the rectangles of a layer, and that 64 bits hold them.
use Prim.Native.Nat.{ℕ, ◌+◌, ◌*◌, ◌^◌, ◌≤◌, ◌<◌}
use mathlib.Core.Path.{◌≡◌, sym, ap, ap₂, ◌∙◌}
use mathlib.Core.List.{List, [], ◌∷◌}
use native.Mathlib.Nat.{zero-add, mul-le-mul}
use native.Mathlib.Omega.{arith}
use lib.Dec.{ltb}
use lib.ListN.{length, get_or, drop}
use lib.Seq.{drop-cons}
use Rattle.std.proofs.lemmas.List.{drop_all}
use native.Mathlib.Numerals.{add-one}
use Rattle.geometry.specs.declared.Rect.{Rect}
use Rattle.geometry.specs.declared.Cover.{Cover}
use Rattle.geometry.specs.Sizes.{widest, largest, SmallRect, SmallSides}
use Rattle.geometry.specs.Count.{one_if, rect_sum}
use Rattle.geometry.specs.Layout.{shares_square, cover_of, Layer}
use Rattle.geometry.specs.Overlaps.{common, overlap}
use Rattle.geometry.proofs.Overlaps.{one_if_small, overlap_is_area, shares_overlap}

pub small_product : (a b : ℕ) → a ≤ widest → b ≤ widest → a * b ≤ largest
small_product a b h k = mul-le-mul h k

-- the product of two numbers fits 64 bits, by what each is equal to
pub product_fits : (x y u v : ℕ) → x ≡ u → y ≡ v → u * v ≤ largest → x * y < 2 ^ 64
product_fits x y u v p q h = rw (p, q) (omega arith)

-- a span's part is no longer than the span's end
common_small : (a b c d : ℕ) → b ≤ widest → common a b c d ≤ widest
common_small a b c d h = omega arith

pub overlap_small : (r b : Rect) → SmallRect r → overlap r b ≤ largest
overlap_small r b d =
    small_product (common r.x1 r.x2 b.x1 b.x2) (common r.y1 r.y2 b.y1 b.y2)
    (common_small r.x1 r.x2 b.x1 b.x2 d.right) (common_small r.y1 r.y2 b.y1 b.y2 d.high)

pub small_ends : (r : Rect) → SmallSides r → SmallRect r
small_ends r s = record { right = s.right; high = s.high }

-- a rectangle of a layer
pub one_small : (rs : List Rect) (i : ℕ) (r : Rect) → Layer rs → i < length rs → SmallRect (get_or rs i r)
one_small rs i r d h = small_ends (get_or rs i r) (d.small i r h)

-- ---- a sum over a list, part of it formed: `total` is what the rectangles before place i add

pub record SoFar (f : Rect → ℕ) (rs : List Rect) (total i : ℕ) : Type 0 where
  pub whole : total + rect_sum (drop i rs) f ≡ rect_sum rs f
  pub small : total ≤ largest * i

so_far_start : (f : Rect → ℕ) (rs : List Rect) → SoFar f rs 0 0
so_far_start f rs = record { whole = zero-add (rect_sum rs f); small = omega arith }

so_far_next : (f : Rect → ℕ) (rs : List Rect) (total i v : ℕ) (d : Rect) → SoFar f rs total i → i < length rs → v ≡ f (get_or rs i d) → v ≤ largest →
    SoFar f rs (total + v) (i + 1)
unfolding rect_sum
so_far_next f rs total i v d s h e k =
    let more : rect_sum (drop i rs) f ≡ f (get_or rs i d) + rect_sum (drop (i + 1) rs) f =
    rw add-one (ap (λ (l : List Rect). rect_sum l f) (drop-cons rs i d h)) in
    record { whole = omega (arith, more, e, s.whole); small = omega (arith, s.small) }

so_far_end : (f : Rect → ℕ) (rs : List Rect) (total i : ℕ) → SoFar f rs total i → length rs ≤ i → total ≡ rect_sum rs f
unfolding rect_sum
so_far_end f rs total i s h =
    let none : rect_sum (drop i rs) f ≡ 0 = ap (λ (l : List Rect). rect_sum l f) (drop_all i rs h) in
    omega (arith, none, s.whole)

-- the area of a box and the shapes under it, part of both formed
pub record CoverSoFar (rs : List Rect) (b : Rect) (total count i : ℕ) : Type 0 where
  pub area : SoFar (λ r. overlap r b) rs total i
  pub shapes : SoFar (λ r. one_if (shares_square (r ∷ []) b)) rs count i

pub cover_start : (rs : List Rect) (b : Rect) → CoverSoFar rs b 0 0 0
cover_start rs b = record { area = so_far_start _ rs; shapes = so_far_start _ rs }

pub cover_next : (rs : List Rect) (b : Rect) (total count i v k : ℕ) (d : Rect) → Layer rs → CoverSoFar rs b total count i → i < length rs →
    v ≡ overlap (get_or rs i d) b → k ≡ one_if (ltb 0 v) → CoverSoFar rs b (total + v) (count + k) (i + 1)
cover_next rs b total count i v k d l s h e c =
    record {
      area = so_far_next (λ r. overlap r b) rs total i v d s.area h e (omega (arith, e, overlap_small (get_or rs i d) b (one_small rs i d l h)));
      shapes =
          so_far_next (λ r. one_if (shares_square (r ∷ []) b)) rs count i k d s.shapes h
          (c ∙ ap (λ (n : ℕ). one_if (ltb 0 n)) e ∙ ap one_if (sym (shares_overlap (get_or rs i d) b)))
          (omega (arith, c, one_if_small (ltb 0 v)));
    }

pub cover_end : (rs : List Rect) (b : Rect) (total count i : ℕ) → Layer rs → CoverSoFar rs b total count i → length rs ≤ i →
    ◌≡◌ {A = Cover} (record { area = total; shapes = count }) (cover_of rs b)
cover_end rs b total count i d s h =
    ap₂ {C = Cover} (λ (a n : ℕ). record { area = a; shapes = n })
    (so_far_end (λ r. overlap r b) rs total i s.area h ∙ sym (overlap_is_area rs b d.apart))
    (so_far_end (λ r. one_if (shares_square (r ∷ []) b)) rs count i s.shapes h)
