-- The candidate lemma, without bounds, one argument for both axes and both senses: where a window's area is an extreme for the first time
-- as the window moves along an axis, the window stands at the start, at the end, or one of its edges meets a side of a rectangle.
use Prim.Native.Nat.{ℕ, zero, suc, ◌+◌, ◌*◌, ◌≤◌, ◌<◌, max}
use mathlib.Core.Path.{◌≡◌, refl, sym, ap, subst₂, ◌∙◌}
use mathlib.Core.Logic.{◌⊎◌, inl, inr}
use mathlib.Core.List.{List, [], ◌∷◌}
use native.Mathlib.Nat.{mul-le-mul_right, suc-add, mul_comm}
use native.Mathlib.Decide.{ℕ_discrete}
use native.Mathlib.Omega.{arith}
use Rattle.laws.proofs.Tests.{le_or_lt}
use Rattle.geometry.specs.declared.Rect.{Rect}
use Rattle.geometry.specs.declared.Sense.{Sense}
use Rattle.geometry.specs.declared.Sense.TheVariants.{Greatest, Least}
use Rattle.geometry.specs.Count.{rect_sum}
use Rattle.geometry.specs.Layout.{window_box, Disjoint}
use Rattle.geometry.specs.Extreme.{Bounded}
use Rattle.geometry.specs.Overlaps.{common, overlap_sum}
use Rattle.geometry.proofs.Counting.{rect_cong}
use Rattle.geometry.proofs.Overlaps.{overlap_is_area}
use Rattle.geometry.proofs.Bends.{bend_none, common_none, second_difference}
use Rattle.geometry.specs.Positions.{window_area}
use Rattle.sweep.specs.declared.Side.TheVariants.{Low, High}
use Rattle.sweep.specs.Order.{column}
use Rattle.extremes.specs.Listing.{near_of, far_of, near_row, far_row}

-- a is strictly better than b
abbrev pub Better : Sense → ℕ → ℕ → Type 0
Better Greatest a b = b < a
Better Least a b = a < b

-- ---- a span's part in the window

-- a span's part in the window does not bend towards an extreme where no edge meets its side
part_straight : (s : Sense) (a b x e : ℕ) → x ≤ e → (near_of s a b ≡ suc x → ⊥) → (far_of s a b ≡ suc e → ⊥) →
    Bounded s (2 * common a b (suc x) (suc e)) (common a b x e + common a b (suc (suc x)) (suc (suc e)))
part_straight s a b x e k low high = go s low high (le_or_lt a b)
  where
    go : (s : Sense) → (near_of s a b ≡ suc x → ⊥) → (far_of s a b ≡ suc e → ⊥) → (a ≤ b) ⊎ (b < a) →
        Bounded s (2 * common a b (suc x) (suc e)) (common a b x e + common a b (suc (suc x)) (suc (suc e)))
    go Greatest l h (inl p) = omega (arith, second_difference a b x e p k, bend_none a x l, bend_none b e h)
    go Least l h (inl p) = omega (arith, second_difference a b x e p k, bend_none b x l, bend_none a e h)
    go Greatest l h (inr q) = omega (arith, common_none a b (suc x) (suc e) q)
    go Least l h (inr q) = omega (arith, common_none a b x e q, common_none a b (suc (suc x)) (suc (suc e)) q)

-- ---- rectangles with weights, added up

-- of each rectangle the part from a to b that lies in the window at x, times its weight
abbrev pub weighted_sum : (a b weight : Rect → ℕ) → List Rect → (w x : ℕ) → ℕ
weighted_sum a b weight rs w x = rect_sum rs (λ r. common (a r) (b r) x (x + w) * weight r)

-- an edge of the window at p meets a rectangle that weighs something: the low edge its side `low`, or the high edge its side `high`
pub data Meets (low high weight : Rect → ℕ) (w p : ℕ) : List Rect → Type 0 where
  low_edge : {r : Rect} {rs : List Rect} → low r ≡ p → 0 < weight r → Meets low high weight w p (r ∷ rs)
  high_edge : {r : Rect} {rs : List Rect} → high r ≡ p + w → 0 < weight r → Meets low high weight w p (r ∷ rs)
  further : {r : Rect} {rs : List Rect} → Meets low high weight w p rs → Meets low high weight w p (r ∷ rs)

-- f does not bend towards an extreme at x + 1
abbrev Straight : Sense → (ℕ → ℕ) → ℕ → Type 0
Straight s f x = Bounded s (2 * f (suc x)) (f x + f (suc (suc x)))

window_straight : (s : Sense) (a b w x : ℕ) → (near_of s a b ≡ suc x → ⊥) → (far_of s a b ≡ suc x + w → ⊥) →
    Straight s (λ z. common a b z (z + w)) x
window_straight s a b w x low high =
    rw (suc-add (suc x) w, suc-add x w) (part_straight s a b x (x + w) (omega arith) low (λ e. high (e ∙ sym (suc-add x w))))

weighted_straight : (s : Sense) (p₀ p₁ p₂ q₀ q₁ q₂ k : ℕ) → Bounded s (2 * p₁) (p₀ + p₂) → Bounded s (2 * q₁) (q₀ + q₂) →
    Bounded s (2 * (p₁ * k + q₁)) (p₀ * k + q₀ + (p₂ * k + q₂))
weighted_straight Greatest p₀ p₁ p₂ q₀ q₁ q₂ k h l = omega (arith, mul-le-mul_right k h)
weighted_straight Least p₀ p₁ p₂ q₀ q₁ q₂ k h l = omega (arith, mul-le-mul_right k h)

none_straight : (s : Sense) → Bounded s 0 0
none_straight Greatest = omega arith
none_straight Least = omega arith

-- what weighs nothing is straight
weightless_straight : (s : Sense) (p₀ p₁ p₂ q₀ q₁ q₂ k : ℕ) → k ≤ 0 → Bounded s (2 * q₁) (q₀ + q₂) →
    Bounded s (2 * (p₁ * k + q₁)) (p₀ * k + q₀ + (p₂ * k + q₂))
weightless_straight s p₀ p₁ p₂ q₀ q₁ q₂ k h l = go s l
  where
    none : (p : ℕ) → p * k ≡ 0
    none p = let e : k ≡ 0 = omega arith in omega (arith, ap (λ (k : ℕ). p * k) e)

    go : (s : Sense) → Bounded s (2 * q₁) (q₀ + q₂) → Bounded s (2 * (p₁ * k + q₁)) (p₀ * k + q₀ + (p₂ * k + q₂))
    go Greatest l = omega (arith, none p₀, none p₁, none p₂)
    go Least l = omega (arith, none p₀, none p₁, none p₂)

module _ (s : Sense) (a b weight : Rect → ℕ) (w : ℕ) where
  abbrev low : Rect → ℕ
  low r = near_of s (a r) (b r)

  abbrev high : Rect → ℕ
  high r = far_of s (a r) (b r)

  meets_or_straight : (rs : List Rect) (x : ℕ) → Meets low high weight w (suc x) rs ⊎ Straight s (weighted_sum a b weight rs w) x
  unfolding rect_sum
  meets_or_straight [] x = inr (none_straight s)
  meets_or_straight (r ∷ rs) x =
      go (le_or_lt (weight r) 0) (ℕ_discrete (low r) (suc x)) (ℕ_discrete (high r) (suc x + w)) (meets_or_straight rs x)
    where
      go : (weight r ≤ 0) ⊎ (0 < weight r) → Dec (low r ≡ suc x) → Dec (high r ≡ suc x + w) →
          Meets low high weight w (suc x) rs ⊎ Straight s (weighted_sum a b weight rs w) x →
          Meets low high weight w (suc x) (r ∷ rs) ⊎ Straight s (weighted_sum a b weight (r ∷ rs) w) x
      go (inl z) l h (inl m) = inl (further m)
      go (inl z) l h (inr k) = inr (weightless_straight s _ _ _ _ _ _ (weight r) z k)
      go (inr z) (yes e) h m = inl (low_edge e z)
      go (inr z) (no l) (yes e) m = inl (high_edge e z)
      go (inr z) (no l) (no h) (inl m) = inl (further m)
      go (inr z) (no l) (no h) (inr k) = inr (weighted_straight s _ _ _ _ _ _ (weight r) (window_straight s (a r) (b r) w x l h) k)

-- ---- the first extreme on an axis

-- a first extreme between two neighbours bends
bends : (s : Sense) (f : ℕ → ℕ) (x : ℕ) → Better s (f (suc x)) (f x) → Bounded s (f (suc (suc x))) (f (suc x)) → Straight s f x → ⊥
bends Greatest f x l h k = omega arith
bends Least f x l h k = omega arith

-- where a first extreme on an axis stands: at 0, at the last position, or where an edge of the window meets a rectangle
pub data Candidate (low high weight : Rect → ℕ) (w last p : ℕ) (rs : List Rect) : Type 0 where
  at_start : p ≡ 0 → Candidate low high weight w last p rs
  at_end_lem : p ≡ last → Candidate low high weight w last p rs
  at_side : Meets low high weight w p rs → Candidate low high weight w last p rs

-- f is best at p among the positions up to the last one, and better there than at each smaller position
pub record FirstBest (s : Sense) (f : ℕ → ℕ) (last p : ℕ) : Type 0 where
  pub within : p ≤ last
  pub best : (x : ℕ) → x ≤ last → Bounded s (f x) (f p)
  pub first : (x : ℕ) → x < p → Better s (f p) (f x)

first_best_cong : (s : Sense) (f g : ℕ → ℕ) (last p : ℕ) → ((x : ℕ) → f x ≡ g x) → FirstBest s f last p → FirstBest s g last p
first_best_cong s f g last p e h = record {
  within = h.within;
  best = λ x l. subst₂ (Bounded s) (e x) (e p) (h.best x l);
  first = λ x l. subst₂ (Better s) (e p) (e x) (h.first x l);
}

candidate_of : (s : Sense) (a b weight : Rect → ℕ) (w : ℕ) (rs : List Rect) (last p : ℕ) → FirstBest s (weighted_sum a b weight rs w) last p →
    Candidate (λ r. near_of s (a r) (b r)) (λ r. far_of s (a r) (b r)) weight w last p rs
candidate_of s a b weight w rs last zero h = at_start refl
candidate_of s a b weight w rs last (suc x) h = go (ℕ_discrete (suc x) last) (meets_or_straight s a b weight w rs x)
  where
    go : Dec (suc x ≡ last) → Meets (low s a b weight w) (high s a b weight w) weight w (suc x) rs ⊎ Straight s (weighted_sum a b weight rs w) x →
        Candidate (low s a b weight w) (high s a b weight w) weight w last (suc x) rs
    go (yes e) m = at_end_lem e
    go (no e) (inl m) = at_side m
    go (no e) (inr k) =
        let l : suc x ≤ last = h.within in
        absurd (bends s (weighted_sum a b weight rs w) x (h.first x (omega arith)) (h.best (suc (suc x)) (omega arith)) k)

-- ---- both axes

-- what a rectangle has between two rows or columns is what it has between its low side and its high one, where these are in one place if it has none
common_upright : (a b x e : ℕ) → common a b x e ≡ common a (max a b) x e
common_upright a b x e = omega arith

-- the sum of overlaps with the windows of a row is one of columns times rows; with those of a column, of rows times columns
overlap_across : (rs : List Rect) (w x y : ℕ) →
    overlap_sum rs (window_box w x y) ≡ weighted_sum (column Low) (column High) (λ r. common r.y1 r.y2 y (y + w)) rs w x
overlap_across rs w x y =
    rect_cong rs _ _ (λ r. ap (λ (k : ℕ). k * common r.y1 r.y2 y (y + w)) (common_upright r.x1 r.x2 x (x + w)))

overlap_up : (rs : List Rect) (w x y : ℕ) →
    overlap_sum rs (window_box w x y) ≡ weighted_sum (λ r. r.y1) (λ r. r.y2) (λ r. common r.x1 r.x2 x (x + w)) rs w y
overlap_up rs w x y = rect_cong rs _ _ (λ r. mul_comm (common r.x1 r.x2 x (x + w)) (common r.y1 r.y2 y (y + w)))

-- the sides that the window's low and high edge meet in a row
abbrev pub near_column : Sense → Rect → ℕ
near_column s r = near_of s (column Low r) (column High r)

abbrev pub far_column : Sense → Rect → ℕ
far_column s r = far_of s (column Low r) (column High r)

-- the candidate lemma for windows in one row, and for windows in one column
pub candidate_across : (s : Sense) (rs : List Rect) (w last x y : ℕ) → Disjoint rs → FirstBest s (λ z. window_area rs w z y) last x →
    Candidate (near_column s) (far_column s) (λ r. common r.y1 r.y2 y (y + w)) w last x rs
candidate_across s rs w last x y d h =
    candidate_of s (column Low) (column High) (λ r. common r.y1 r.y2 y (y + w)) w rs last x
    (first_best_cong s (λ z. window_area rs w z y) _ last x (λ z. overlap_is_area rs (window_box w z y) d ∙ overlap_across rs w z y) h)

pub candidate_up : (s : Sense) (rs : List Rect) (w last x y : ℕ) → Disjoint rs → FirstBest s (λ z. window_area rs w x z) last y →
    Candidate (near_row s) (far_row s) (λ r. common r.x1 r.x2 x (x + w)) w last y rs
candidate_up s rs w last x y d h =
    candidate_of s (λ r. r.y1) (λ r. r.y2) (λ r. common r.x1 r.x2 x (x + w)) w rs last y
    (first_best_cong s (λ z. window_area rs w x z) _ last y (λ z. overlap_is_area rs (window_box w x z) d ∙ overlap_up rs w x z) h)
