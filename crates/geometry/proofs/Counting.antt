-- Laws of the one counting sum: congruence, order, addition, splits, exchange of the axes; then the same for boxes, and congruence and addition
-- for lists of rectangles.
use Prim.Native.Nat.{ℕ, zero, suc, ◌+◌, ◌-◌, ◌*◌, ◌≤◌, ◌<◌}
use mathlib.Core.Path.{◌≡◌, refl, sym, ap, ap₂, ◌∙◌}
use mathlib.Core.List.{List, [], ◌∷◌}
use mathlib.Core.Logic.{◌⊎◌, inl, inr}
use native.Mathlib.Nat.{add-zero, add-suc, add_assoc, zero-add, mul_comm, le_trans, le_of_eq}
use native.Mathlib.Omega.{arith}
use Rattle.laws.proofs.Tests.{le_or_lt}
use Rattle.geometry.specs.declared.Rect.{Rect}
use Rattle.geometry.specs.Count.{sum, span, box_sum, rect_sum}

-- the unit square (x, y) lies in the box
pub record Inside (b : Rect) (x y : ℕ) : Type 0 where
  pub left : b.x1 ≤ x
  pub right : x < b.x2
  pub low : b.y1 ≤ y
  pub high : y < b.y2

-- boxes with the same corners
pub same_box : {a b c d x1 y1 x2 y2 : ℕ} → a ≡ x1 → b ≡ y1 → c ≡ x2 → d ≡ y2 →
    ◌≡◌ {A = Rect} (record { x1 = a; y1 = b; x2 = c; y2 = d }) (record { x1 = x1; y1 = y1; x2 = x2; y2 = y2 })
same_box p q r s = λ i. record { x1 = p i; y1 = q i; x2 = r i; y2 = s i }

-- ---- sums over the numbers below n

pub sum_cong : (n : ℕ) (f g : ℕ → ℕ) → ((i : ℕ) → i < n → f i ≡ g i) → sum n f ≡ sum n g
unfolding sum
sum_cong zero f g h = refl
sum_cong (suc n) f g h = ap₂ ◌+◌ (sum_cong n f g (λ i l. h i (omega arith))) (h n (omega arith))

pub sum_le : (n : ℕ) (f g : ℕ → ℕ) → ((i : ℕ) → i < n → f i ≤ g i) → sum n f ≤ sum n g
unfolding sum
sum_le zero f g h = omega arith
sum_le (suc n) f g h = omega (arith, sum_le n f g (λ i l. h i (omega arith)), h n (omega arith))

pub sum_zero : (n : ℕ) → sum n (λ i. 0) ≡ 0
unfolding sum
sum_zero zero = refl
sum_zero (suc n) = omega (arith, sum_zero n)

pub sum_const : (n k : ℕ) → sum n (λ i. k) ≡ n * k
unfolding sum
sum_const zero k = omega arith
sum_const (suc n) k = omega (arith, sum_const n k)

pub sum_plus : (n : ℕ) (f g : ℕ → ℕ) → sum n (λ i. f i + g i) ≡ sum n f + sum n g
unfolding sum
sum_plus zero f g = refl
sum_plus (suc n) f g = omega (arith, sum_plus n f g)

pub sum_times : (n k : ℕ) (f : ℕ → ℕ) → sum n (λ i. k * f i) ≡ k * sum n f
unfolding sum
sum_times zero k f = omega arith
sum_times (suc n) k f = omega (arith, sum_times n k f)

pub sum_split : (n m : ℕ) (f : ℕ → ℕ) → sum (n + m) f ≡ sum n f + sum m (λ i. f (n + i))
unfolding sum
sum_split n zero f = ap (λ (k : ℕ). sum k f) (add-zero n) ∙ sym (add-zero (sum n f))
sum_split n (suc m) f = ap (λ (k : ℕ). sum k f) (add-suc n m) ∙ ap (λ (k : ℕ). k + f (n + m)) (sum_split n m f) ∙ add_assoc _ _ _

-- the axes may change places
pub sum_swap : (n m : ℕ) (f : ℕ → ℕ → ℕ) → sum n (λ i. sum m (λ j. f i j)) ≡ sum m (λ j. sum n (λ i. f i j))
unfolding sum
sum_swap zero m f = sym (sum_zero m)
sum_swap (suc n) m f = ap (λ (k : ℕ). k + sum m (f n)) (sum_swap n m f) ∙ sym (sum_plus m (λ j. sum n (λ i. f i j)) (f n))

-- a sum over more numbers is no smaller
pub sum_more : (n m : ℕ) (f : ℕ → ℕ) → n ≤ m → sum n f ≤ sum m f
sum_more n m f h = omega (arith, sum_split n (m - n) f, ap (λ (k : ℕ). sum k f) e)
  where
    e : n + (m - n) ≡ m
    e = omega arith

-- one term is at most the sum
pub term_le : (n i : ℕ) (f : ℕ → ℕ) → i < n → f i ≤ sum n f
unfolding sum
term_le n i f h = omega (arith, sum_more (suc i) n f h)

-- ---- spans: the numbers from a to before b

pub span_cong : (a b : ℕ) (f g : ℕ → ℕ) → ((i : ℕ) → a ≤ i → i < b → f i ≡ g i) → span a b f ≡ span a b g
span_cong a b f g h = sum_cong (b - a) (λ i. f (a + i)) (λ i. g (a + i)) (λ i l. h (a + i) (omega arith) (omega arith))

pub span_le : (a b : ℕ) (f g : ℕ → ℕ) → ((i : ℕ) → a ≤ i → i < b → f i ≤ g i) → span a b f ≤ span a b g
span_le a b f g h = sum_le (b - a) (λ i. f (a + i)) (λ i. g (a + i)) (λ i l. h (a + i) (omega arith) (omega arith))

pub span_plus : (a b : ℕ) (f g : ℕ → ℕ) → span a b (λ i. f i + g i) ≡ span a b f + span a b g
span_plus a b f g = sum_plus (b - a) (λ i. f (a + i)) (λ i. g (a + i))

pub span_split : (a b c : ℕ) (f : ℕ → ℕ) → a ≤ b → b ≤ c → span a c f ≡ span a b f + span b c f
span_split a b c f h k =
    ap (λ (n : ℕ). sum n (λ i. f (a + i))) length_splits
    ∙ sum_split (b - a) (c - b) (λ i. f (a + i))
    ∙ ap (λ (s : ℕ). span a b f + s) (sum_cong (c - b) (λ i. f (a + (b - a + i))) (λ i. f (b + i)) (λ i l. ap f (moved i)))
  where
    length_splits : c - a ≡ b - a + (c - b)
    length_splits = omega arith

    moved : (i : ℕ) → a + (b - a + i) ≡ b + i
    moved i = omega arith

pub span_empty : (a b : ℕ) (f : ℕ → ℕ) → b ≤ a → span a b f ≡ 0
unfolding sum
span_empty a b f h = ap (λ (n : ℕ). sum n (λ i. f (a + i))) none
  where
    none : b - a ≡ 0
    none = omega arith

pub span_one : (a : ℕ) (f : ℕ → ℕ) → span a (suc a) f ≡ f a
unfolding sum
span_one a f = ap (λ (n : ℕ). sum n (λ i. f (a + i))) single ∙ zero-add (f (a + 0)) ∙ ap f (add-zero a)
  where
    single : suc a - a ≡ 1
    single = omega arith

-- a span inside another sums to no more
pub span_within : (a b c d : ℕ) (f : ℕ → ℕ) → c ≤ a → b ≤ d → span a b f ≤ span c d f
span_within a b c d f h k = go (le_or_lt a b)
  where
    go : (a ≤ b) ⊎ (b < a) → span a b f ≤ span c d f
    go (inl l) = omega (arith, span_split c a d f h (omega arith), span_split a b d f l k)
    go (inr l) = omega (arith, span_empty a b f (omega arith))

pub span_swap : (a b c d : ℕ) (f : ℕ → ℕ → ℕ) → span a b (λ i. span c d (λ j. f i j)) ≡ span c d (λ j. span a b (λ i. f i j))
span_swap a b c d f = sum_swap (b - a) (d - c) (λ i j. f (a + i) (c + j))

-- ---- boxes

pub box_cong : (b : Rect) (f g : ℕ → ℕ → ℕ) → ((x y : ℕ) → Inside b x y → f x y ≡ g x y) → box_sum b f ≡ box_sum b g
box_cong b f g h =
    span_cong b.y1 b.y2 (λ y. span b.x1 b.x2 (λ x. f x y)) (λ y. span b.x1 b.x2 (λ x. g x y))
    (λ y l k. span_cong b.x1 b.x2 (λ x. f x y) (λ x. g x y) (λ x m n. h x y (record { left = m; right = n; low = l; high = k })))

pub box_le : (b : Rect) (f g : ℕ → ℕ → ℕ) → ((x y : ℕ) → Inside b x y → f x y ≤ g x y) → box_sum b f ≤ box_sum b g
box_le b f g h =
    span_le b.y1 b.y2 (λ y. span b.x1 b.x2 (λ x. f x y)) (λ y. span b.x1 b.x2 (λ x. g x y))
    (λ y l k. span_le b.x1 b.x2 (λ x. f x y) (λ x. g x y) (λ x m n. h x y (record { left = m; right = n; low = l; high = k })))

pub box_plus : (b : Rect) (f g : ℕ → ℕ → ℕ) → box_sum b (λ x y. f x y + g x y) ≡ box_sum b f + box_sum b g
box_plus b f g =
    span_cong b.y1 b.y2 (λ y. span b.x1 b.x2 (λ x. f x y + g x y)) (λ y. span b.x1 b.x2 (λ x. f x y) + span b.x1 b.x2 (λ x. g x y))
    (λ y l k. span_plus b.x1 b.x2 (λ x. f x y) (λ x. g x y))
    ∙ span_plus b.y1 b.y2 (λ y. span b.x1 b.x2 (λ x. f x y)) (λ y. span b.x1 b.x2 (λ x. g x y))

-- a box inside another sums to no more
pub box_within : (b c : Rect) (f : ℕ → ℕ → ℕ) → c.x1 ≤ b.x1 → c.y1 ≤ b.y1 → b.x2 ≤ c.x2 → b.y2 ≤ c.y2 → box_sum b f ≤ box_sum c f
box_within b c f hx hy kx ky =
    le_trans
    (span_le b.y1 b.y2 (λ y. span b.x1 b.x2 (λ x. f x y)) (λ y. span c.x1 c.x2 (λ x. f x y))
    (λ y l k. span_within b.x1 b.x2 c.x1 c.x2 (λ x. f x y) hx kx))
    (span_within b.y1 b.y2 c.y1 c.y2 (λ y. span c.x1 c.x2 (λ x. f x y)) hy ky)

-- a box cut at the row m, and at the column m
pub box_cut_rows : (x1 y1 x2 y2 m : ℕ) (f : ℕ → ℕ → ℕ) → y1 ≤ m → m ≤ y2 →
    box_sum (record { x1 = x1; y1 = y1; x2 = x2; y2 = y2 }) f
    ≡ box_sum (record { x1 = x1; y1 = y1; x2 = x2; y2 = m }) f + box_sum (record { x1 = x1; y1 = m; x2 = x2; y2 = y2 }) f
box_cut_rows x1 y1 x2 y2 m f h k = span_split y1 m y2 (λ y. span x1 x2 (λ x. f x y)) h k

pub box_cut_columns : (x1 y1 x2 y2 m : ℕ) (f : ℕ → ℕ → ℕ) → x1 ≤ m → m ≤ x2 →
    box_sum (record { x1 = x1; y1 = y1; x2 = x2; y2 = y2 }) f
    ≡ box_sum (record { x1 = x1; y1 = y1; x2 = m; y2 = y2 }) f + box_sum (record { x1 = m; y1 = y1; x2 = x2; y2 = y2 }) f
box_cut_columns x1 y1 x2 y2 m f h k =
    span_cong y1 y2 (λ y. span x1 x2 (λ x. f x y)) (λ y. span x1 m (λ x. f x y) + span m x2 (λ x. f x y)) (λ y l u. span_split x1 m x2 (λ x. f x y) h k)
    ∙ span_plus y1 y2 (λ y. span x1 m (λ x. f x y)) (λ y. span m x2 (λ x. f x y))

-- a number for every unit square of a box
pub box_const : (b : Rect) (k : ℕ) → box_sum b (λ x y. k) ≡ (b.y2 - b.y1) * ((b.x2 - b.x1) * k)
box_const b k =
    span_cong b.y1 b.y2 (λ y. span b.x1 b.x2 (λ x. k)) (λ y. (b.x2 - b.x1) * k) (λ y l h. sum_const (b.x2 - b.x1) k)
    ∙ sum_const (b.y2 - b.y1) ((b.x2 - b.x1) * k)

pub box_zero : (b : Rect) → box_sum b (λ x y. 0) ≡ 0
box_zero b = omega (arith, box_const b 0)

-- a product of a function of y and one of x sums to the product of the two sums
pub box_product : (b : Rect) (f g : ℕ → ℕ) → box_sum b (λ x y. g y * f x) ≡ span b.x1 b.x2 f * span b.y1 b.y2 g
box_product b f g =
    span_cong b.y1 b.y2 (λ y. span b.x1 b.x2 (λ x. g y * f x)) (λ y. columns * g y)
    (λ y l k. sum_times (b.x2 - b.x1) (g y) (λ i. f (b.x1 + i)) ∙ mul_comm (g y) columns)
    ∙ sum_times (b.y2 - b.y1) columns (λ i. g (b.y1 + i))
  where
    columns : ℕ
    columns = span b.x1 b.x2 f

-- ---- one square of a box: its number is at most the sum, and a sum above 0 has a number above 0

pub span_term : (a b i : ℕ) (f : ℕ → ℕ) → a ≤ i → i < b → f i ≤ span a b f
span_term a b i f h k = le_trans (le_of_eq (ap f here)) (term_le (b - a) (i - a) (λ j. f (a + j)) (omega arith))
  where
    here : i ≡ a + (i - a)
    here = omega arith

pub box_term : (b : Rect) (f : ℕ → ℕ → ℕ) (x y : ℕ) → Inside b x y → f x y ≤ box_sum b f
box_term b f x y i =
    le_trans (span_term b.x1 b.x2 x (λ x. f x y) i.left i.right)
    (span_term b.y1 b.y2 y (λ y. span b.x1 b.x2 (λ x. f x y)) i.low i.high)

pub sum_above : (n : ℕ) (f : ℕ → ℕ) → 0 < sum n f → (i : ℕ) × (i < n) × (0 < f i)
unfolding sum
sum_above zero f h = absurd (omega arith)
sum_above (suc n) f h = go (sum_above n f) (le_or_lt (f n) 0)
  where
    go : (0 < sum n f → (i : ℕ) × (i < n) × (0 < f i)) → (f n ≤ 0) ⊎ (0 < f n) → (i : ℕ) × (i < suc n) × (0 < f i)
    go ih (inl l) = let e = ih (omega arith) in (e.0, omega (arith, e.1), e.2)
    go ih (inr l) = (n, omega arith, l)

pub span_above : (a b : ℕ) (f : ℕ → ℕ) → 0 < span a b f → (i : ℕ) × (a ≤ i) × (i < b) × (0 < f i)
span_above a b f h =
    let e = sum_above (b - a) (λ i. f (a + i)) h in
    (a + e.0, omega arith, omega (arith, e.1), e.2)

pub box_above : (b : Rect) (f : ℕ → ℕ → ℕ) → 0 < box_sum b f → (x : ℕ) × (y : ℕ) × Inside b x y × (0 < f x y)
box_above b f h =
    let row = span_above b.y1 b.y2 (λ y. span b.x1 b.x2 (λ x. f x y)) h in
    let at = span_above b.x1 b.x2 (λ x. f x row.0) row.3 in
    (at.0, row.0, record { left = at.1; right = at.2; low = row.1; high = row.2 }, at.3)

-- ---- lists of rectangles

pub rect_cong : (rs : List Rect) (f g : Rect → ℕ) → ((r : Rect) → f r ≡ g r) → rect_sum rs f ≡ rect_sum rs g
unfolding rect_sum
rect_cong [] f g h = refl
rect_cong (r ∷ rs) f g h = ap₂ ◌+◌ (h r) (rect_cong rs f g h)

pub rect_plus : (rs : List Rect) (f g : Rect → ℕ) → rect_sum rs (λ r. f r + g r) ≡ rect_sum rs f + rect_sum rs g
unfolding rect_sum
rect_plus [] f g = refl
rect_plus (r ∷ rs) f g = omega (arith, rect_plus rs f g)
