-- A cursor that is carried along: what its loop has taken in and what is left, and that it ends with the true sums.
use Prim.Native.Nat.{ℕ, suc, ◌+◌, ◌-◌, ◌*◌, ◌≤◌, ◌<◌}
use mathlib.Core.Path.{◌≡◌, refl, sym, ap, ap₂, ◌∙◌, subst, subst₂}
use mathlib.Core.Logic.{◌⊎◌, inl, inr}
use mathlib.Core.List.{List, ◌∷◌}
use native.Mathlib.Nat.{mul-le-mul}
use native.Mathlib.Numerals.{add-one}
use native.Mathlib.Omega.{arith}
use lib.ListN.{length, get_or, take, drop, length-drop, drop_of_length-le}
use lib.Seq.{drop-cons, get_or-take, length-take-le}
use Rattle.std.proofs.lemmas.List.{get_or-drop}
use Rattle.laws.proofs.Tests.{le_or_lt}
use Rattle.geometry.specs.declared.Rect.{Rect}
use Rattle.geometry.specs.Sizes.{widest, largest, most_rects}
use Rattle.geometry.specs.Count.{one_if}
use Rattle.geometry.specs.Layout.{covered, covered_area}
use Rattle.geometry.proofs.Counting.{box_cong, box_zero}
use Rattle.geometry.proofs.Totals.{small_product}
use Rattle.sweep.specs.declared.Upright.{Upright}
use Rattle.sweep.specs.declared.cursors.Cursor.{Cursor}
use Rattle.sweep.specs.declared.cursors.Edges.{Edges}
use Rattle.sweep.specs.Strips.{ramps, strip_sum, SmallUpright, Sides, IsStrip}
use Rattle.sweep.specs.declared.frames.Frame.{Frame}
use Rattle.sweep.specs.declared.strips.Strip.{Strip}
use Rattle.sweep.specs.Sweeps.{strip_area}
use Rattle.sweep.specs.Cursors.{left_sum, cursor_at, StandsBefore, edges_at, EdgesBefore, frame_at, no_sides, start_frame, TrueArea, Behind, ColumnsInOrder}
use Rattle.sweep.proofs.Sums.{Rising, rises, ramps_formed, rising_weaken, none_left, left_of, left_cons, passed_at, left_split, rising_passed, passed_within, sum_small, left_small}

-- ---- the loop

-- part of a sum over the sides left of x is formed: that of the first `at` sides
abbrev pub Taken : (ℕ → ℕ → ℕ) → List Upright → (x at total : ℕ) → Type 0
Taken g s x at total = total + left_sum g (drop at s) x ≡ left_sum g s x

pub record Advancing (s : List Upright) (x at rows moment : ℕ) : Type 0 where
  pub sides : Taken (λ v h. 1) s x at at
  pub heights : Taken (λ v h. h) s x at rows
  pub moments : Taken (λ v h. h * v) s x at moment
  pub rising : Rising 0 (drop at s)
  pub within : at ≤ length s

pub advance_starts : (s : List Upright) (c : Cursor) (x : ℕ) → Sides s → StandsBefore s c x → Advancing s x c.passed c.rows c.moment
advance_starts s c x z b = subst (λ (c : Cursor). Advancing s x c.passed c.rows c.moment) (sym b.is) start
  where
    rising : Rising 0 s
    rising = rises s z.rising

    start : Advancing s x (passed_at s b.column) (left_sum (λ v h. h) s b.column) (left_sum (λ v h. h * v) s b.column)
    start =
        record {
          sides = left_split (λ v h. 1) 0 s b.column x rising b.earlier;
          heights = left_split (λ v h. h) 0 s b.column x rising b.earlier;
          moments = left_split (λ v h. h * v) 0 s b.column x rising b.earlier;
          rising = rising_passed 0 s b.column rising;
          within = passed_within s b.column;
        }

module _ (s : List Upright) (x at rows moment : ℕ) (a : Advancing s x at rows moment) where
  -- ---- one side more

  module _ (u d : Upright) (inside : at < length s) (here : u ≡ get_or s at d) (earlier : u.column < x) where
    next : drop at s ≡ u ∷ drop (suc at) s
    next = drop-cons s at d inside ∙ ap (λ (v : Upright). v ∷ drop (suc at) s) (sym here)

    taken_next : (g : ℕ → ℕ → ℕ) (total : ℕ) → Taken g s x at total → Taken g s x (suc at) (total + g u.column u.rows)
    taken_next g total t =
        omega (arith, t, ap (λ (l : List Upright). left_sum g l x) next, left_cons g u (drop (suc at) s) x, left_of u.column x (g u.column u.rows) earlier)

    advance_next : Advancing s x (at + 1) (rows + u.rows) (moment + u.rows * u.column)
    unfolding Rising
    advance_next =
        rw (add-one)
        record {
          sides = rw (add-one at) at (taken_next (λ v h. 1) at a.sides);
          heights = taken_next (λ v h. h) rows a.heights;
          moments = taken_next (λ v h. h * v) moment a.moments;
          rising = rising_weaken 0 u.column (drop (suc at) s) (omega arith) (subst (Rising 0) next a.rising).1;
          within = inside;
        }

  -- ---- no side is left: the sums are the true ones

  module _ (rest_none : (g : ℕ → ℕ → ℕ) → left_sum g (drop at s) x ≡ 0) where
    taken_all : (g : ℕ → ℕ → ℕ) (total : ℕ) → Taken g s x at total → total ≡ left_sum g s x
    taken_all g total t = omega (arith, t, rest_none g)

    ends_formed : ramps s x + moment ≡ rows * x
    ends_formed =
        omega (
          arith,
          ramps_formed s x,
          ap (λ (k : ℕ). k * x) (taken_all (λ v h. h) rows a.heights),
          taken_all (λ v h. h * v) moment a.moments,
        )

    pub moment_below : moment ≤ rows * x
    moment_below = omega (arith, ends_formed)

    pub advance_ends : record { passed = at; rows = rows; moment = moment; ramps = rows * x - moment } ≡ cursor_at s x
    advance_ends =
        λ i. record {
          passed = taken_all (λ v h. 1) at a.sides i;
          rows = taken_all (λ v h. h) rows a.heights i;
          moment = taken_all (λ v h. h * v) moment a.moments i;
          ramps = formed i;
        }
      where
        formed : rows * x - moment ≡ ramps s x
        formed = omega (arith, ends_formed)

  at_the_end : length s ≤ at → (g : ℕ → ℕ → ℕ) → left_sum g (drop at s) x ≡ 0
  at_the_end h g = ap (λ (l : List Upright). left_sum g l x) (drop_of_length-le s {i = at} h)

  at_a_later_side : (u d : Upright) → at < length s → u ≡ get_or s at d → x ≤ u.column → (g : ℕ → ℕ → ℕ) → left_sum g (drop at s) x ≡ 0
  unfolding Rising
  at_a_later_side u d inside here later g =
      none_left g u.column (drop at s) x (subst (Rising u.column) (sym next) (omega arith, (subst (Rising 0) next a.rising).1)) later
    where
      next : drop at s ≡ u ∷ drop (suc at) s
      next = drop-cons s at d inside ∙ ap (λ (v : Upright). v ∷ drop (suc at) s) (sym here)

  -- ---- 64 bits

  pub rows_fit : Sides s → rows ≤ widest * most_rects
  rows_fit z = omega (arith, a.heights, left_small (λ v h. h) widest s x z.small (λ v h p q. q), z.few)

  pub moment_fits : Sides s → moment ≤ largest * most_rects
  moment_fits z = omega (arith, a.moments, left_small (λ v h. h * v) largest s x z.small (λ v h p q. small_product h v q p), z.few)

  pub product_fits : Sides s → x ≤ widest → rows * x ≤ widest * most_rects * widest
  product_fits z h = mul-le-mul (rows_fit z) h

-- the loop goes over what is left behind the first p sides
module _ (s : List Upright) (x p i at rows moment : ℕ) (a : Advancing s x at rows moment) (e : at ≡ p + i) where
  abbrev rest : List Upright
  rest = take (length s - p) (drop p s)

  rest_count : length rest ≡ length s - p
  rest_count = omega (arith, length-take-le (length s - p) (drop p s) (omega (arith, length-drop p s)), length-drop p s)

  pub none_behind : length rest ≤ i → (g : ℕ → ℕ → ℕ) → left_sum g (drop at s) x ≡ 0
  none_behind h = at_the_end s x at rows moment a (omega (arith, rest_count, a.within))

  module _ (d : Upright) (h : i < length rest) where
    inside : at < length s
    inside = omega (arith, rest_count)

    here : get_or rest i d ≡ get_or s at d
    here = get_or-take (length s - p) (drop p s) i d (omega (arith, rest_count)) ∙ get_or-drop p s i d ∙ ap (λ (k : ℕ). get_or s k d) (sym e)

    pub none_from_here : x ≤ (get_or rest i d).column → (g : ℕ → ℕ → ℕ) → left_sum g (drop at s) x ≡ 0
    none_from_here l = at_a_later_side s x at rows moment a (get_or rest i d) d inside here l

    pub this_taken : (get_or rest i d).column < x → Advancing s x (at + 1) (rows + (get_or rest i d).rows) (moment + (get_or rest i d).rows * (get_or rest i d).column)
    this_taken l = advance_next s x at rows moment a (get_or rest i d) d inside here l

    pub this_small : Sides s → SmallUpright (get_or rest i d)
    this_small z = subst SmallUpright (sym here) (z.small at d inside)

    pub this_product : Sides s → (get_or rest i d).rows * (get_or rest i d).column ≤ largest
    this_product z = small_product (get_or rest i d).rows (get_or rest i d).column (this_small z).rows (this_small z).column

-- ---- both edges of a box, and the box

-- true sums stand before all columns that are no further left, whatever the area of their box
pub edges_before : (s : List Upright) (e : Edges) (l r left right : ℕ) → e ≡ edges_at s l r → l ≤ left → r ≤ right → left ≤ right → right ≤ widest →
    EdgesBefore s e left right
edges_before s e l r left right q h k u z =
    record {
      at_left = record { column = l; is = ap (λ (e : Edges). e.left) q; earlier = h; small = omega arith };
      at_right = record { column = r; is = ap (λ (e : Edges). e.right) q; earlier = k; small = z };
    }

module _ (lows highs : List Upright) (f : Frame) (left right : ℕ) (b : Behind lows highs f left right) (u : ColumnsInOrder left right) where
  pub low_before : EdgesBefore lows f.low left right
  low_before =
      edges_before lows f.low f.left f.right left right (ap (λ (f : Frame). f.low) b.is) b.left_earlier b.right_earlier u.order u.small

  pub high_before : EdgesBefore highs f.high left right
  high_before =
      edges_before highs f.high f.left f.right left right (ap (λ (f : Frame). f.high) b.is) b.left_earlier b.right_earlier u.order u.small

ramps_small : (s : List Upright) (x : ℕ) → Sides s → x ≤ widest → ramps s x ≤ largest * most_rects
ramps_small s x z h =
    omega (arith, sum_small (λ v h. h * (x - v)) largest s z.small (λ v w p q. small_product w (x - v) q (omega arith)), z.few)

-- the ramps at both edges
edge_ramps : (s : List Upright) (left right : ℕ) (e : Edges) → e ≡ edges_at s left right → (e.left.ramps ≡ ramps s left) × (e.right.ramps ≡ ramps s right)
edge_ramps s left right e q = (ap (λ (e : Edges). e.left.ramps) q, ap (λ (e : Edges). e.right.ramps) q)

module _ (lows highs : List Upright) (left right : ℕ) (low high : Edges) (e : low ≡ edges_at lows left right) (f : high ≡ edges_at highs left right) where
  pub frame_moved : ◌≡◌ {A = Frame}
      (record { left = left; right = right; area = low.right.ramps + high.left.ramps - (low.left.ramps + high.right.ramps); low = low; high = high })
      (frame_at lows highs left right)
  frame_moved =
      ap₂ {C = Frame}
      (λ (low high : Edges).
      record { left = left; right = right; area = low.right.ramps + high.left.ramps - (low.left.ramps + high.right.ramps); low = low; high = high })
      e f

  module _ (s : IsStrip lows highs) (u : ColumnsInOrder left right) where
    pub gained_fits : low.right.ramps + high.left.ramps ≤ 2 * (largest * most_rects)
    gained_fits = omega (arith, (edge_ramps lows left right low e).1, (edge_ramps highs left right high f).0, ramps_small lows right s.low u.small, ramps_small highs left s.high (omega (arith, u.order, u.small)))

    pub lost_below : low.left.ramps + high.right.ramps ≤ low.right.ramps + high.left.ramps
    lost_below = omega (arith, (edge_ramps lows left right low e).0, (edge_ramps lows left right low e).1, (edge_ramps highs left right high f).0, (edge_ramps highs left right high f).1, s.grows left right u.order)

-- the empty box at column 0 is one of every strip
start_cursor : (s : List Upright) → Sides s → no_sides ≡ cursor_at s 0
start_cursor s z =
    λ i. record {
      passed = none (λ v h. 1) i;
      rows = none (λ v h. h) i;
      moment = none (λ v h. h * v) i;
      ramps = no_ramps i;
    }
  where
    none : (g : ℕ → ℕ → ℕ) → 0 ≡ left_sum g s 0
    none g = sym (none_left g 0 s 0 (rises s z.rising) (omega arith))

    no_ramps : 0 ≡ ramps s 0
    no_ramps = omega (arith, ramps_formed s 0)

start_is : (lows highs : List Upright) → IsStrip lows highs → start_frame ≡ frame_at lows highs 0 0
start_is lows highs s =
    λ i. record {
      left = 0;
      right = 0;
      area = no_area i;
      low = record { left = start_cursor lows s.low i; right = start_cursor lows s.low i };
      high = record { left = start_cursor highs s.high i; right = start_cursor highs s.high i };
    }
  where
    no_area : 0 ≡ strip_sum lows highs 0 0
    no_area = omega arith

-- ---- the true area, and where a box may move

pub true_area : (lows highs : List Upright) (f : Frame) (left right : ℕ) → f ≡ frame_at lows highs left right → left ≤ right → TrueArea lows highs f
true_area lows highs f left right e h =
    subst (TrueArea lows highs) (sym e) (record { counted = λ rects y1 y2 areas. areas left right h })

-- along a strip right sums alone give the true area, in whichever order the columns stand: `Behind` asks no more by its second field than by its first
pub area_follows : (lows highs : List Upright) (f : Frame) (left right : ℕ) → IsStrip lows highs → f ≡ frame_at lows highs left right → TrueArea lows highs f
area_follows lows highs f left right s e = go (le_or_lt left right)
  where
    between : (y1 y2 : ℕ) → Rect
    between y1 y2 = record { x1 = left; y1 = y1; x2 = right; y2 = y2 }

    nothing : (rects : List Rect) (y1 y2 : ℕ) → right < left → covered_area rects (between y1 y2) ≡ 0
    nothing rects y1 y2 h =
        box_cong (between y1 y2) (λ x y. one_if (covered rects x y)) (λ x y. 0) (λ x y z. absurd (omega (arith, z.left, z.right))) ∙ box_zero (between y1 y2)

    go : (left ≤ right) ⊎ (right < left) → TrueArea lows highs f
    go (inl h) = true_area lows highs f left right e h
    go (inr h) =
        subst (TrueArea lows highs) (sym e)
        (record { counted = λ rects y1 y2 areas. omega (arith, s.grows right left (omega arith), nothing rects y1 y2 h) })

-- it is not right of any columns at first, and of none further right; where it was moved to, it is not right of columns from there on
module _ (lows highs : List Upright) (f : Frame) where
  pub behind_moved : (left right l r : ℕ) → f ≡ frame_at lows highs left right → TrueArea lows highs f → left ≤ l → right ≤ r → Behind lows highs f l r
  behind_moved left right l r e t h k =
      record {
        is = subst (λ (f : Frame). f ≡ frame_at lows highs f.left f.right) (sym e) refl;
        area_true = t;
        left_earlier = subst (λ (f : Frame). f.left ≤ l) (sym e) h;
        right_earlier = subst (λ (f : Frame). f.right ≤ r) (sym e) k;
      }

  pub behind_start : (left right : ℕ) → IsStrip lows highs → f ≡ start_frame → Behind lows highs f left right
  behind_start left right s e =
      let start = e ∙ start_is lows highs s in
      behind_moved 0 0 left right start (area_follows lows highs f 0 0 s start) (omega arith) (omega arith)

  pub behind_later : (left right l r : ℕ) → Behind lows highs f left right → left ≤ l → right ≤ r → Behind lows highs f l r
  behind_later left right l r b h k =
      record { is = b.is; area_true = b.area_true; left_earlier = omega (arith, b.left_earlier); right_earlier = omega (arith, b.right_earlier) }

-- ---- a sweep, by its strip's lists as they are lent

module _ (s : Strip) (f : Frame) (lows highs : List Upright) (e : lows ≡ s.lows.items) (h : highs ≡ s.highs.items) where
  pub sweep_strip : IsStrip lows highs
  sweep_strip = rw (e, h) s.strip.strip

  pub sweep_may : (left right : ℕ) → Behind s.lows.items s.highs.items f f.left f.right → f.left ≤ left → f.right ≤ right → Behind lows highs f left right
  sweep_may left right z p q = rw (e, h) (behind_later s.lows.items s.highs.items f f.left f.right left right z p q)

  module _ (left right : ℕ) (v : f ≡ frame_at lows highs left right) (t : TrueArea lows highs f) where
    at_left : f.left ≡ left
    at_left = ap (λ (f : Frame). f.left) v

    at_right : f.right ≡ right
    at_right = ap (λ (f : Frame). f.right) v

    pub sweep_stands : Behind s.lows.items s.highs.items f f.left f.right
    sweep_stands =
        behind_moved s.lows.items s.highs.items f left right f.left f.right (rw (e, h) at v) (rw (e, h) at t) (omega (arith, at_left)) (omega (arith, at_right))

    pub sweep_area : f.area ≡ strip_area s left right
    sweep_area =
        subst₂ (λ (l r : ℕ). f.area ≡ strip_area s l r) at_left at_right
        ((rw (e, h) at t).counted s.sorted.now.rects.now s.y1 s.y2 s.strip.areas)
