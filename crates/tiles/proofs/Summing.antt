-- Corner sums: how a table of loads becomes one of corner sums, and that four of them give the load of a box of tiles, all within 64 bits.
use Prim.Native.Nat.{ℕ, zero, suc, ◌+◌, ◌-◌, ◌*◌, ◌/◌, ◌%◌, ◌≤◌, ◌<◌}
use mathlib.Core.Path.{◌≡◌, sym, ap, ap₂, ◌∙◌}
use mathlib.Core.List.{List}
use native.Mathlib.Nat.{suc-mul, mul-le-mul_right}
use native.Mathlib.Numerals.{add-one}
use native.Mathlib.Omega.{arith}
use lib.Arith.{digits_div, digits_mod}
use lib.ListN.{get_or}
use Rattle.geometry.specs.Count.{sum, span, box_sum}
use Rattle.geometry.proofs.Counting.{sum_zero, span_split, span_one, span_empty, box_cong, box_within, box_cut_rows, box_cut_columns}
use Rattle.tiles.specs.Sizes.{heaviest}
use Rattle.tiles.specs.Tiles.{TileBox, number_at}
use Rattle.tiles.specs.Sums.{Tabled, tiles_before, Loads, TilesInLayout, corner_sum, corner_of, corner_total, CornersOf, CornerSums}

-- ---- the load of a box by four corners

module _ {load : ℕ → ℕ → ℕ} {sums : List ℕ} {across : ℕ} {b : TileBox} (s : CornersOf load sums across) (h : TilesInLayout across b) where
  four_corners : corner_of sums across b.x2 b.y2 + corner_of sums across b.x1 b.y1
      ≡ corner_of sums across b.x1 b.y2 + corner_of sums across b.x2 b.y1 + box_sum b load
  four_corners =
      omega (
        arith,
        s.corners b.x2 b.y2 h.right h.high,
        s.corners b.x1 b.y1 (omega arith) (omega arith),
        s.corners b.x1 b.y2 (omega arith) h.high,
        s.corners b.x2 b.y1 h.right (omega arith),
        box_cut_rows 0 0 b.x2 b.y2 b.y1 load (omega arith) h.rows,
        box_cut_columns 0 b.y1 b.x2 b.y2 b.x1 load (omega arith) h.columns,
        box_cut_rows 0 0 b.x1 b.y2 b.y1 load (omega arith) h.rows,
      )

  -- the two that are added fit 64 bits, and those taken away hold no more
  pub far_light : corner_of sums across b.x2 b.y2 + corner_of sums across b.x1 b.y1 ≤ 2 * heaviest
  far_light = omega (arith, light b.x2 b.y2 h.right h.high, light b.x1 b.y1 (omega arith) (omega arith))
    where
      light : (x y : ℕ) → x ≤ across → y ≤ across → corner_of sums across x y ≤ heaviest
      light x y p q =
          omega (arith, s.corners x y p q, s.light, box_within (tiles_before x y) (tiles_before across across) load (omega arith) (omega arith) p q)

  pub near_less : corner_of sums across b.x1 b.y2 + corner_of sums across b.x2 b.y1
      ≤ corner_of sums across b.x2 b.y2 + corner_of sums across b.x1 b.y1
  near_less = omega (arith, four_corners)

  pub corner_total_lem : corner_total sums across b ≡ box_sum b load
  corner_total_lem = omega (arith, four_corners)

  pub load_light : {v : ℕ} → v ≡ corner_total sums across b → v ≤ heaviest
  load_light e =
      omega (arith, corner_total_lem, s.light, box_within b (tiles_before across across) load (omega arith) (omega arith) h.right h.high)

-- corners give the loads that they are of
pub corner_sums : {load : ℕ → ℕ → ℕ} {sums : List ℕ} {across : ℕ} → CornersOf load sums across → CornerSums sums across
corner_sums {load = load} {sums = sums} {across = across} s =
    record {
      few = s.few;
      full = s.full;
      light = omega (arith, s.light, same across across (omega arith) (omega arith));
      corners = λ x y h k. s.corners x y h k ∙ same x y h k;
    }
  where
    given : ℕ → ℕ → ℕ
    given i j = corner_total sums across (record { x1 = i; y1 = j; x2 = suc i; y2 = suc j })

    one : (i j : ℕ) → i < across → j < across → load i j ≡ given i j
    one i j h k =
        sym
        (corner_total_lem s (record { columns = omega arith; rows = omega arith; right = h; high = k })
        ∙ span_one j (λ y. span i (suc i) (λ x. load x y))
        ∙ span_one i (λ x. load x j))

    same : (x y : ℕ) → x ≤ across → y ≤ across → box_sum (tiles_before x y) load ≡ box_sum (tiles_before x y) given
    same x y h k = box_cong (tiles_before x y) load given (λ i j b. one i j (omega (arith, b.right)) (omega (arith, b.high)))

-- ---- a table of corner sums

no_columns : (l : List ℕ) (across y : ℕ) → box_sum (tiles_before 0 y) (number_at l across) ≡ 0
unfolding sum
no_columns l across y = sum_zero (y - 0)

module _ (loads : List ℕ) {sums : List ℕ} {across n : ℕ} (t : Tabled (corner_sum loads across) n sums) where
  corner_is : (x y : ℕ) → x ≤ across → y * across ≤ n → corner_of sums across x y ≡ box_sum (tiles_before x y) (number_at loads across)
  corner_is zero y h k = sym (no_columns loads across y)
  corner_is (suc x) zero h k = sym (span_empty 0 0 (λ y. span 0 (suc x) (λ x. number_at loads across x y)) (omega arith))
  corner_is (suc x) (suc y) h k =
      t.set (y * across + x) (omega (arith, suc-mul y across))
      ∙ ap₂ (λ (a b : ℕ). box_sum (tiles_before (suc a) (suc b)) (number_at loads across)) (digits_mod y {m = across} {r = x} h) (digits_div y {m = across} {r = x} h)

  pub summed : Loads loads across → n ≡ across * across → CornersOf (number_at loads across) sums across
  summed w e =
      record {
        few = w.few;
        full = omega (arith, t.size);
        light = w.light;
        corners = λ x y h k. corner_is x y h (omega (arith, mul-le-mul_right {m = y} {n = across} across k));
      }

  -- the next one adds the loads of its row
  module _ {j i run : ℕ} (w : Loads loads across) (row : j < across) (here : i < across) (e : n ≡ j * across + i)
      (so_far : run ≡ span 0 i (λ x. number_at loads across x j)) where
    pub run_next : run + get_or loads (j * across + i) 0 ≡ span 0 (i + 1) (λ x. number_at loads across x j)
    run_next =
        rw add-one
        (omega (
          arith,
          span_split 0 i (suc i) (λ x. number_at loads across x j) (omega arith) (omega arith),
          span_one i (λ x. number_at loads across x j),
        ))

    pub run_light : run + get_or loads (j * across + i) 0 ≤ heaviest
    run_light =
        omega (
          arith,
          run_next,
          w.light,
          span_one j (λ y. span 0 (i + 1) (λ x. number_at loads across x y)),
          box_within (record { x1 = 0; y1 = j; x2 = i + 1; y2 = suc j }) (tiles_before across across) (number_at loads across) (omega arith) (omega arith) (omega arith) row,
        )

    sum_is : {v : ℕ} → v ≡ corner_of sums across (i + 1) j →
        run + get_or loads (j * across + i) 0 + v ≡ box_sum (tiles_before (i + 1) (suc j)) (number_at loads across)
    sum_is p =
        omega (
          arith,
          run_next,
          p ∙ corner_is (i + 1) j (omega arith) (omega arith),
          box_cut_rows 0 0 (i + 1) (suc j) j (number_at loads across) (omega arith) (omega arith),
          span_one j (λ y. span 0 (i + 1) (λ x. number_at loads across x y)),
        )

    pub sum_light : {v : ℕ} → v ≡ corner_of sums across (i + 1) j → run + get_or loads (j * across + i) 0 + v ≤ heaviest
    sum_light p =
        omega (
          arith,
          sum_is p,
          w.light,
          box_within (tiles_before (i + 1) (suc j)) (tiles_before across across) (number_at loads across) (omega arith) (omega arith) (omega arith) row,
        )

    pub sum_formed : {v : ℕ} → v ≡ corner_of sums across (i + 1) j → run + get_or loads (j * across + i) 0 + v ≡ corner_sum loads across n
    sum_formed p =
        sum_is p
        ∙ ap (λ (k : ℕ). box_sum (tiles_before k (suc j)) (number_at loads across)) (add-one i)
        ∙ ap₂ (λ (a b : ℕ). box_sum (tiles_before (suc a) (suc b)) (number_at loads across))
        (sym (digits_mod j {m = across} {r = i} here) ∙ ap (λ (k : ℕ). k % across) (sym e))
        (sym (digits_div j {m = across} {r = i} here) ∙ ap (λ (k : ℕ). k / across) (sym e))
