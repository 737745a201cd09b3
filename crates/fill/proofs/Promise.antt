-- What the verdict promises of every placement: after "safe" every window position keeps both bounds, on the tile grid or off it; after
-- "broken" the named window breaks the named bound.
use Prim.Native.Nat.{ℕ, suc, ◌+◌, ◌-◌, ◌*◌, ◌/◌, ◌≤◌, ◌<◌, min}
use mathlib.Core.Path.{◌≡◌, refl, sym, ap, ap₂, ◌∙◌, subst}
use mathlib.Core.Bool.{Bool, true, false}
use mathlib.Core.List.{List}
use mathlib.Core.Logic.{◌⊎◌, inl, inr}
use native.Mathlib.Nat.{mul-le-mul_right, suc-mul, add-mul, mul_comm, mul-sub, min-eq_left, min-eq_right, le_of_lt, div-mul-le_self, lt-div-mul-add, div-lt_iff_lt-mul}
use native.Mathlib.Omega.{arith}
use lib.Dec.{T}
use Rattle.std.specs.Prelude.{Option, None, Some}
use Rattle.laws.proofs.Tests.{le_or_lt}
use Rattle.geometry.specs.declared.Rect.{Rect}
use Rattle.geometry.specs.Count.{box_sum, one_if}
use Rattle.geometry.specs.Layout.{covered, covered_area, window_box}
use Rattle.geometry.proofs.Counting.{box_cong, box_plus, box_within}
use Rattle.spacing.specs.declared.Keepout.{Keepout}
use Rattle.tiles.specs.declared.Plan.{Plan}
use Rattle.fill.specs.declared.Bound.{Bound}
use Rattle.fill.specs.declared.Bound.TheVariants.{Over, Under}
use Rattle.fill.specs.declared.Failure.{Failure}
use Rattle.fill.specs.declared.Verdict.TheVariants.{Safe, Broken}
use Rattle.spacing.specs.Eligible.{tile}
use Rattle.geometry.specs.Bounds.{keeps_upper, keeps_lower}
use Rattle.geometry.proofs.Bounding.{keeps_less, keeps_more}
use Rattle.tiles.specs.Tiles.{load}
use Rattle.fill.specs.Judge.{standard_tiles, bloated_tiles, shrunk_tiles, failing_at, starts_across, standard_failing, margin_failing, judged, verdict_of}
use Rattle.fill.specs.Placement.{Placement, chosen_area, placed_sum, keeps}
use Rattle.fill.proofs.Tiles.{box_tiles}
use Rattle.fill.proofs.Starts.{rows_none, rows_found, First}

-- ---- tests

-- a start that fails no bound keeps both
keeps_both : (plan : Plan) (i j for_upper for_lower : ℕ) → failing_at plan i j for_upper for_lower ≡ None →
    T (keeps_upper plan.upper plan.window for_upper) × T (keeps_lower plan.lower plan.window for_lower)
keeps_both plan i j for_upper for_lower = go (keeps_upper plan.upper plan.window for_upper) (keeps_lower plan.lower plan.window for_lower)
  where
    go : (a b : Bool) →
        ◌≡◌ {A = Option Failure} (elim a [
          | false ↦ Some (record { bound = Over; column = i; row = j })
          | true ↦ elim b [ false ↦ Some (record { bound = Under; column = i; row = j }) | true ↦ None ]
        ])
        None → T a × T b
    go true true e = (tt, tt)
    go true false e = cc
    go false b e = cc

keeps_bound : (b : Bound) (plan : Plan) (i j total : ℕ) → failing_at plan i j total total ≡ None → T (keeps b plan total)
keeps_bound Over plan i j total e = (keeps_both plan i j total total e).0
keeps_bound Under plan i j total e = (keeps_both plan i j total total e).1

-- a start that fails is the one named, and breaks the bound named
pub record Breaks (plan : Plan) (total x y : ℕ) (v : Failure) : Type 0 where
  pub column : x ≡ v.column
  pub row : y ≡ v.row
  pub broken : T (keeps v.bound plan total) → ⊥

failed_one : (v : Failure) (plan : Plan) (x y total : ℕ) → failing_at plan x y total total ≡ Some v → Breaks plan total x y v
failed_one v plan x y total e = go (keeps_upper plan.upper plan.window total) refl (keeps_lower plan.lower plan.window total) refl e
  where
    failure : Bound → Failure
    failure b = record { bound = b; column = x; row = y }

    named : (b : Bound) → (T (keeps b plan total) → ⊥) → Some (failure b) ≡ Some v → Breaks plan total x y v
    named b k e =
        let same : failure b ≡ v = cc in
        subst (Breaks plan total x y) same (record { column = refl; row = refl; broken = k })

    go : (p : Bool) → keeps_upper plan.upper plan.window total ≡ p → (q : Bool) → keeps_lower plan.lower plan.window total ≡ q →
        ◌≡◌ {A = Option Failure} (elim p [ false ↦ Some (failure Over) | true ↦ elim q [ false ↦ Some (failure Under) | true ↦ None ] ]) (Some v) →
        Breaks plan total x y v
    go false s q t e = named Over (λ k. subst T s k) e
    go true s false t e = named Under (λ k. subst T t k) e
    go true s true t e = cc

judged_safe : (o m : Option Failure) → judged o m ≡ Safe → (o ≡ None) × (m ≡ None)
judged_safe None None e = (refl, refl)
judged_safe None (Some v) e = cc
judged_safe (Some v) m e = cc

judged_broken : (o m : Option Failure) (v : Failure) → judged o m ≡ Broken v → o ≡ Some v
judged_broken None None v e = cc
judged_broken None (Some w) v e = cc
judged_broken (Some w) m v e = cc

-- ---- sums

-- metal and fill on a unit square
abbrev metal : List Rect → (ℕ → ℕ → Bool) → ℕ → ℕ → ℕ
metal rs chosen x y = one_if (covered rs x y) + one_if (chosen x y)

metal_box : (rs : List Rect) (chosen : ℕ → ℕ → Bool) (b : Rect) → box_sum b (metal rs chosen) ≡ covered_area rs b + chosen_area chosen b
metal_box rs chosen b = box_plus b (λ x y. one_if (covered rs x y)) (λ x y. one_if (chosen x y))

-- the window and the layout are made of whole tiles, and the window fits the layout
pub record Dissected (plan : Plan) (size : ℕ) : Type 0 where
  pub window : plan.window ≡ plan.cut * plan.side
  pub layout : size ≡ plan.across * plan.side
  pub fits : plan.cut ≤ plan.across

-- the bloated window reaches past the window, or to the edge of the layout
reach : (side i cut across w x : ℕ) → w ≡ cut * side → x < i * side + side → x + w ≤ across * side → x + w ≤ min (suc (i + cut)) across * side
reach side i cut across w x e h k = go (le_or_lt (suc (i + cut)) across)
  where
    go : (suc (i + cut) ≤ across) ⊎ (across < suc (i + cut)) → x + w ≤ min (suc (i + cut)) across * side
    go (inl l) = rw (min-eq_left l) (omega (arith, suc-mul (i + cut) side, add-mul i cut side))
    go (inr l) = rw (min-eq_right (le_of_lt l)) k

-- a start whose sum breaks the bound named, where all starts before it keep both bounds: rows in order, in a row columns in order
pub record FirstBroken (plan : Plan) (total : ℕ → ℕ → ℕ) (v : Failure) : Type 0 where
  pub column : v.column ≤ plan.across - plan.cut
  pub row : v.row ≤ plan.across - plan.cut
  pub breaks : T (keeps v.bound plan (total v.column v.row)) → ⊥
  pub rows_before : (c : Bound) (i j : ℕ) → i ≤ plan.across - plan.cut → j < v.row → T (keeps c plan (total i j))
  pub columns_before : (c : Bound) (i : ℕ) → i < v.column → T (keeps c plan (total i v.row))

module _ (ks : List Keepout) (rs : List Rect) (amounts : List ℕ) (plan : Plan) (size : ℕ) (whole : Dissected plan size) (chosen : ℕ → ℕ → Bool)
    (p : Placement ks amounts plan chosen) where
  abbrev across : ℕ
  across = plan.across

  abbrev cut : ℕ
  cut = plan.cut

  abbrev side : ℕ
  side = plan.side

  abbrev loads : ℕ → ℕ → ℕ
  loads = load rs amounts plan

  abbrev placed : ℕ → ℕ → ℕ
  placed x y = placed_sum rs chosen plan.window x y

  -- whole tiles hold their loads
  tiles_load : (x1 y1 x2 y2 : ℕ) → x2 ≤ across → y2 ≤ across →
      box_sum (record { x1 = x1 * side; y1 = y1 * side; x2 = x2 * side; y2 = y2 * side }) (metal rs chosen)
      ≡ box_sum (record { x1 = x1; y1 = y1; x2 = x2; y2 = y2 }) loads
  tiles_load x1 y1 x2 y2 hx hy =
      box_tiles x1 y1 x2 y2 side (metal rs chosen)
      ∙ box_cong (record { x1 = x1; y1 = y1; x2 = x2; y2 = y2 }) (λ i j. box_sum (tile side i j) (metal rs chosen)) loads
      (λ i j q. metal_box rs chosen (tile side i j) ∙ ap (λ (s : ℕ). covered_area rs (tile side i j) + s) (p.stated i j (omega arith) (omega arith)))

  module _ (x y : ℕ) (pos : 1 ≤ side) (hx : x ≤ size - plan.window) (hy : y ≤ size - plan.window) where
    inside_layout : (v : ℕ) → v ≤ size - plan.window → v + plan.window ≤ across * side
    inside_layout v h = omega (arith, whole.window, whole.layout, mul-le-mul_right side whole.fits)

    start_small : (v : ℕ) → v ≤ size - plan.window → v / side < starts_across plan
    start_small v h =
        (div-lt_iff_lt-mul {k = side} pos).1
        (omega (
          arith,
          whole.window,
          inside_layout v h,
          suc-mul (across - cut) side,
          mul_comm (across - cut) side,
          mul-sub side across cut,
          mul_comm side across,
          mul_comm side cut,
        ))

    bloated_more : placed x y ≤ box_sum (bloated_tiles plan (x / side) (y / side)) loads
    bloated_more =
        omega (
          arith,
          metal_box rs chosen (window_box plan.window x y),
          box_within (window_box plan.window x y)
              (record {
                x1 = (x / side) * side;
                y1 = (y / side) * side;
                x2 = min (suc (x / side + cut)) across * side;
                y2 = min (suc (y / side + cut)) across * side;
              })
              (metal rs chosen) (div-mul-le_self x side) (div-mul-le_self y side)
              (reach side (x / side) cut across plan.window x whole.window (lt-div-mul-add {a = x} {b = side} pos) (inside_layout x hx))
              (reach side (y / side) cut across plan.window y whole.window (lt-div-mul-add {a = y} {b = side} pos) (inside_layout y hy)),
          tiles_load (x / side) (y / side) (min (suc (x / side + cut)) across) (min (suc (y / side + cut)) across) (omega arith) (omega arith),
        )

    shrunk_less : box_sum (shrunk_tiles plan (x / side) (y / side)) loads ≤ placed x y
    shrunk_less =
        omega (
          arith,
          metal_box rs chosen (window_box plan.window x y),
          box_within
              (record { x1 = suc (x / side) * side; y1 = suc (y / side) * side; x2 = (x / side + cut) * side; y2 = (y / side + cut) * side })
              (window_box plan.window x y) (metal rs chosen)
              (omega (arith, suc-mul (x / side) side, lt-div-mul-add {a = x} {b = side} pos))
              (omega (arith, suc-mul (y / side) side, lt-div-mul-add {a = y} {b = side} pos))
              (omega (arith, whole.window, add-mul (x / side) cut side, div-mul-le_self x side))
              (omega (arith, whole.window, add-mul (y / side) cut side, div-mul-le_self y side)),
          tiles_load (suc (x / side)) (suc (y / side)) (x / side + cut) (y / side + cut) (omega (arith, start_small x hx)) (omega (arith, start_small y hy)),
        )

  -- ---- the promises

  -- after "safe" every position keeps both bounds
  pub safe_keeps : 1 ≤ side → verdict_of rs amounts plan ≡ Safe → (b : Bound) (x y : ℕ) → x ≤ size - plan.window → y ≤ size - plan.window →
      T (keeps b plan (placed x y))
  unfolding margin_failing
  safe_keeps pos e b x y hx hy = go b
    where
      nowhere : margin_failing loads plan ≡ None
      nowhere = (judged_safe (standard_failing loads plan) (margin_failing loads plan) e).1

      for_upper : ℕ
      for_upper = box_sum (bloated_tiles plan (x / side) (y / side)) loads

      for_lower : ℕ
      for_lower = box_sum (shrunk_tiles plan (x / side) (y / side)) loads

      both : T (keeps_upper plan.upper plan.window for_upper) × T (keeps_lower plan.lower plan.window for_lower)
      both =
          keeps_both plan (x / side) (y / side) for_upper for_lower
          (rows_none (λ i j. failing_at plan i j (box_sum (bloated_tiles plan i j) loads) (box_sum (shrunk_tiles plan i j) loads)) (starts_across plan)
          (starts_across plan) nowhere (x / side) (y / side) (start_small x y pos hx hy x hx) (start_small x y pos hx hy y hy))

      go : (b : Bound) → T (keeps b plan (placed x y))
      go Over = keeps_less plan.upper plan.window (placed x y) for_upper (bloated_more x y pos hx hy) both.0
      go Under = keeps_more plan.lower plan.window for_lower (placed x y) (shrunk_less x y pos hx hy) both.1

  -- the sum of a window on the tile grid is its tiles' load
  on_grid : (i j : ℕ) → i ≤ across - cut → j ≤ across - cut → placed (i * side) (j * side) ≡ box_sum (standard_tiles plan i j) loads
  on_grid i j hi hj =
      sym (metal_box rs chosen (window_box plan.window (i * side) (j * side)))
      ∙ ap₂ (λ (a b : ℕ). box_sum (record { x1 = i * side; y1 = j * side; x2 = a; y2 = b }) (metal rs chosen)) (tiles_end i) (tiles_end j)
      ∙ tiles_load i j (i + cut) (j + cut) (omega (arith, whole.fits)) (omega (arith, whole.fits))
    where
      tiles_end : (v : ℕ) → v * side + plan.window ≡ (v + cut) * side
      tiles_end v = omega (arith, whole.window, add-mul v cut side)

  -- after "broken" the named window is one, breaks the named bound, and every window at an earlier start keeps both
  pub broken_breaks : (v : Failure) → verdict_of rs amounts plan ≡ Broken v → FirstBroken plan (λ i j. placed (i * side) (j * side)) v
  unfolding standard_failing
  broken_breaks v e =
      record {
        column = small;
        row = low;
        breaks = λ k. named.broken (subst (λ (s : ℕ). T (keeps v.bound plan s)) here k);
        rows_before = λ c i j hi hj. on_bound c i j hi (omega (arith, low)) (found.rows_before i j (omega arith) (omega (arith, named.row)));
        columns_before = λ c i hi.
            on_bound c i v.row (omega (arith, small)) low
            (subst (λ (j : ℕ). failing_at plan i j (total i j) (total i j) ≡ None) named.row (found.columns_before i (omega (arith, named.column))));
      }
    where
      found : First (λ i j. let s = box_sum (standard_tiles plan i j) loads in failing_at plan i j s s) (starts_across plan) (starts_across plan) v
      found =
          rows_found (λ i j. let s = box_sum (standard_tiles plan i j) loads in failing_at plan i j s s) (starts_across plan) (starts_across plan) v
          (judged_broken (standard_failing loads plan) (margin_failing loads plan) v e)

      total : ℕ → ℕ → ℕ
      total i j = box_sum (standard_tiles plan i j) loads

      named : Breaks plan (total found.column found.row) found.column found.row v
      named = failed_one v plan found.column found.row (total found.column found.row) found.here

      small : v.column ≤ across - cut
      small = omega (arith, named.column, found.across)

      low : v.row ≤ across - cut
      low = omega (arith, named.row, found.down)

      here : placed (v.column * side) (v.row * side) ≡ total found.column found.row
      here = on_grid v.column v.row small low ∙ ap₂ total (sym named.column) (sym named.row)

      on_bound : (c : Bound) (i j : ℕ) → i ≤ across - cut → j ≤ across - cut → failing_at plan i j (total i j) (total i j) ≡ None →
          T (keeps c plan (placed (i * side) (j * side)))
      on_bound c i j hi hj k = subst (λ (s : ℕ). T (keeps c plan s)) (sym (on_grid i j hi hj)) (keeps_bound c plan i j (total i j) k)
