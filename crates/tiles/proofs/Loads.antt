-- The table of tile loads: how it is filled, and that its whole load fits 64 bits.
use Prim.Native.Nat.{ℕ, suc, ◌+◌, ◌-◌, ◌*◌, ◌≤◌, ◌<◌}
use mathlib.Core.Path.{◌≡◌, refl, sym, ap, ap₂, ◌∙◌}
use mathlib.Core.List.{List, [], ◌∷◌, ◌++◌}
use mathlib.Core.Logic.{◌⊎◌, inl, inr}
use native.Mathlib.Nat.{sub-zero, suc-mul, mul-le-mul, mul-le-mul_right}
use native.Mathlib.Numerals.{add-one}
use native.Mathlib.Omega.{arith}
use lib.Arith.{digits_lt, digits_div, digits_mod}
use lib.ListN.{get_or, length-append, get_or-append}
use lib.Seq.{get_or-append_seam}
use Rattle.laws.proofs.Tests.{below_or_last}
use Rattle.geometry.specs.declared.Rect.{Rect}
use Rattle.geometry.specs.Sizes.{widest, largest}
use Rattle.geometry.specs.Count.{box_sum}
use Rattle.geometry.specs.Layout.{covered_area}
use Rattle.geometry.proofs.Counting.{same_box, Inside, box_cong, box_le, box_const}
use Rattle.geometry.proofs.Overlaps.{area_small}
use Rattle.sweep.specs.declared.strips.Strip.{Strip}
use Rattle.sweep.specs.Sweeps.{strip_area}
use Rattle.spacing.specs.declared.Keepout.{Keepout}
use Rattle.tiles.specs.declared.Plan.{Plan}
use Rattle.spacing.specs.Eligible.{tile, fillable_area}
use Rattle.tiles.specs.Tiles.{TileBox, number_at, load}
use Rattle.tiles.specs.Sums.{load_of, TileRow, tiles_before, Loads, TilesInLayout, Tabled}
use Rattle.tiles.specs.Sizes.{most_across, tiles_room, Tiled}
use Rattle.spacing.proofs.Outside.{fillable_small}

-- tile (i, j) has a place in a table with a number for each tile
pub place_within : (across i j m : ℕ) → i < across → j < across → across * across ≤ m → j * across + i < m
place_within across i j m h k l = omega (arith, digits_lt {q = j} {m = across} {r = i} {c = across} k h)

-- ---- a table that is filled, number by number

pub tabled_to : {f : ℕ → ℕ} {n m : ℕ} {table : List ℕ} → Tabled f n table → n ≡ m → Tabled f m table
tabled_to s e = rw (← e) s

pub tabled_more : {f : ℕ → ℕ} {n m : ℕ} {table more : List ℕ} {v : ℕ} → Tabled f n table → v ≡ f n → more ≡ table ++ (v ∷ []) → m ≡ n + 1 → Tabled f m more
tabled_more {f = f} {n = n} {table = table} {v = v} s h e q =
    rw (e, q) (record { size = simp length-append (omega (arith, s.size)); set = λ k u. go k (below_or_last k n (omega arith)) })
  where
    go : (k : ℕ) → (k < n) ⊎ (k ≡ n) → get_or (table ++ (v ∷ [])) k 0 ≡ f k
    go k (inl u) = get_or-append table (v ∷ []) 0 k (omega (arith, s.size)) ∙ s.set k u
    go k (inr p) = ap (λ (i : ℕ). get_or (table ++ (v ∷ [])) i 0) (p ∙ sym s.size) ∙ get_or-append_seam table v [] 0 ∙ h ∙ ap f (sym p)

-- a tile's width
tile_width : (side i : ℕ) → suc i * side - i * side ≡ side
tile_width side i = omega (arith, suc-mul i side)

tile_small : (rs : List Rect) (side i j : ℕ) → covered_area rs (tile side i j) ≤ side * side
tile_small rs side i j = omega (arith, area_small rs (tile side i j), ap₂ ◌*◌ (tile_width side i) (tile_width side j))

-- a tile takes no more fill than its area, so an amount that fits its tile meets `Tiled`
pub tile_fillable : (ks : List Keepout) (side i j : ℕ) → fillable_area ks (tile side i j) ≤ side * side
tile_fillable ks side i j = omega (arith, fillable_small ks (tile side i j), ap₂ ◌*◌ (tile_width side i) (tile_width side j))

-- ---- a row of tiles by its strip

-- tile i ends where the next one begins
pub tile_end : (side i : ℕ) → i * side ≤ (i + 1) * side
tile_end side i = mul-le-mul_right side (omega arith)

module _ {strip : Strip} {amounts : List ℕ} {plan : Plan} {j i : ℕ} (z : Tiled amounts plan) (r : TileRow strip plan j) (h : i < plan.across) where
  module _ {s : Strip} {area : ℕ} (same : s ≡ strip) (e : area ≡ strip_area s (i * plan.side) ((i + 1) * plan.side)) where
    abbrev rects : List Rect
    rects = strip.sorted.now.rects.now

    tile_area : area ≡ covered_area rects (tile plan.side i j)
    tile_area =
        e
        ∙ ap (λ (s : Strip). strip_area s (i * plan.side) ((i + 1) * plan.side)) same
        ∙ ap (covered_area rects) (same_box refl r.low (ap (λ (k : ℕ). k * plan.side) (add-one i)) r.high)

    pub load_light : area + get_or amounts (j * plan.across + i) 0 ≤ 2 * largest
    load_light =
        let side : plan.side ≤ widest = omega (arith, z.layout, mul-le-mul_right {m = 1} {n = plan.across} plan.side (omega arith)) in
        omega (arith, tile_area, tile_small rects plan.side i j, z.room (j * plan.across + i), mul-le-mul side side)

    pub load_formed : area + get_or amounts (j * plan.across + i) 0 ≡ load_of rects amounts plan (j * plan.across + i)
    load_formed =
        ap (λ (a : ℕ). a + get_or amounts (j * plan.across + i) 0) tile_area
        ∙ sym (ap₂ (load rects amounts plan) (digits_mod j {m = plan.across} {r = i} h) (digits_div j {m = plan.across} {r = i} h))

-- ---- the table of loads

module _ (rects : List Rect) (amounts : List ℕ) (plan : Plan) {table : List ℕ} (s : Tabled (load_of rects amounts plan) (plan.across * plan.across) table) where
  abbrev across : ℕ
  across = plan.across

  abbrev loads : ℕ → ℕ → ℕ
  loads = load rects amounts plan

  table_load : (i j : ℕ) → i < across → j < across → number_at table across i j ≡ loads i j
  table_load i j h k =
      s.set (j * across + i) (place_within across i j (across * across) h k (omega arith))
      ∙ ap₂ loads (digits_mod j {m = across} {r = i} h) (digits_div j {m = across} {r = i} h)

  pub table_light : Tiled amounts plan → Loads table across
  table_light t =
      record {
        few = t.few;
        full = omega (arith, s.size);
        light =
            omega (
              arith,
              box_le (tiles_before across across) (number_at table across) (λ x y. 2 * (plan.side * plan.side)) (λ x y i. small x y i),
              box_const (tiles_before across across) (2 * (plan.side * plan.side)) ∙ ap (λ (v : ℕ). v * (v * (2 * (plan.side * plan.side)))) (sub-zero across),
              mul-le-mul t.layout t.layout,
            );
      }
    where
      small : (x y : ℕ) → Inside (tiles_before across across) x y → number_at table across x y ≤ 2 * (plan.side * plan.side)
      small x y i = omega (arith, table_load x y i.right i.high, tile_small rects plan.side x y, t.room (y * across + x))

  pub box_load : (b : TileBox) → TilesInLayout across b → box_sum b (number_at table across) ≡ box_sum b loads
  box_load b h = box_cong b (number_at table across) loads (λ x y i. table_load x y (omega arith) (omega arith))

-- ---- 64 bits

pub tiles_few : (n : ℕ) → n ≤ most_across → n * n ≤ tiles_room
tiles_few n h = mul-le-mul h h
