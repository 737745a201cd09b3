-- What a good head says in plain numbers.
use Prim.Native.Nat.{ℕ, zero, suc, ◌*◌, ◌/◌, ◌%◌, ◌≤◌, ◌<◌}
use mathlib.Core.Path.{◌≡◌, sym, ◌∙◌}
use mathlib.Core.Bool.{true}
use native.Mathlib.Nat.{div-add-mod', mul_comm, mul-le-mul_right, le_trans, le_of_mul-le-mul_right}
use native.Mathlib.Omega.{arith}
use lib.Dec.{eqb}
use borrow.Author.Tests.{eqb-true}
use Rattle.forms.specs.declared.Head.{Head}
use Rattle.forms.specs.declared.Kind.{Kind}
use Rattle.forms.specs.Limits.{Limits, unit_limits}
use Rattle.forms.specs.Shapes.{gap_for}
use Rattle.forms.specs.Forms.{tile_side, tiles_across, agrees, GoodHead}
use Rattle.forms.proofs.Spans.{gap_between_lem, Ranges, ranges}

pub record HeadFacts (h : Head) : Type 0 where
  pub window_least : 1 ≤ h.window
  pub window_most : h.window ≤ h.size
  pub size_most : h.size ≤ unit_limits.side
  pub gap_most : (k : Kind) → gap_for h.gap k ≤ unit_limits.side
  pub bounds_order : h.lower ≤ h.upper
  pub bounds_most : h.upper ≤ unit_limits.bound
  pub accuracy_most : h.accuracy ≤ unit_limits.accuracy
  pub levels_least : 1 ≤ h.levels
  pub side_least : 1 ≤ tile_side h
  pub window_tiles : h.window ≡ h.cut * tile_side h
  pub size_tiles : h.size ≡ tiles_across h * tile_side h
  pub tiles_most : tiles_across h ≤ unit_limits.tiles
  pub cut_tiles : h.cut ≤ tiles_across h

-- a number that another divides is so many times it
times : (n m : ℕ) → eqb (n % m) 0 ≡ true → n ≡ n / m * m
times n m e = sym (div-add-mod' n m) ∙ (let z = eqb-true (n % m) 0 e in omega arith)

pub positive : (n m : ℕ) → 1 ≤ n * m → 1 ≤ n
positive zero m h = absurd (omega arith)
positive (suc n) m h = omega arith

pub record Agreement (m : Limits) (h : Head) : Type 0 where
  pub fits : h.window ≤ h.size
  pub cut_divides : h.window ≡ tile_side h * h.cut
  pub side_divides : h.size ≡ tiles_across h * tile_side h
  pub few : tiles_across h ≤ m.tiles
  pub order : h.lower ≤ h.upper

pub agreement : (m : Limits) (h : Head) → agrees m h ≡ true → Agreement m h
agreement m h e =
    record {
      fits = grind arith;
      cut_divides = times h.window h.cut (grind arith);
      side_divides = times h.size (tile_side h) (grind arith);
      few = grind arith;
      order = grind arith;
    }

pub head_facts : (h : Head) → GoodHead h → HeadFacts h
head_facts h g =
    record {
      window_least = r.window.least;
      window_most = a.fits;
      size_most = r.size.most;
      gap_most = λ k. (gap_between_lem unit_limits h.gap k r.gap).most;
      bounds_order = a.order;
      bounds_most = r.upper.most;
      accuracy_most = r.accuracy.most;
      levels_least = r.levels.least;
      side_least = side;
      window_tiles = by_cut;
      size_tiles = a.side_divides;
      tiles_most = a.few;
      cut_tiles = le_of_mul-le-mul_right (rw (← by_cut, ← a.side_divides) a.fits) side;
    }
  where
    r : Ranges unit_limits h
    r = ranges unit_limits h g.range

    a : Agreement unit_limits h
    a = agreement unit_limits h g.agreement

    by_cut : h.window ≡ h.cut * tile_side h
    by_cut = a.cut_divides ∙ mul_comm (tile_side h) h.cut

    side : 1 ≤ tile_side h
    side = positive (tile_side h) h.cut (omega (arith, a.cut_divides, r.window.least))

-- the far corner of a tile lies in the layout
pub tile_end : (h : Head) (i : ℕ) → HeadFacts h → i < tiles_across h → suc i * tile_side h ≤ unit_limits.side
tile_end h i f k = le_trans (mul-le-mul_right (tile_side h) k) (omega (arith, f.size_tiles, f.size_most))
