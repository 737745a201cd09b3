-- Tables of regions: what is free by one is fillable by the shapes; and that of no shape, and of one shape more.
use Prim.Native.Nat.{ℕ, ◌<◌}
use mathlib.Core.Path.{◌≡◌, refl, sym, ap, ap₂, ◌∙◌}
use mathlib.Core.Bool.{not, ◌||◌}
use mathlib.Core.List.{List, [], ◌∷◌, ◌++◌}
use native.Mathlib.Omega.{arith}
use lib.ListN.{length, length-append}
use Rattle.std.specs.List.{AllZip}
use Rattle.geometry.specs.declared.Rect.{Rect}
use Rattle.geometry.specs.Count.{one_if}
use Rattle.geometry.proofs.Counting.{box_cong}
use Rattle.spacing.specs.declared.Keepout.{Keepout}
use Rattle.spacing.specs.declared.region.Region.{Region}
use Rattle.spacing.specs.Eligible.{eligible, fillable_area}
use Rattle.spacing.specs.Regions.{reaches, IsRegionOf, Regions}
use Rattle.spacing.specs.Sizes.{live_room}
use Rattle.spacing.proofs.Outside.{held_for, eligible_outside}
use Rattle.free.specs.Free.{held_by, free_in}

-- the regions of shapes hold what is held for the shapes
held_shapes : (t : List Region) (ks : List Keepout) (x y : ℕ) → AllZip IsRegionOf ks t → held_by t x y ≡ held_for ks x y
unfolding held_for
held_shapes [] [] x y e = refl
held_shapes [] (k ∷ ks) x y e = absurd e
held_shapes (r ∷ t) [] x y e = absurd e
held_shapes (r ∷ t) (k ∷ ks) x y e = ap₂ ◌||◌ (ap₂ (λ (c : Rect) (m : ℕ). reaches c m x y) e.0.core e.0.reach) (held_shapes t ks x y e.1)

pub regions_fillable : (t : List Region) (ks : List Keepout) (b : Rect) → Regions t ks → free_in t b ≡ fillable_area ks b
regions_fillable t ks b e =
    box_cong b (λ x y. one_if (not (held_by t x y))) (λ x y. one_if (eligible ks x y))
    (λ x y i. ap one_if (ap not (held_shapes t ks x y e.each) ∙ sym (eligible_outside ks x y)))

-- ---- no shape, and one more

pub regions_none : Regions [] []
regions_none = record { each = tt; few = omega arith }

each_more : (t : List Region) (ks : List Keepout) (r : Region) (k : Keepout) → AllZip IsRegionOf ks t → IsRegionOf k r → AllZip IsRegionOf (ks ++ (k ∷ [])) (t ++ (r ∷ []))
each_more [] [] r k e f = (f, tt)
each_more [] (j ∷ ks) r k e f = absurd e
each_more (s ∷ t) [] r k e f = absurd e
each_more (s ∷ t) (j ∷ ks) r k e f = (e.0, each_more t ks r k e.1 f)

pub regions_more : (t : List Region) (ks : List Keepout) (r : Region) (k : Keepout) → Regions t ks → IsRegionOf k r → length t < live_room →
    Regions (t ++ (r ∷ [])) (ks ++ (k ∷ []))
regions_more t ks r k e f h = record { each = each_more t ks r k e.each f; few = omega (arith, length-append t (r ∷ [])) }
