-- What lists of regions hold, one region after the other.
use Prim.Native.Nat.{ℕ}
use mathlib.Core.Path.{◌≡◌, refl, ap}
use mathlib.Core.Bool.{Bool, false, not, ◌||◌, or-false}
use mathlib.Core.List.{List, [], ◌∷◌, ◌++◌}
use Rattle.std.proofs.lemmas.List.Folds.{list_any-append}
use Rattle.geometry.specs.declared.Rect.{Rect}
use Rattle.geometry.specs.Count.{one_if}
use Rattle.geometry.proofs.Counting.{box_cong}
use Rattle.spacing.specs.declared.region.Region.{Region}
use Rattle.spacing.specs.Regions.{holds_square}
use Rattle.free.specs.Free.{held_by, free_in, AgreeOn}

pub held_none : (x y : ℕ) → held_by [] x y ≡ false
held_none x y = refl

pub held_one : (r : Region) (x y : ℕ) → held_by (r ∷ []) x y ≡ holds_square r x y
held_one r x y = or-false (holds_square r x y)

pub held_append : (rs ss : List Region) (x y : ℕ) → held_by (rs ++ ss) x y ≡ (held_by rs x y || held_by ss x y)
held_append rs ss x y = list_any-append (λ r. holds_square r x y) rs ss

-- where they hold the same squares of a box, the same are free
pub agree_free : (rs ss : List Region) (b : Rect) → AgreeOn b (held_by rs) (held_by ss) → free_in rs b ≡ free_in ss b
agree_free rs ss b s =
    box_cong b (λ x y. one_if (not (held_by rs x y))) (λ x y. one_if (not (held_by ss x y)))
    (λ x y n. ap (λ (u : Bool). one_if (not u)) (s x y n.left n.right n.low n.high))
