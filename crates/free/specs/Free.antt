-- What the code counts in place of eligible squares: those that no region of a table holds. A buyer need not read it: proofs/RegionTables.antt
-- shows that they are the eligible ones.
use Rattle.std.specs.Prelude.{ℕ, ◌-◌, ◌≤◌, ◌<◌, ◌≡◌, Bool, not, List, length, take, drop}
use Rattle.std.specs.List.{list_any}
use Rattle.geometry.specs.declared.Rect.{Rect}
use Rattle.geometry.specs.Count.{one_if, box_sum}
use Rattle.spacing.specs.declared.Keepout.{Keepout}
use Rattle.spacing.specs.declared.region.Region.{Region}
use Rattle.free.specs.declared.Part.{Part}
use Rattle.spacing.specs.Eligible.{fillable_area}
use Rattle.spacing.specs.Regions.{holds_square, Regions}

-- one of the things in a list holds the square, by a test of what each holds
abbrev pub any_holds : {A : Type 0} → (A → ℕ → ℕ → Bool) → List A → (x y : ℕ) → Bool
any_holds holds things x y = list_any (λ a. holds a x y) things

-- one of the regions does
abbrev pub held_by : List Region → (x y : ℕ) → Bool
held_by rs x y = any_holds holds_square rs x y

-- the squares of a box that none of them holds
abbrev pub free_in : List Region → Rect → ℕ
free_in rs b = box_sum b (λ x y. one_if (not (held_by rs x y)))

-- two tests agree on the squares of a box
abbrev pub AgreeOn : Rect → (f g : ℕ → ℕ → Bool) → Type 0
AgreeOn b f g = (x y : ℕ) → b.x1 ≤ x → x < b.x2 → b.y1 ≤ y → y < b.y2 → f x y ≡ g x y

-- what stands in a part of a table
abbrev pub part_of : {A : Type 0} → List A → Part → List A
part_of table p = take (p.to - p.from) (drop p.from table)

-- a part has all that decides on the squares of a box, by a test of what each thing in the table holds
pub record ServesBy {A : Type 0} (holds : A → ℕ → ℕ → Bool) (table : List A) (b : Rect) (p : Part) : Type 0 where
  pub order : p.from ≤ p.to
  pub within : p.to ≤ length table
  pub same : AgreeOn b (any_holds holds (part_of table p)) (any_holds holds table)

-- and by what its regions hold
abbrev pub Serves : (table : List Region) → Rect → Part → Type 0
Serves table b p = ServesBy holds_square table b p

-- a number is the fillable area of a box, where the table has the regions of shapes
abbrev pub Fillable : (table : List Region) → Rect → ℕ → Type 0
Fillable table b r = (ks : List Keepout) → Regions table ks → r ≡ fillable_area ks b
