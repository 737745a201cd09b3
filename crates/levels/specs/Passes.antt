-- A pass over the starts of a level, with what it carries along, `S`, and the table of flags. A buyer need not read it: no contract of the unit's public
-- functions names it.
use Rattle.std.specs.Prelude.{ℕ, zero, suc, ◌+◌, ◌*◌, ◌≤◌, Bool, List, set}
use Rattle.geometry.specs.declared.Spot.{Spot}
use Rattle.geometry.specs.declared.Sense.{Sense}
use Rattle.geometry.specs.Extreme.{spot_at, replaced, NoBetter}
use Rattle.levels.specs.declared.Level.{Level}
use Rattle.levels.specs.Passing.{flag_of}
use Rattle.levels.specs.Weighing.{weighed}

-- what one more start does in the first pass, to the window named so far, and in the second, to the level; the number is the place of its flag
abbrev pub named_at : Sense → Spot × List Bool → ℕ → Spot → Spot × List Bool
named_at s z at p = (replaced s z.0 p, z.1)

abbrev pub weighed_at : Sense → Level × List Bool → ℕ → Spot → Level × List Bool
weighed_at s z at p = (weighed s z.0 p.area, set z.1 at (flag_of s z.0.named.area p.area))

-- after the first k starts of the row at y, t apart, whose flags stand from the place `at` on, and after the first m rows of k starts each, where `look`
-- is what one more start does
unfoldable pub row_seen : {S : Type 0} → (S → ℕ → Spot → S) → (ℕ → ℕ → ℕ) → (t y at k : ℕ) → S → S
row_seen look f t y at zero z = z
row_seen look f t y at (suc k) z = look (row_seen look f t y at k z) (at + k) (spot_at f (k * t) y)

unfoldable pub rows_seen : {S : Type 0} → (S → ℕ → Spot → S) → (ℕ → ℕ → ℕ) → (t k m : ℕ) → S → S
rows_seen look f t k zero z = z
rows_seen look f t k (suc m) z = row_seen look f t (m * t) (m * k) k (rows_seen look f t k m z)

-- the laws of a pass: the area that stands never gets worse, each start counts once at most, and each leaves what the next asks
pub record PassLaws {S : Type 0} (best counted : S → ℕ) (Able : Sense → S → Type 0) (look : Sense → S × List Bool → ℕ → Spot → S × List Bool) : Type 0 where
  pub no_worse : (s : Sense) (z : S × List Bool) (at : ℕ) (p : Spot) → NoBetter s (best z.0) (best (look s z at p).0)
  pub counts : (s : Sense) (z : S × List Bool) (at : ℕ) (p : Spot) → counted (look s z at p).0 ≤ suc (counted z.0)
  pub able : (s : Sense) (z : S × List Bool) (at : ℕ) (p : Spot) → Able s z.0 → Able s (look s z at p).0
