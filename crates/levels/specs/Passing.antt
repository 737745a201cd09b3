-- How the code remembers the starts that a level passes over: a flag for each start of the level before it. A buyer need not read this:
-- no contract of the unit's public functions names it, and the definition of a level passes nothing over.
use Rattle.std.specs.Prelude.{ℕ, zero, suc, ◌+◌, ◌*◌, ◌/◌, ◌<◌, ◌≡◌, Bool, true, false, not, List, get_or, set}
use Rattle.geometry.specs.declared.Rect.{Rect}
use Rattle.geometry.specs.declared.Sense.{Sense}
use Rattle.geometry.specs.Extreme.{better, NoBetter}
use Rattle.levels.specs.declared.grid.Grid.{Grid}
use Rattle.levels.specs.Levels.{starts_on, far_area}

-- the flag of a start: whether its far area is no better than the level's best window
abbrev pub flag_of : Sense → (best far : ℕ) → Bool
flag_of s best far = not (better s far best)

-- the table after the flags of the first k starts of a row were written from the place `at` on, where `far` gives the row's far areas
unfoldable pub flags_in_row : Sense → (best : ℕ) → (ℕ → ℕ) → (t at k : ℕ) → List Bool → List Bool
flags_in_row s best far t at zero l = l
flags_in_row s best far t at (suc k) l = set (flags_in_row s best far t at k l) (at + k) (flag_of s best (far (k * t)))

-- the table after the flags of the first m rows of k starts each were written, row after row
unfoldable pub flags_in_rows : Sense → (best : ℕ) → (ℕ → ℕ → ℕ) → (t k m : ℕ) → List Bool → List Bool
flags_in_rows s best far t k zero l = l
flags_in_rows s best far t k (suc m) l = flags_in_row s best (λ x. far x (m * t)) t (m * k) k (flags_in_rows s best far t k m l)

-- the flag that decides on the start (i, j): that of the start (i / 2, j / 2) of the level before, whose table has `stride` flags to a row
abbrev pub flag_above : List Bool → (stride i j : ℕ) → Bool
flag_above flags stride i j = get_or flags (j / 2 * stride + i / 2) false

-- it is harmless to pass over those of the k starts of row j that the table flags: no area there is better than the best window
abbrev pub Spares : Sense → (ℕ → ℕ) → (t k : ℕ) → List Bool → (stride j best : ℕ) → Type 0
Spares s area t k flags stride j best = (i : ℕ) → i < k → flag_above flags stride i j ≡ true → NoBetter s (area (i * t)) best

-- the same of the far areas of a level, in row j and in all rows
abbrev pub HarmlessRow : Sense → List Rect → (n w t : ℕ) → List Bool → (stride j best : ℕ) → Type 0
HarmlessRow s rs n w t flags stride j best = Spares s (λ x. far_area s rs n w t x (j * t)) t (starts_on n w t) flags stride j best

abbrev pub Harmless : Sense → List Rect → (n w t : ℕ) → List Bool → (stride best : ℕ) → Type 0
Harmless s rs n w t flags stride best = (j : ℕ) → j < starts_on n w t → HarmlessRow s rs n w t flags stride j best

-- what a pass asks, in row j and in all rows, where `best` is the area that stands
abbrev pub RowPassable : List Rect → Grid → List Bool → (stride j best : ℕ) → Type 0
RowPassable rects g flags stride j best = HarmlessRow g.sense rects g.size g.window g.step flags stride j best

abbrev pub Passable : List Rect → Grid → List Bool → (stride best : ℕ) → Type 0
Passable rects g flags stride best = Harmless g.sense rects g.size g.window g.step flags stride best
