-- Demand 3: what the answer to an accepted job promises, whatever its shapes and numbers; what is promised of an extreme is promised of the
-- greatest and of the least by one record. An answer that is an enum is spoken of by the paper's number and values. `Guarantee` in
-- specs/Guarantee.antt makes it part of the unit's contracts.
use Rattle.std.specs.Prelude.{ℕ, suc, ◌+◌, ◌-◌, ◌*◌, ◌≤◌, ◌<◌, ◌≡◌, Bool, false, not, ◌&&◌, List, [], ◌∷◌, ◌⊎◌, T}
use Rattle.rounding.specs.Nearest.{distance, Rounds}
use Rattle.geometry.specs.declared.Spot.{Spot}
use Rattle.geometry.specs.declared.Sense.{Sense}
use Rattle.geometry.specs.Layout.{holds}
use Rattle.geometry.specs.Extreme.{Bounded}
use Rattle.geometry.specs.Positions.{window_area, window_shapes, positions, Position}
use Rattle.extremes.specs.Exact.{extreme_in}
use Rattle.levels.specs.declared.Level.{Level}
use Rattle.zoom.specs.declared.Quick.{Quick}
use Rattle.zoom.specs.Run.{last_level, level_step, level_at, low_end, high_end, Brackets, Narrows, end_number}
use Rattle.spacing.specs.declared.Keepout.{Keepout}
use Rattle.fill.specs.declared.Bound.{Bound}
use Rattle.fill.specs.declared.Bound.TheVariants.{Over, Under}
use Rattle.fill.specs.declared.Verdict.{Verdict}
use Rattle.spacing.specs.Eligible.{gap_between, square}
use Rattle.fill.specs.Judge.{bound_number, verdict_numbers}
use Rattle.fill.specs.Placement.{Placement, placed_sum, keeps}
use Rattle.positions.specs.Tallies.{positions_where}
use Rattle.forms.specs.declared.Kind.{Kind}
use Rattle.forms.specs.declared.Kind.TheVariants.{Drawn, Dummy}
use Rattle.forms.specs.declared.Shape.{Shape}
use Rattle.forms.specs.Shapes.{rectangles, rectangles_of}
use Rattle.forms.specs.Forms.{tile_side}
use Rattle.standing.specs.Filling.{keepout_of, keepouts, plan_of}
use Rattle.standing.specs.Faults.{Standing}
use Rattle.answers.specs.declared.Answer.{Answer}
use Rattle.run.specs.Answering.{quick_in}

-- (x, y) is a whole-number window position of the job
abbrev pub PositionOf : Standing → (x y : ℕ) → Type 0
PositionOf st x y = Position st.head.size st.head.window x y

-- the area of the window at a position
abbrev pub area_at : Standing → (x y : ℕ) → ℕ
area_at st x y = window_area (rectangles st.shapes) st.head.window x y

-- the shapes under the window at a position
abbrev pub shapes_at : Standing → (x y : ℕ) → ℕ
shapes_at st x y = window_shapes (rectangles st.shapes) st.head.window x y

-- the same of the shapes of one kind
abbrev pub kind_area : Kind → Standing → (x y : ℕ) → ℕ
kind_area k st x y = window_area (rectangles_of k st.shapes) st.head.window x y

abbrev pub kind_shapes : Kind → Standing → (x y : ℕ) → ℕ
kind_shapes k st x y = window_shapes (rectangles_of k st.shapes) st.head.window x y

-- a named window is a position, and the area named with it is its area
pub record RealWindow (st : Standing) (p : Spot) : Type 0 where
  pub position : PositionOf st p.x p.y
  pub area : p.area ≡ area_at st p.x p.y

-- no position with the same area has a smaller y, or the same y and a smaller x
abbrev pub Earliest : Standing → Spot → Type 0
Earliest st p = (x y : ℕ) → PositionOf st x y → area_at st x y ≡ p.area → (p.y < y) ⊎ ((p.y ≡ y) × (p.x ≤ x))

-- a choice of unit squares is a placement of the job's fill
abbrev pub Places : Standing → (ℕ → ℕ → Bool) → Type 0
Places st chosen = Placement (keepouts st.head.gap st.shapes) st.amounts (plan_of st.head) chosen

-- under a placement the position (x, y) keeps a bound
abbrev pub KeepsAt : Standing → (ℕ → ℕ → Bool) → Bound → (x y : ℕ) → Type 0
KeepsAt st chosen b x y = T (keeps b (plan_of st.head) (placed_sum (rectangles st.shapes) chosen st.head.window x y))

-- an extreme of the exact run: its area is that of the window it names; no position has more, or for the minimum less; and none before it has
-- the same
pub record ExactPromise (s : Sense) (st : Standing) (m : Spot) : Type 0 where
  pub window : RealWindow st m
  pub none_better : (x y : ℕ) → PositionOf st x y → Bounded s (area_at st x y) m.area
  pub first : Earliest st m

-- (x, y) is a start of level j: on each axis a multiple of the level's step, up to N − W
pub record StartOf (st : Standing) (j x y : ℕ) : Type 0 where
  pub column : ℕ
  pub row : ℕ
  pub across : x ≡ column * level_step st.head.window j
  pub down : y ≡ row * level_step st.head.window j
  pub position : PositionOf st x y

-- level j of a quick run, whether the run does it or ends before it
abbrev pub level_in : Sense → Standing → (j : ℕ) → Level
level_in s st j = level_at s (rectangles st.shapes) st.head.size st.head.window j

-- what a level says beside the extreme m, M or the minimum: F, or high, is the area of the window named, and F ≤ M ≤ C, or
-- low ≤ minimum ≤ high
pub record BracketPromise (s : Sense) (st : Standing) (v : Level) (m : ℕ) : Type 0 where
  pub named : RealWindow st v.named
  pub ends : Brackets s v m

-- level j: its bracket; the window named is at one of the level's starts; and at none of them is a window better
pub record LevelPromise (s : Sense) (st : Standing) (j m : ℕ) : Type 0 where
  pub bracket : BracketPromise s st (level_in s st j) m
  pub named_start : StartOf st j (level_in s st j).named.x (level_in s st j).named.y
  pub none_better : (x y : ℕ) → StartOf st j x y → Bounded s (area_at st x y) (level_in s st j).named.area

-- the run ended with level j, and not with the exact search
pub record EndsWith (q : Quick) (j : ℕ) : Type 0 where
  pub done : q.done ≡ suc j
  pub not_exact : end_number q.end ≡ 2 → ⊥

-- a quick run, beside the extreme m of the exact run
pub record QuickPromise (s : Sense) (st : Standing) (q : Quick) (m : ℕ) : Type 0 where
  -- its last level, the exact search included: the window named is real, and m lies between the ends
  pub bracket : BracketPromise s st q.last m
  -- "met" for accuracy E bounds the midpoint of the ends: 1000 × |lower + upper end − 2m| ≤ 2 × E × m
  pub met : end_number q.end ≡ 0 →
      1000 * distance (low_end s q.last + high_end s q.last) (2 * m) ≤ 2 * st.head.accuracy * m
  -- at least one level was done, and no more than V
  pub some_level : 1 ≤ q.done
  pub levels_done : q.done ≤ st.head.levels
  -- a run that did not end with the exact search ended with one of the levels 0 to z, and its numbers are that level's
  pub level_exists : (j : ℕ) → EndsWith q j → j ≤ last_level st.head.window
  pub last_level_in : (j : ℕ) → EndsWith q j → q.last ≡ level_in s st j
  -- after the exact search both ends are m
  pub exact_ends : end_number q.end ≡ 2 → (q.last.named.area ≡ m) × (q.last.limit ≡ m)
  -- every level from 0 to z, whether the run did it or not; from one to the next the lower end never falls and the upper one never rises. To the
  -- exact search this follows, since its ends are m
  pub each_level : (j : ℕ) → j ≤ last_level st.head.window → LevelPromise s st j m
  pub narrows : (j : ℕ) → j < last_level st.head.window → Narrows s (level_in s st j) (level_in s st (suc j))

-- a count that is printed with a named window is the number of shapes that share a unit square with it, and 0 exactly if its area is
pub record CountPromise (st : Standing) (p : Spot) (count : ℕ) : Type 0 where
  pub shapes : count ≡ shapes_at st p.x p.y
  pub none_counted : count ≡ 0 → p.area ≡ 0
  pub none_covered : p.area ≡ 0 → count ≡ 0

-- each count is that of the window after whose word it is printed
pub record CountsPromise (st : Standing) (a : Answer) : Type 0 where
  pub max : CountPromise st a.exact.greatest a.counts.max
  pub min : CountPromise st a.exact.least a.counts.min
  pub floor : CountPromise st a.greatest.last.named a.counts.floor
  pub high : CountPromise st a.least.last.named a.counts.high

-- d, in ten-thousandths, is off the density of the area m, 10000 × m / (W × W), by at most k / (2 × W × W), and half a ten-thousandth for the
-- rounding. In whole numbers: 2 × |10000 × m − d × W × W| ≤ k + W × W
abbrev pub DensityOff : Standing → (m d k : ℕ) → Type 0
DensityOff st m d k = 2 * distance (10000 * m) (d * st.head.window * st.head.window) ≤ k + st.head.window * st.head.window

-- the density d of a quick run for the greatest window, beside the exact run's maximum m
pub record DensityPromise (st : Standing) (q : Quick) (m d : ℕ) : Type 0 where
  -- it is the middle of F and C in ten-thousandths of W × W, rounded to the nearest, an exact half to the even neighbour, and no other number is
  pub middle : Rounds (10000 * (q.last.named.area + q.last.limit)) (2 * st.head.window * st.head.window) d
  -- beside the half for the rounding it is off the greatest density by at most the density of half of C − F, however the run ended; after "met"
  -- for accuracy E, by at most E thousandths of the greatest density
  pub near : DensityOff st m d (10000 * (q.last.limit - q.last.named.area))
  pub met : end_number q.end ≡ 0 → DensityOff st m d (20 * st.head.accuracy * m)
  -- where F is C, so after the exact search and after "met" for accuracy 0, it is the greatest density itself, rounded
  pub equal_ends : q.last.named.area ≡ q.last.limit → Rounds (10000 * m) (st.head.window * st.head.window) d

-- an area of shapes alone keeps a bound, by the test of the verdict
abbrev pub keeps_alone : Standing → Bound → (area : ℕ) → Bool
keeps_alone st b area = keeps b (plan_of st.head) area

-- the number of the job's positions whose area of shapes alone passes a test
abbrev pub position_count : Standing → (passes : ℕ → Bool) → ℕ
position_count st passes = positions_where passes (rectangles st.shapes) st.head.size st.head.window

-- the count of positions that fail a bound, beside the extreme of the exact run that decides on it: the minimum for L, the maximum for U
pub record FailingPromise (st : Standing) (b : Bound) (count extreme : ℕ) : Type 0 where
  -- it is the number of positions whose area of shapes alone does not keep the bound
  pub counts : count ≡ position_count st (λ area. not (keeps_alone st b area))
  -- it is 0 exactly if the extreme keeps the bound, and then every position does
  pub none : count ≡ 0 → T (keeps_alone st b extreme)
  pub extreme_keeps : T (keeps_alone st b extreme) → count ≡ 0
  pub all_keep : count ≡ 0 → (x y : ℕ) → PositionOf st x y → T (keeps_alone st b (area_at st x y))

-- the positions under, within and over the bounds
pub record PositionsPromise (st : Standing) (a : Answer) : Type 0 where
  pub under : FailingPromise st Under a.positions.under a.exact.least.area
  pub over : FailingPromise st Over a.positions.over a.exact.greatest.area
  -- within are those that keep both bounds
  pub within : a.positions.within ≡ position_count st (λ area. keeps_alone st Under area && keeps_alone st Over area)
  -- together they are all positions, (N − W + 1) × (N − W + 1)
  pub all : a.positions.under + a.positions.within + a.positions.over
      ≡ positions st.head.size st.head.window * positions st.head.size st.head.window
  -- fill only adds to a window: after "safe" no position is over, though some may be under, and after "broken under" some position is under
  pub safe : verdict_numbers a.verdict ≡ 0 ∷ [] → a.positions.over ≡ 0
  pub broken_under : (i j : ℕ) → verdict_numbers a.verdict ≡ 1 ∷ bound_number Under ∷ i ∷ j ∷ [] → 0 < a.positions.under

-- a shape is one of a list
pub data Among (s : Shape) : List Shape → Type 0 where
  first : {ss : List Shape} → Among s (s ∷ ss)
  later : {t : Shape} {ss : List Shape} → Among s ss → Among s (t ∷ ss)

-- the unit square (x, y) lies outside a shape, and at least the shape's gap away from it, by straight distance
pub record Clear (k : Keepout) (x y : ℕ) : Type 0 where
  pub outside : holds k.rect x y ≡ false
  pub away : square k.gap
      ≤ square (gap_between x (suc x) k.rect.x1 k.rect.x2) + square (gap_between y (suc y) k.rect.y1 k.rect.y2)

-- the fill, whichever eligible unit squares it takes: after "safe" every position keeps both bounds, on the tile grid or off it; after
-- "broken" the named window is a position and breaks the bound named; there is at least one placement; and every one stays clear of all shapes, by B
-- of drawn metal and by D of dummies
pub record FillPromise (st : Standing) (v : Verdict) : Type 0 where
  pub safe : verdict_numbers v ≡ 0 ∷ [] → (chosen : ℕ → ℕ → Bool) → Places st chosen → (b : Bound) (x y : ℕ) → PositionOf st x y → KeepsAt st chosen b x y
  pub broken_there : (b : Bound) (i j : ℕ) → verdict_numbers v ≡ 1 ∷ bound_number b ∷ i ∷ j ∷ [] → PositionOf st (i * tile_side st.head) (j * tile_side st.head)
  pub broken : (b : Bound) (i j : ℕ) → verdict_numbers v ≡ 1 ∷ bound_number b ∷ i ∷ j ∷ [] → (chosen : ℕ → ℕ → Bool) → Places st chosen →
      KeepsAt st chosen b (i * tile_side st.head) (j * tile_side st.head) → ⊥
  pub placeable : (chosen : ℕ → ℕ → Bool) × Places st chosen
  pub clear : (chosen : ℕ → ℕ → Bool) → Places st chosen → (x y : ℕ) → T (chosen x y) → (s : Shape) → Among s st.shapes →
      Clear (keepout_of st.head.gap s) x y

-- the answer to an accepted job: both extremes, the quick run of each beside it, the shapes under the windows that these name, the density,
-- the positions under, within and over the bounds, and the fill. The area of every window, and the shapes under it, are those of drawn metal and
-- those of dummies together, so the bounds after "safe" include old dummies
pub record Promises (st : Standing) (a : Answer) : Type 0 where
  pub both_kinds : (x y : ℕ) → area_at st x y ≡ kind_area Drawn st x y + kind_area Dummy st x y
  pub both_counted : (x y : ℕ) → shapes_at st x y ≡ kind_shapes Drawn st x y + kind_shapes Dummy st x y
  pub exact : (s : Sense) → ExactPromise s st (extreme_in s a.exact)
  pub quick : (s : Sense) → QuickPromise s st (quick_in s a) (extreme_in s a.exact).area
  pub counts : CountsPromise st a
  pub density : DensityPromise st a.greatest a.exact.greatest.area a.density
  pub positions : PositionsPromise st a
  pub fill : FillPromise st a.verdict
