-- Demand 3: the answer to every job that may run keeps its promises.
use Prim.Native.Nat.{ℕ, ◌+◌, ◌-◌, ◌*◌, ◌≤◌, ◌<◌}
use mathlib.Core.Path.{◌≡◌, refl, sym, ap, ◌∙◌}
use mathlib.Core.Bool.{Bool}
use mathlib.Core.List.{List, [], ◌∷◌}
use native.Mathlib.Nat.{mul-le-mul_right}
use native.Mathlib.Omega.{arith}
use lib.ListN.{get_or}
use Rattle.rounding.specs.Nearest.{distance, Rounds}
use Rattle.rounding.proofs.Rounding.{nearest_rounds, rounds, nearest_reduced}
use Rattle.geometry.specs.declared.Rect.{Rect}
use Rattle.geometry.specs.declared.Spot.{Spot}
use Rattle.geometry.specs.declared.Sense.{Sense}
use Rattle.geometry.specs.declared.Sense.TheVariants.{Greatest, Least}
use Rattle.geometry.specs.Count.{one_if}
use Rattle.geometry.specs.Layout.{shares_square, window_box, Disjoint}
use Rattle.geometry.proofs.Sharing.{no_shapes→no_area, no_area→no_shapes}
use Rattle.geometry.proofs.Extremes.{not_better}
use Rattle.extremes.specs.Exact.{extreme, extreme_in}
use Rattle.extremes.proofs.Promises.{extreme_over_all}
use Rattle.zoom.specs.declared.End.{End}
use Rattle.zoom.specs.declared.End.TheVariants.{Met, Stopped, Exact}
use Rattle.levels.specs.declared.Level.{Level}
use Rattle.zoom.specs.declared.Quick.{Quick}
use Rattle.zoom.specs.Run.{last_level, level_step, low_end, high_end, Brackets, end_number}
use Rattle.levels.specs.Grid.{AtStart}
use Rattle.zoom.proofs.Numbers.{some_squares}
use Rattle.zoom.proofs.Steps.{step_positive}
use Rattle.levels.proofs.Starts.{start_fits, fits_start}
use Rattle.zoom.proofs.Bracket.{Bracketing, Promised, Accurate, quick_run_promises, levels_at_most, named_start, named_over_starts, level_brackets, level_narrows}
use Rattle.zoom.proofs.RunEnd.{EndsAtLevel, run_end}
use Rattle.spacing.specs.declared.Keepout.{Keepout}
use Rattle.tiles.specs.declared.Plan.{Plan}
use Rattle.fill.specs.declared.Bound.{Bound}
use Rattle.fill.specs.declared.Bound.TheVariants.{Over, Under}
use Rattle.fill.specs.declared.Verdict.{Verdict}
use Rattle.fill.specs.declared.Verdict.TheVariants.{Safe, Broken, Undecided}
use Rattle.tiles.specs.Tiles.{number_at}
use Rattle.fill.specs.Judge.{bound_number, verdict_numbers, verdict_of}
use Rattle.fill.specs.Placement.{Placement}
use Rattle.fill.proofs.Promise.{Dissected, safe_keeps, broken_breaks}
use Rattle.fill.proofs.Placing.{placement}
use Rattle.forms.specs.declared.Head.{Head}
use Rattle.forms.specs.Shapes.{rectangles}
use Rattle.forms.specs.Forms.{tile_side, tiles_across}
use Rattle.standing.specs.Filling.{keepouts, plan_of}
use Rattle.standing.specs.Faults.{Standing, room_of}
use Rattle.run.specs.Answering.{quick_of, answer_for, quick_in}
use Rattle.unit.specs.Whole.{answer_of}
use Rattle.unit.proofs.Tallying.{positions_kept}
use Rattle.unit.proofs.Metal.{sum_of_kinds, area_of_kinds, eligible_clear}
use Rattle.unit.specs.Promise.{shapes_at, RealWindow, StartOf, EndsWith, ExactPromise, level_in, BracketPromise, LevelPromise, QuickPromise, FillPromise, CountPromise, CountsPromise, DensityOff, DensityPromise, Promises}

-- what an accepted job says: tiles fit the window and the layout, no two shapes share a unit square, and no amount exceeds its tile's fillable area
pub record Runs (st : Standing) : Type 0 where
  pub apart : Disjoint (rectangles st.shapes)
  pub some_window : 1 ≤ st.head.window
  pub window_fits : st.head.window ≤ st.head.size
  pub some_level : 1 ≤ st.head.levels
  pub some_tile : 1 ≤ tile_side st.head
  pub window_tiles : st.head.window ≡ st.head.cut * tile_side st.head
  pub layout_tiles : st.head.size ≡ tiles_across st.head * tile_side st.head
  pub cut_fits : st.head.cut ≤ tiles_across st.head
  pub bounds_order : st.head.lower ≤ st.head.upper
  pub amounts_fit : (i j : ℕ) → i < tiles_across st.head → j < tiles_across st.head →
      number_at st.amounts (tiles_across st.head) i j ≤ room_of st i j

-- ---- a number tells the case

number_end : (e f : End) → end_number e ≡ end_number f → e ≡ f
number_end Met Met h = refl
number_end Met Stopped h = absurd (omega (arith, h))
number_end Met Exact h = absurd (omega (arith, h))
number_end Stopped Met h = absurd (omega (arith, h))
number_end Stopped Stopped h = refl
number_end Stopped Exact h = absurd (omega (arith, h))
number_end Exact Met h = absurd (omega (arith, h))
number_end Exact Stopped h = absurd (omega (arith, h))
number_end Exact Exact h = refl

number_safe : (v : Verdict) → verdict_numbers v ≡ 0 ∷ [] → v ≡ Safe
number_safe Safe h = refl
number_safe (Broken f) h = absurd (omega (arith, ap (λ (l : List ℕ). get_or l 0 0) h))
number_safe (Undecided f) h = absurd (omega (arith, ap (λ (l : List ℕ). get_or l 0 0) h))

number_bound : (a b : Bound) → bound_number a ≡ bound_number b → a ≡ b
number_bound Over Over h = refl
number_bound Under Under h = refl
number_bound Over Under h = absurd (omega (arith, h))
number_bound Under Over h = absurd (omega (arith, h))

number_broken : (v : Verdict) (b : Bound) (i j : ℕ) → verdict_numbers v ≡ 1 ∷ bound_number b ∷ i ∷ j ∷ [] → v ≡ Broken (record { bound = b; column = i; row = j })
number_broken Safe b i j h = absurd (omega (arith, ap (λ (l : List ℕ). get_or l 0 0) h))
number_broken (Undecided f) b i j h = absurd (omega (arith, ap (λ (l : List ℕ). get_or l 0 0) h))
number_broken (Broken f) b i j h = λ t. Broken (record { bound = bound t; column = column t; row = row t })
  where
    bound : f.bound ≡ b
    bound = number_bound f.bound b (ap (λ (l : List ℕ). get_or l 1 0) h)

    column : f.column ≡ i
    column = ap (λ (l : List ℕ). get_or l 2 0) h

    row : f.row ≡ j
    row = ap (λ (l : List ℕ). get_or l 3 0) h

-- ---- the exact run

exact_kept : (s : Sense) (st : Standing) → ExactPromise s st (extreme s (rectangles st.shapes) st.head.size st.head.window)
exact_kept s st =
    let m = extreme_over_all s (rectangles st.shapes) st.head.size st.head.window in
    record { window = record { position = m.position; area = m.area_is }; none_better = m.none_better; first = m.first }

-- ---- the quick run

midpoint : (e m low high : ℕ) → Accurate e m low high → 1000 * distance (low + high) (2 * m) ≤ 2 * e * m
midpoint e m low high a = omega (arith, a.above, a.below)

-- a window at a start, as the code counts them
start_of : (st : Standing) (j : ℕ) (b : Spot) → 1 ≤ level_step st.head.window j →
    AtStart (rectangles st.shapes) st.head.size st.head.window (level_step st.head.window j) b → StartOf st j b.x b.y
start_of st j b p a =
    let t = level_step st.head.window j in
    let x = ap (λ (c : Spot). c.x) a.is in
    let y = ap (λ (c : Spot). c.y) a.is in
    record {
      column = a.column;
      row = a.row;
      across = x;
      down = y;
      position = record {
        across = omega (arith, x, start_fits st.head.size st.head.window t a.column p a.across);
        down = omega (arith, y, start_fits st.head.size st.head.window t a.row p a.down);
      };
    }

bracket_kept : (s : Sense) (st : Standing) (v : Level) → Bracketing s (rectangles st.shapes) st.head.size st.head.window v →
    BracketPromise s st v (extreme s (rectangles st.shapes) st.head.size st.head.window).area
bracket_kept s st v b =
    let p = b.named in
    record { named = record { position = record { across = p.across; down = p.down }; area = p.area }; ends = b.bracket }

level_kept : (s : Sense) (st : Standing) → Runs st → (j : ℕ) → j ≤ last_level st.head.window →
    LevelPromise s st j (extreme s (rectangles st.shapes) st.head.size st.head.window).area
level_kept s st r j h =
    record {
      bracket = bracket_kept s st (level_in s st j) (level_brackets s rs n w r.some_window j h r.window_fits);
      named_start = start_of st j (level_in s st j).named step (named_start s rs n w r.some_window j h);
      none_better = λ x y a.
          rw (a.across, a.down)
          (not_better s _ _
          (named_over_starts s rs n w r.some_window j h a.column a.row
          (fits_start n w (level_step w j) a.column step (omega (arith, a.across, a.position.across)))
          (fits_start n w (level_step w j) a.row step (omega (arith, a.down, a.position.down)))));
    }
  where
    rs : List Rect
    rs = rectangles st.shapes

    n : ℕ
    n = st.head.size

    w : ℕ
    w = st.head.window

    step : 1 ≤ level_step st.head.window j
    step = step_positive w j r.some_window h

quick_kept : (s : Sense) (st : Standing) → Runs st →
    QuickPromise s st (quick_of s st.head (rectangles st.shapes)) (extreme s (rectangles st.shapes) st.head.size st.head.window).area
quick_kept s st r =
    record {
      bracket = bracket_kept s st q.last p.ends;
      met = λ e. midpoint h.accuracy (extreme s rs n w).area (low_end s q.last) (high_end s q.last) (p.accurate (number_end q.end Met e));
      some_level = ended.some;
      levels_done = levels_at_most s rs n w h.accuracy h.levels r.some_level;
      level_exists = λ j k. (ended.level j k.done (other j k)).0;
      last_level_in = λ j k. (ended.level j k.done (other j k)).1;
      exact_ends = λ e. ended.exact (number_end q.end Exact e);
      each_level = λ j k. level_kept s st r j k;
      narrows = λ j k. level_narrows s rs n w r.some_window j k;
    }
  where
    h : Head
    h = st.head

    rs : List Rect
    rs = rectangles st.shapes

    n : ℕ
    n = st.head.size

    w : ℕ
    w = st.head.window

    q : Quick
    q = quick_of s st.head (rectangles st.shapes)

    p : Promised s (rectangles st.shapes) st.head.size st.head.window st.head.accuracy q
    p = quick_run_promises s rs n w h.accuracy h.levels r.some_window r.window_fits

    ended : EndsAtLevel s (rectangles st.shapes) st.head.size st.head.window q
    ended = run_end s rs n w h.accuracy h.levels r.some_window r.window_fits

    other : (j : ℕ) → EndsWith q j → q.end ≡ Exact → ⊥
    other j k e = k.not_exact (ap end_number e)

-- ---- the shapes under a named window

count_kept : (st : Standing) (p : Spot) → RealWindow st p → CountPromise st p (shapes_at st p.x p.y)
count_kept st p r =
    let b = window_box st.head.window p.x p.y in
    record {
      shapes = refl;
      none_counted = λ e. r.area ∙ no_shapes→no_area (rectangles st.shapes) b e;
      none_covered = λ e. no_area→no_shapes (rectangles st.shapes) b (sym r.area ∙ e);
    }

-- ---- the density

-- the rounded middle of two ends, by how far their sum is off 2m
middle_off : (m low high w d off : ℕ) → 1000 * distance (low + high) (2 * m) ≤ off → 2 * distance (10000 * (low + high)) (d * (2 * w * w)) ≤ 2 * w * w →
    2 * distance (10000 * m) (d * w * w) ≤ 10 * off + w * w
middle_off m low high w d off h k = omega (arith, h, k)

density_kept : (st : Standing) → Runs st →
    DensityPromise st (quick_of Greatest st.head (rectangles st.shapes)) (extreme Greatest (rectangles st.shapes) st.head.size st.head.window).area (answer_of st).density
unfolding answer_for
density_kept st r =
    record {
      middle = middle;
      near = omega (arith, off (1000 * (high - low)) (omega (arith, ends.low, ends.high)));
      met = λ e. omega (arith, off (2 * st.head.accuracy * m) (q.met e));
      equal_ends = λ e. nearest_rounds _ _ d (omega (arith, some)) (nearest_reduced (omega (arith, e, ends.low, ends.high)) (omega arith) middle.nearest);
    }
  where
    w : ℕ
    w = st.head.window

    m : ℕ
    m = (extreme Greatest (rectangles st.shapes) st.head.size w).area

    low : ℕ
    low = (quick_of Greatest st.head (rectangles st.shapes)).last.named.area

    high : ℕ
    high = (quick_of Greatest st.head (rectangles st.shapes)).last.limit

    d : ℕ
    d = (answer_of st).density

    some : 1 ≤ 2 * w * w
    some = some_squares w r.some_window

    q : QuickPromise Greatest st (quick_of Greatest st.head (rectangles st.shapes)) m
    q = quick_kept Greatest st r

    ends : Brackets Greatest (quick_of Greatest st.head (rectangles st.shapes)).last m
    ends = q.bracket.ends

    middle : Rounds (10000 * (low + high)) (2 * w * w) d
    middle = rounds _ _ some

    off : (k : ℕ) → 1000 * distance (low + high) (2 * m) ≤ k → DensityOff st m d (10 * k)
    off k h = middle_off m low high w d k h middle.nearest.near

-- ---- the fill

dissected : (st : Standing) → Runs st → Dissected (plan_of st.head) st.head.size
dissected st k = record { window = k.window_tiles; layout = k.layout_tiles; fits = k.cut_fits }

-- a start's corner is a position
corner : (i across cut side w size : ℕ) → i ≤ across - cut → cut ≤ across → w ≡ cut * side → size ≡ across * side → i * side ≤ size - w
corner i across cut side w size h fits w-is size_is = omega (arith, mul-le-mul_right side whole)
  where
    whole : i + cut ≤ across
    whole = omega arith

fill_kept : (st : Standing) → Runs st → FillPromise st (answer_of st).verdict
unfolding answer_for
fill_kept st k =
    record {
      safe = λ e chosen p b x y q. safe_keeps ks rs amounts plan size whole chosen p k.some_tile (number_safe v e) b x y q.across q.down;
      broken_there = λ b i j e.
          let s = broken_breaks ks rs amounts plan size whole some.0 some.1 (record { bound = b; column = i; row = j }) (number_broken v b i j e) in
          record { across = corner_at i s.column; down = corner_at j s.row };
      broken = λ b i j e chosen p c. (broken_breaks ks rs amounts plan size whole chosen p (record { bound = b; column = i; row = j }) (number_broken v b i j e)).breaks c;
      placeable = some;
      clear = λ chosen p x y c s a. eligible_clear st.head.gap a x y (p.allowed x y c);
    }
  where
    ks : List Keepout
    ks = keepouts st.head.gap st.shapes

    rs : List Rect
    rs = rectangles st.shapes

    amounts : List ℕ
    amounts = st.amounts

    plan : Plan
    plan = plan_of st.head

    size : ℕ
    size = st.head.size

    whole : Dissected plan size
    whole = dissected st k

    v : Verdict
    v = verdict_of rs amounts plan

    corner_at : (i : ℕ) → i ≤ plan.across - plan.cut → i * plan.side ≤ size - plan.window
    corner_at i h = corner i plan.across plan.cut plan.side plan.window size h k.cut_fits k.window_tiles k.layout_tiles

    some : (chosen : ℕ → ℕ → Bool) × Placement ks amounts plan chosen
    some = placement ks amounts plan k.amounts_fit

pub promises_kept : (st : Standing) → Runs st → Promises st (answer_of st)
unfolding answer_for
promises_kept st k =
    record {
      both_kinds = λ x y. area_of_kinds st.shapes (window_box st.head.window x y) k.apart;
      both_counted = λ x y. sum_of_kinds st.shapes (λ r. one_if (shares_square (r ∷ []) (window_box st.head.window x y)));
      exact = exact;
      quick = quick;
      counts = counts;
      density = density_kept st k;
      positions = positions_kept st k.bounds_order (fill_kept st k);
      fill = fill_kept st k;
    }
  where
    exact : (s : Sense) → ExactPromise s st (extreme_in s (answer_of st).exact)
    exact Greatest = exact_kept Greatest st
    exact Least = exact_kept Least st

    quick : (s : Sense) → QuickPromise s st (quick_in s (answer_of st)) (extreme_in s (answer_of st).exact).area
    quick Greatest = quick_kept Greatest st k
    quick Least = quick_kept Least st k

    counts : CountsPromise st (answer_of st)
    counts =
        record {
          max = count_kept st _ (exact Greatest).window;
          min = count_kept st _ (exact Least).window;
          floor = count_kept st _ (quick Greatest).bracket.named;
          high = count_kept st _ (quick Least).bracket.named;
        }
