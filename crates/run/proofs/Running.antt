-- The phases together make the answer.
use Prim.Native.Nat.{ℕ, ◌*◌, ◌≤◌}
use mathlib.Core.Path.{◌≡◌, subst⁻¹}
use mathlib.Core.List.{List}
use native.Mathlib.Omega.{arith}
use lib.ListN.{take}
use Rattle.geometry.specs.declared.Rect.{Rect}
use Rattle.geometry.specs.declared.Spot.{Spot}
use Rattle.geometry.specs.declared.Sense.{Sense}
use Rattle.geometry.specs.declared.Sense.TheVariants.{Greatest, Least}
use Rattle.geometry.specs.Sizes.{largest}
use Rattle.extremes.specs.declared.Extremes.{Extremes}
use Rattle.geometry.specs.Positions.{Position}
use Rattle.extremes.specs.Exact.{extreme, exact_run}
use Rattle.extremes.proofs.Promises.{extreme_over_all}
use Rattle.zoom.specs.declared.Quick.{Quick}
use Rattle.zoom.specs.Run.{density}
use Rattle.zoom.specs.Sizes.{Runnable, Measurable}
use Rattle.zoom.proofs.Bracket.{quick_run_promises, quick_run_small}
use Rattle.tiles.specs.declared.Plan.{Plan}
use Rattle.fill.specs.declared.Verdict.{Verdict}
use Rattle.fill.specs.Judge.{verdict_of}
use Rattle.fill.specs.Sizes.{Planned}
use Rattle.positions.specs.declared.Tally.{Tally}
use Rattle.positions.specs.Tallies.{tally_of}
use Rattle.positions.specs.Sizes.{Tallied}
use Rattle.forms.specs.declared.Head.{Head}
use Rattle.forms.specs.Forms.{tiles_across}
use Rattle.standing.specs.Filling.{plan_of}
use Rattle.answers.specs.declared.Counts.{Counts}
use Rattle.answers.specs.declared.Answer.{Answer}
use Rattle.run.specs.Answering.{quick_of, counts_of, answer_for}
use Rattle.run.specs.Ready.{SmallSpot, SmallSpots, Ready}

-- counts by their four numbers
pub same_counts : {a b c d max min floor high : ℕ} → a ≡ max → b ≡ min → c ≡ floor → d ≡ high →
    ◌≡◌ {A = Counts} (record { max = a; min = b; floor = c; high = d }) (record { max = max; min = min; floor = floor; high = high })
same_counts p q r s = λ i. record { max = p i; min = q i; floor = r i; high = s i }

module _ (h : Head) (rects : List Rect) (amounts : List ℕ) where
  abbrev quick : Sense → Quick
  quick s = quick_of s h rects

  -- what a quick run asks, after the exact run
  pub runnable : (s : Sense) → Ready h rects amounts → {m : Spot} → m ≡ extreme s rects h.size h.window →
      Runnable s rects (record { size = h.size; window = h.window; accuracy = h.accuracy; levels = h.levels }) m
  runnable s r e =
      record {
        some_window = r.some_window;
        window_fits = r.window_fits;
        small = r.small;
        accurate = r.accurate;
        extreme_is = e;
      }

  -- what forming the density asks
  pub bracket_small : Ready h rects amounts → (q : Quick) → q ≡ quick Greatest →
      Measurable h.window q.last.named.area q.last.limit
  bracket_small r q e =
      let s = quick_run_small Greatest rects h.size h.window h.accuracy h.levels r.some_window r.window_fits r.small in
      record {
        some_window = r.some_window;
        window_small = omega (arith, r.window_fits, r.small);
        floor_small = subst⁻¹ (λ (p : Quick). p.last.named.area ≤ largest) e s.named;
        ceiling_small = subst⁻¹ (λ (p : Quick). p.last.limit ≤ largest) e s.limit;
      }

  -- a window at a position ends in the layout
  small_spot : Ready h rects amounts → (p : Spot) → Position h.size h.window p.x p.y → SmallSpot h.window p
  small_spot r p at =
      record {
        right = omega (arith, at.across, r.window_fits, r.small);
        high = omega (arith, at.down, r.window_fits, r.small);
      }

  -- so do the windows that the exact run and the quick run of a sense name
  exact_window_small : (s : Sense) → Ready h rects amounts → SmallSpot h.window (extreme s rects h.size h.window)
  exact_window_small s r = small_spot r _ (extreme_over_all s rects h.size h.window).position

  quick_window_small : (s : Sense) → Ready h rects amounts → SmallSpot h.window (quick s).last.named
  quick_window_small s r =
      let p = (quick_run_promises s rects h.size h.window h.accuracy h.levels r.some_window r.window_fits).ends.named in
      small_spot r _ (record { across = p.across; down = p.down })

  -- what counting the shapes under them asks
  pub spots_small : Ready h rects amounts → (x : Extremes) (q l : Quick) → x ≡ exact_run rects h.size h.window → q ≡ quick Greatest →
      l ≡ quick Least → SmallSpots h.window x q l
  spots_small r x q l ex eq el =
      rw (ex, eq, el)
      (record { max = exact_window_small Greatest r; min = exact_window_small Least r; floor = quick_window_small Greatest r; high = quick_window_small Least r })

  pub answer_is : (x : Extremes) (q l : Quick) (k : Counts) (d : ℕ) (t : Tally) (p : Plan) (v : Verdict) → x ≡ exact_run rects h.size h.window →
      q ≡ quick Greatest → l ≡ quick Least → k ≡ counts_of rects h.window x q l → d ≡ density h.window q.last.named.area q.last.limit →
      t ≡ tally_of rects h.size h.window h.lower h.upper → p ≡ plan_of h → v ≡ verdict_of rects amounts p →
      ◌≡◌ {A = Answer} (record { exact = x; greatest = q; least = l; counts = k; density = d; positions = t; verdict = v }) (answer_for h rects amounts)
  unfolding answer_for
  answer_is x q l k d t p v ex eq el ek ed et ep ev = rw (ev, ep, et, ek, ed, ex, eq, el)

  -- what counting positions asks
  pub tallied : Ready h rects amounts → Tallied rects h.size h.window h.lower h.upper
  tallied r =
      record {
        layer = r.layer;
        some_window = r.some_window;
        window_fits = r.window_fits;
        small = r.small;
        order = r.bounds_order;
        bounded = r.planned.upper;
      }

  -- what judging the fill asks
  pub planned : Ready h rects amounts → {p : Plan} → p ≡ plan_of h → Planned amounts p
  planned r e = rw e r.planned

  -- a job at a number of amounts that the code computed
  pub ready_at : (k : ℕ) → k ≡ tiles_across h * tiles_across h → Ready h rects (take (tiles_across h * tiles_across h) amounts) → Ready h rects (take k amounts)
  ready_at k e r = rw e r

  pub run_at : (k : ℕ) → k ≡ tiles_across h * tiles_across h → {a : Answer} → a ≡ answer_for h rects (take k amounts) →
      a ≡ answer_for h rects (take (tiles_across h * tiles_across h) amounts)
  run_at k e p = rw e at p
