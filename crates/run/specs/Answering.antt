-- Document 01, "The program", with what document 02's requests 1, 2 and 7 add: what an accepted job is answered, in numbers. How they
-- are printed says `text_of` in answers/specs/Lines.antt, and by which rectangles `answer_of` in unit/specs/Whole.antt.
use Rattle.std.specs.Prelude.{ℕ, List}
use Rattle.geometry.specs.declared.Rect.{Rect}
use Rattle.geometry.specs.declared.Sense.{Sense}
use Rattle.geometry.specs.declared.Sense.TheVariants.{Greatest, Least}
use Rattle.extremes.specs.declared.Extremes.{Extremes}
use Rattle.geometry.specs.Positions.{window_shapes}
use Rattle.extremes.specs.Exact.{exact_run}
use Rattle.zoom.specs.declared.Quick.{Quick}
use Rattle.zoom.specs.Run.{quick_run, density}
use Rattle.fill.specs.Judge.{verdict_of}
use Rattle.positions.specs.Tallies.{tally_of}
use Rattle.forms.specs.declared.Head.{Head}
use Rattle.standing.specs.Filling.{plan_of}
use Rattle.answers.specs.declared.Counts.{Counts}
use Rattle.answers.specs.declared.Answer.{Answer}

-- the quick run for an extreme; both have the head's accuracy and levels, and each ends by its own test
abbrev pub quick_of : Sense → Head → List Rect → Quick
quick_of s h rs = quick_run s rs h.size h.window h.accuracy h.levels

-- the shapes under each window that an answer names; after floor and high it may be an earlier level's
abbrev pub counts_of : List Rect → (w : ℕ) → Extremes → (greatest least : Quick) → Counts
counts_of rs w e q l =
    record {
      max = window_shapes rs w e.greatest.x e.greatest.y;
      min = window_shapes rs w e.least.x e.least.y;
      floor = window_shapes rs w q.last.named.x q.last.named.y;
      high = window_shapes rs w l.last.named.x l.last.named.y;
    }

-- the exact run, the quick runs for the greatest and for the least window, the shapes under the windows that these name, the density of the first
-- quick run's bracket, the positions under, within and over the bounds, and the verdict on the fill, by a list of rectangles
unfoldable pub answer_for : Head → List Rect → (amounts : List ℕ) → Answer
answer_for h rs amounts =
    let e = exact_run rs h.size h.window in
    let q = quick_of Greatest h rs in
    let l = quick_of Least h rs in
    record {
      exact = e;
      greatest = q;
      least = l;
      counts = counts_of rs h.window e q l;
      density = density h.window q.last.named.area q.last.limit;
      positions = tally_of rs h.size h.window h.lower h.upper;
      verdict = verdict_of rs amounts (plan_of h);
    }

-- the quick run of a sense
abbrev pub quick_in : Sense → Answer → Quick
quick_in Greatest a = a.greatest
quick_in Least a = a.least
