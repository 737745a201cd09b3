-- Files that are answered alike: where heads differ in gaps that no shape has, and files from before a request.
use mathlib.Core.Path.{◌≡◌, refl, ap, ◌∙◌}
use lib.Dec.{lit≤}
use Rattle.forms.specs.declared.Gap.{Gap}
use Rattle.forms.specs.Limits.{unit_limits, earlier_limits, Widened}
use Rattle.jobfile.specs.File.{Outcome, refused, accepted, outcome_of}
use Rattle.jobfile.specs.Gaps.{outcome_with, file_with}
use Rattle.jobfile.proofs.Files.{acceptance}
use Rattle.jobfile.proofs.SameGaps.{gaps_decide}
use Rattle.jobfile.proofs.StillAccepted.{still_accepted}
use Rattle.jobfile.proofs.Widening.{widening}
use Rattle.run.specs.Answering.{answer_for}
use Rattle.unit.specs.Whole.{reply_to, buffer_after, printed_of}
use Rattle.unit.specs.Guarantee.{PrintedAlike, AnswersKept, AnsweredAsBefore}

-- ---- files that differ in their gaps

with_printed : (g : Gap) (o : Outcome) → printed_of (outcome_with g o) ≡ printed_of o
unfolding answer_for
with_printed g (refused number line) = refl
with_printed g (accepted st) = refl

pub printed_alike : PrintedAlike
printed_alike h g g' rest k k' same =
    ap printed_of (gaps_decide unit_limits h g g' rest k k' same) ∙ with_printed g' (outcome_of unit_limits (file_with h g rest))

-- ---- files from before limits were widened

widened : Widened earlier_limits unit_limits
widened =
    record {
      bytes = lit≤ tt;
      digits = lit≤ tt;
      shapes = lit≤ tt;
      side = lit≤ tt;
      tiles = lit≤ tt;
      bound = lit≤ tt;
      accuracy = lit≤ tt;
      levels = lit≤ tt;
      amount = lit≤ tt;
    }

pub answers_kept : AnswersKept
answers_kept file st then =
    record {
      meaning = (acceptance unit_limits file).accepted_only_if st now;
      printed = ap printed_of now;
      reply = λ room. ap (λ (o : Outcome). reply_to o room) now;
      buffer = λ before. ap (λ (o : Outcome). buffer_after o before) now;
    }
  where
    now : outcome_of unit_limits file ≡ accepted st
    now = widening earlier_limits unit_limits widened file st then

-- ---- files from before corner gaps were round

pub answered_as_before : AnsweredAsBefore
answered_as_before file st a = answers_kept file st (still_accepted earlier_limits file st a)
