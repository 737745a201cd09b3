-- Document 01, "The program", with the lines of document 02's requests 1 and 7 and the counts of its request 2: the six lines that say what an
-- accepted job is answered.
use Rattle.std.specs.Prelude.{ℕ, List, [], ◌∷◌, ◌++◌}
use Rattle.geometry.specs.declared.Sense.{Sense}
use Rattle.geometry.specs.declared.Sense.TheVariants.{Greatest, Least}
use Rattle.geometry.specs.Extreme.{spot_numbers}
use Rattle.extremes.specs.declared.Extremes.{Extremes}
use Rattle.zoom.specs.declared.End.{End}
use Rattle.zoom.specs.declared.End.TheVariants.{Met, Stopped, Exact}
use Rattle.levels.specs.declared.Level.{Level}
use Rattle.zoom.specs.declared.Quick.{Quick}
use Rattle.fill.specs.declared.Bound.{Bound}
use Rattle.fill.specs.declared.Bound.TheVariants.{Over, Under}
use Rattle.fill.specs.declared.Failure.{Failure}
use Rattle.fill.specs.declared.Verdict.{Verdict}
use Rattle.fill.specs.declared.Verdict.TheVariants.{Safe, Broken, Undecided}
use Rattle.positions.specs.declared.Tally.{Tally}
use Rattle.spelling.specs.Text.{bytes}
use Rattle.spelling.specs.Pattern.{spell}
use Rattle.answers.specs.declared.Counts.{Counts}
use Rattle.answers.specs.declared.Answer.{Answer}

-- after max, min, floor and high stand area, x, y and the shapes under the window
abbrev pub exact_line : Extremes → Counts → List ℕ
exact_line e counts =
    spell (bytes "(exact (max # # # #) (min # # # #))\n") (spot_numbers e.greatest (counts.max ∷ spot_numbers e.least (counts.min ∷ [])))

-- the papers' word for the quick run of each extreme, and for each end
abbrev pub zoom_word : Sense → List ℕ
zoom_word Greatest = bytes "(zoom "
zoom_word Least = bytes "(zoommin "

abbrev pub end_word : End → List ℕ
end_word Met = bytes "met"
end_word Stopped = bytes "stopped"
end_word Exact = bytes "exact"

-- the bracket of the last level, its lower end first, with the shapes under the window named
abbrev pub level_part : Sense → (done : ℕ) → Level → (shapes : ℕ) → List ℕ
level_part Greatest done v shapes =
    spell (bytes " (levels #) (floor # # # #) (ceiling #) (kept #))\n") (done ∷ spot_numbers v.named (shapes ∷ v.limit ∷ v.kept ∷ []))
level_part Least done v shapes =
    spell (bytes " (levels #) (low #) (high # # # #) (kept #))\n") (done ∷ v.limit ∷ spot_numbers v.named (shapes ∷ v.kept ∷ []))

abbrev pub zoom_line : Sense → Quick → (shapes : ℕ) → List ℕ
zoom_line s q shapes = zoom_word s ++ end_word q.end ++ level_part s q.done q.last shapes

abbrev pub density_line : ℕ → List ℕ
density_line r = spell (bytes "(density #)\n") (r ∷ [])

-- under, within, over
abbrev pub positions_line : Tally → List ℕ
positions_line t = spell (bytes "(positions # # #)\n") (t.under ∷ t.within ∷ t.over ∷ [])

-- the paper's word for each bound, and the named start after it
abbrev pub bound_word : Bound → List ℕ
bound_word Over = bytes " over"
bound_word Under = bytes " under"

abbrev pub failing_start : Failure → List ℕ
failing_start f = bound_word f.bound ++ spell (bytes " # #)\n") (f.column ∷ f.row ∷ [])

abbrev pub verdict_line : Verdict → List ℕ
verdict_line Safe = bytes "(fill safe)\n"
verdict_line (Broken f) = bytes "(fill broken" ++ failing_start f
verdict_line (Undecided f) = bytes "(fill undecided" ++ failing_start f

-- the six lines
unfoldable pub text_of : Answer → List ℕ
text_of a =
    exact_line a.exact a.counts
    ++ zoom_line Greatest a.greatest a.counts.floor
    ++ zoom_line Least a.least a.counts.high
    ++ density_line a.density
    ++ positions_line a.positions
    ++ verdict_line a.verdict
