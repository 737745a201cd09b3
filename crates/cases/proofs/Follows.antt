-- Every row of the table of cases follows from the definitions: one proof, by computation.
use mathlib.Core.Path.{◌≡◌, refl}
use lib.Count.{count_trailing_zeros}
use Rattle.rounding.specs.Nearest.{rounded}
use Rattle.geometry.specs.Count.{sum, rect_sum}
use Rattle.geometry.specs.Layout.{covered}
use Rattle.geometry.specs.Extreme.{best_in_row, best_in_rows}
use Rattle.extremes.specs.Exact.{extreme}
use Rattle.levels.specs.Levels.{level_of}
use Rattle.zoom.specs.Run.{level_at, run_from, quick_run}
use Rattle.spacing.specs.Eligible.{clear_of_all}
use Rattle.spacing.specs.SquareCorners.{clear_of_all_before}
use Rattle.fill.specs.Judge.{first_of, standard_failing, margin_failing}
use Rattle.spelling.specs.Text.{bytes, pieces}
use Rattle.spelling.specs.Decimal.{decimal, decimal_in, digits_of, past_digits, value_from, same_bytes}
use Rattle.spelling.specs.Pattern.{spell, read_as}
use Rattle.lines.specs.Spellings.{one_gap_pattern, two_gaps_pattern, rect_pattern, dummy_pattern, fill_pattern, end_pattern}
use Rattle.lines.specs.Reading.{form_of}
use Rattle.standing.specs.Faults.{shape_fault, fill_fault, line_fault, stands_after}
use Rattle.jobfile.specs.File.{read_lines, outcome_of}
use Rattle.answers.specs.Lines.{text_of}
use Rattle.run.specs.Answering.{answer_for}
use Rattle.cases.specs.Row.{found_in, stated_in}
use Rattle.cases.specs.Printing.{printed_lines}
use Rattle.cases.specs.Ranges.{prints_each, refusals}
use Rattle.cases.specs.Table.{table}

pub cases : found_in table ≡ stated_in table
unfolding rounded sum rect_sum covered best_in_row best_in_rows extreme level_of level_at run_from quick_run count_trailing_zeros clear_of_all clear_of_all_before first_of standard_failing margin_failing bytes pieces decimal decimal_in digits_of past_digits value_from same_bytes spell read_as one_gap_pattern two_gaps_pattern rect_pattern dummy_pattern fill_pattern end_pattern form_of shape_fault fill_fault line_fault stands_after read_lines outcome_of answer_for text_of printed_lines prints_each refusals
cases = refl
