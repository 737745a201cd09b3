-- `fill::judging::Windows::failing_in_row` meets its contract. Assumes nothing.
use borrow.Author.Rules.{rules}
use Rattle.std.proofs.iter.runs.Sources.{ranges}
use Rattle.fill.proofs.Starts.{mapped}
use Rattle.fill.proofs.judging.Windows.failing_in_row.Goals as goal

pub returns : goal.returns
returns c = mapped _ _ _ _ (λ x v q k. search rules) _ _ (λ p e. search (rules, ranges)) c.find_map.ensures.runs
