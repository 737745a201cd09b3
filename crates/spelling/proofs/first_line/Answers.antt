-- The first line ends where `position` finds the first line feed.
use Rattle.std.proofs.Common.{ℕ, nat_eq, rules, tests, ◌∙◌}
use Rattle.std.proofs.lemmas.Iterator.{YieldsList-from_slice}
use Rattle.std.proofs.lemmas.Iterator.Search.{position_from_yields_List}
use Rattle.spelling.proofs.Lines.{place_found, line_length_place}
use Rattle.spelling.proofs.first_line.Goals as goal

pub returns : goal.returns
returns c =
    let s = c.args.text.now in
    let feed = λ (b : ℕ). nat_eq b 10 in
    let found = position_from_yields_List feed _ _ c.position.result c.position.ensures.ran (YieldsList-from_slice s cc) (λ x b q k. search (rules, tests)) in
    place_found feed s c.position.result c.unwrap_or.result found c.unwrap_or.ensures ∙ line_length_place s
