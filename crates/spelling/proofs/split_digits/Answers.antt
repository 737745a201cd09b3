-- The digits end where `position` finds the first byte that is none.
use Rattle.std.proofs.Common.{◌≡◌, ℕ, length, not, rules, tests, ◌∙◌}
use Rattle.std.proofs.lemmas.Iterator.{YieldsList-from_slice}
use Rattle.std.proofs.lemmas.Iterator.Search.{position_from_yields_List}
use Rattle.spelling.specs.Decimal.{is_digit, digits_of}
use Rattle.spelling.proofs.Numerals.{past_is_drop}
use Rattle.spelling.proofs.Lines.{place_found}
use Rattle.spelling.proofs.Digits.{digits_place, digits_front}
use Rattle.spelling.proofs.split_digits.Goals as goal

many : (c : goal.After-split_at) → c.unwrap_or-end.result ≡ length (digits_of c.args.text.now)
many c =
    let s = c.args.text.now in
    let over = λ (b : ℕ). not (is_digit b) in
    let found = position_from_yields_List over _ _ c.position.result c.position.ensures.ran (YieldsList-from_slice s cc) (λ x b q k. search (rules, tests)) in
    place_found over s c.position.result c.unwrap_or-end.result found c.unwrap_or-end.ensures ∙ digits_place s

pub returns-clause-digits : goal.returns-clause-digits
returns-clause-digits c = let e = many c in let k = digits_front c.args.text.now in cc

pub returns-clause-rest : goal.returns-clause-rest
returns-clause-rest c = let e = many c in let k = past_is_drop c.args.text.now in cc
