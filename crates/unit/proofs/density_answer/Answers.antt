-- `unit::density_answer` meets its contract. Assumes nothing.
use mathlib.Core.Path.{ap, ◌∙◌}
use Rattle.unit.specs.Whole.{code_of}
use Rattle.unit.proofs.Replying.{guaranteed_reply, code_small}
use Rattle.unit.proofs.density_answer.Goals as goal

pub code-requires : goal.code-requires
code-requires c = code_small _ _ _ _ c.answer.ensures

pub returns : goal.returns
returns c =
    let a = c.answer in record { code = c.code.ensures ∙ ap code_of a.ensures.reply; guarantee = guaranteed_reply _ _ _ _ a.ensures }
