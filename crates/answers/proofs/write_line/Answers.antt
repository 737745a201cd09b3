-- A text takes at most as many bytes as its pattern and 20 digits to a number.
use Rattle.std.proofs.Common.{arith, ap, length, length-append}
use Rattle.spelling.specs.Pattern.{spell}
use Rattle.answers.proofs.Length.{spell_fits}
use Rattle.answers.proofs.write_line.Goals as goal

pub returns-clause-within : goal.returns-clause-within
returns-clause-within g c =
    let p = c.args.pattern.now in
    let v = c.args.values.now in
    omega (arith, spell_fits p v c.type_inv.values, ap length c.write_as.ensures, length-append c.args.text.now.items (spell p v))
