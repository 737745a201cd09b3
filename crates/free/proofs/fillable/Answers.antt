use mathlib.Core.Path.{◌∙◌}
use Rattle.free.proofs.NearParts.{serves_free}
use Rattle.free.proofs.RegionTables.{regions_fillable}
use Rattle.free.proofs.fillable.Goals as goal

pub returns : goal.returns
returns c =
    let free = c.squares_outside.ensures ∙ serves_free _ _ c.args.near c.requires.serves in
    record { free = free; eligible = λ ks e. free ∙ regions_fillable _ ks _ e }
