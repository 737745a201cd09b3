-- `fill::judging::Windows::failing_at` meets its contract: both boxes of tiles lie in the layout, so that their loads are light. Assumes nothing.
use Rattle.fill.proofs.Windows.{upper_inside, lower_inside}
use Rattle.tiles.proofs.Summing.{load_light}
use Rattle.fill.proofs.judging.Windows.failing_at.Goals as goal

pub failed-requires : goal.failed-requires
failed-requires c =
    let sums = c.args.self.loads.now.corner_sums in (
      load_light sums (upper_inside c.requires _ c.tiles_for_upper.ensures) c.load-outer.ensures,
      load_light sums (lower_inside c.requires _ c.tiles_for_lower.ensures) c.load-inner.ensures,
    )
