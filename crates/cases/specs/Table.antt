-- The table of cases: document 01's rows A1 to Z, those of document 02's requests and our own, by phase, and files by their bytes with what is
-- printed. proofs/Follows.antt shows that all of them follow from the definitions.
use Rattle.std.specs.Prelude.{List, ◌++◌}
use Rattle.cases.specs.Row.{Row}
use Rattle.cases.specs.Areas.{area_rows}
use Rattle.cases.specs.Exact.{exact_rows}
use Rattle.cases.specs.Zoom.{zoom_rows}
use Rattle.cases.specs.Fill.{fill_rows}
use Rattle.cases.specs.Files.{file_rows}
use Rattle.cases.specs.Ranges.{range_rows}
use Rattle.cases.specs.Dummies.{dummy_rows}
use Rattle.cases.specs.Corners.{corner_rows}
use Rattle.cases.specs.Positions.{position_rows}

abbrev pub table : List Row
table = area_rows ++ exact_rows ++ zoom_rows ++ fill_rows ++ file_rows ++ range_rows ++ dummy_rows ++ corner_rows ++ position_rows
