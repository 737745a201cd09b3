-- Job A of document 01, for the rows of its cases: N 8, W 4, R 2, B 1 and one rectangle.
use Rattle.std.specs.Prelude.{List, [], ◌∷◌}
use Rattle.geometry.specs.declared.Rect.{Rect}

abbrev pub shapes_a : List Rect
shapes_a = record { x1 = 3; y1 = 3; x2 = 5; y2 = 5 } ∷ []
