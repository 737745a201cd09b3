-- Document 01, "Fillable area and verdict": the bounds on what a window holds, in ten-thousandths of w × w. A bound includes its own value.
use Rattle.std.specs.Prelude.{ℕ, ◌*◌, Bool, leb}

-- a total, of area or of load, keeps the upper bound U
abbrev pub keeps_upper : (upper w total : ℕ) → Bool
keeps_upper upper w total = leb (10000 * total) (upper * w * w)

-- and the lower bound L
abbrev pub keeps_lower : (lower w total : ℕ) → Bool
keeps_lower lower w total = leb (lower * w * w) (10000 * total)
