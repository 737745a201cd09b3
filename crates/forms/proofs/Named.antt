-- The constants of src/limits.rt that other crates go by are the unit's limits.
use Rattle.std.specs.Prelude.{◌≡◌}
use Rattle.std.proofs.Common.{refl}
use Rattle.forms.specs.declared.limits.TheConstants.{MOST_BYTES, MOST_DIGITS, MOST_SHAPES, MOST_TILES}
use Rattle.forms.specs.Limits.{unit_limits}

pub most_bytes : MOST_BYTES ≡ unit_limits.bytes
most_bytes = refl

pub most_digits : MOST_DIGITS ≡ unit_limits.digits
most_digits = refl

pub most_shapes : MOST_SHAPES ≡ unit_limits.shapes
most_shapes = refl

pub most_tiles : MOST_TILES ≡ unit_limits.tiles
most_tiles = refl
