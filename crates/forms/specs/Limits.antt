-- Document 01, "The job file", and document 02, request 8: the limits of a file and of its numbers. They are a value, so that two sets of limits can be
-- compared.
use Rattle.std.specs.Prelude.{ℕ, ◌≤◌}

-- the most that a file may have: bytes of the file, digits of a number, shapes; and the greatest value of each sort of number
pub record Limits : Type 0 where
  pub bytes : ℕ
  pub digits : ℕ
  pub shapes : ℕ
  -- N, W, B, D and corners
  pub side : ℕ
  -- R, tiles across a window, and tiles across a layout; I and J are below it
  pub tiles : ℕ
  -- L and U, in ten-thousandths
  pub bound : ℕ
  -- E, in thousandths
  pub accuracy : ℕ
  -- V
  pub levels : ℕ
  -- P
  pub amount : ℕ

-- the unit's limits: those of document 01, with sides, amounts and digits as request 8 widened them. The contracts cite them
abbrev pub unit_limits : Limits
unit_limits =
    record { bytes = 60000; digits = 13; shapes = 256; side = 1000000; tiles = 64; bound = 10000; accuracy = 1000; levels = 6; amount = 1000000000000 }

-- the limits before that request, for the laws about files from then
abbrev pub earlier_limits : Limits
earlier_limits =
    record { bytes = 60000; digits = 10; shapes = 256; side = 65535; tiles = 64; bound = 10000; accuracy = 1000; levels = 6; amount = 4294836225 }

-- every old limit is at most the new one
pub record Widened (old new : Limits) : Type 0 where
  pub bytes : old.bytes ≤ new.bytes
  pub digits : old.digits ≤ new.digits
  pub shapes : old.shapes ≤ new.shapes
  pub side : old.side ≤ new.side
  pub tiles : old.tiles ≤ new.tiles
  pub bound : old.bound ≤ new.bound
  pub accuracy : old.accuracy ≤ new.accuracy
  pub levels : old.levels ≤ new.levels
  pub amount : old.amount ≤ new.amount
