-- The number of 128 bits that two halves are.
use Rattle.std.specs.Prelude.{ℕ, ℤ, ◌+◌, ◌*◌, ◌^◌}
use Rattle.std.specs.Int.{w128, cast_signed}

abbrev pub number_of : ℕ → ℕ → ℤ
number_of high low = cast_signed w128 (high * 2 ^ 64 + low)
