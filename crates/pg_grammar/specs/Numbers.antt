-- Numbers that a value holds.
use Rattle.std.specs.Prelude.{ℕ, ◌^◌, if◌then◌else◌, nat_lt, Option, Some, None}

-- the number, if a value holds it
abbrev pub fitting : ℕ → Option ℕ
fitting n = if (nat_lt n (2 ^ 127)) then (Some n) else None
