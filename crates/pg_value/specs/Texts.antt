-- The bytes of a text, however it is held.
use Rattle.std.specs.Prelude.{ℕ, List}
use Rattle.std.specs.String.{string_bytes}
use Rattle.pg_value.specs.Fixed.{fixed_bytes}
use Rattle.pg_value.specs.declared.text.Held.{Held}
use Rattle.pg_value.specs.declared.text.Held.TheVariants.{Fixed, Short, Own}

abbrev pub held_bytes : Held → List ℕ
held_bytes (Fixed text alloc) = fixed_bytes text
held_bytes (Short text alloc) = text
held_bytes (Own string) = string_bytes string.value
