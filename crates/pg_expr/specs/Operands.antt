-- The values of operands, and the numbers of values.
use Rattle.std.specs.Prelude.{ℤ, Option, Some, None}
use Rattle.pg_value.specs.declared.value.Value.{Value}
use Rattle.pg_value.specs.declared.value.Value.TheVariants.{Null, Int, Text, Bool as Truth'}
use Rattle.pg_expr.specs.declared.operand.Operand.{Operand}
use Rattle.pg_expr.specs.declared.operand.Operand.TheVariants.{Borrowed, Made}

-- the value that an operand is
abbrev pub seen : Operand → Value
seen (Borrowed v) = v.now
seen (Made v) = v

-- the number that a value is, if it is one
abbrev pub number_in : Value → Option ℤ
number_in Null = None
number_in (Int n) = Some n
number_in (Text t) = None
number_in (Truth' b) = None
