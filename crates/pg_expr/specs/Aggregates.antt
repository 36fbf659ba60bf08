-- An aggregate over some values and one more.
use Rattle.std.specs.Prelude.{pos, ◌+ℤ◌, cond}
use Rattle.pg_value.specs.declared.value.Value.{Value}
use Rattle.pg_value.specs.declared.value.Value.TheVariants.{Int}
use Rattle.pg_value.specs.Compare.{is_null}
use Rattle.pg_value.specs.Order.{number}
use Rattle.pg_ast.specs.declared.expr.Agg.{Agg}
use Rattle.pg_ast.specs.declared.expr.Agg.TheVariants.{Count, Sum, Min, Max}
use Rattle.pg_meaning.specs.Meaning.{lesser, greater}

-- the one of two that is kept, where NULL stands for none
abbrev pub kept : (Value → Value → Value) → Value → Value → Value
kept choose so_far v = cond (is_null so_far) v (choose so_far v)

-- with a value that is not NULL
abbrev pub joined : Agg → Value → Value → Value
joined Count so_far v = Int (number so_far +ℤ pos 1)
joined Sum so_far v = Int (number so_far +ℤ number v)
joined Min so_far v = kept lesser so_far v
joined Max so_far v = kept greater so_far v

-- NULL changes nothing
abbrev pub added : Agg → Value → Value → Value
added agg so_far v = cond (is_null v) so_far (joined agg so_far v)
