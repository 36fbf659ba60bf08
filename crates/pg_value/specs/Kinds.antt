-- Whether two kinds of values are one.
use Rattle.std.specs.Prelude.{Bool, true, false}
use Rattle.pg_value.specs.declared.value.Kind.{Kind}
use Rattle.pg_value.specs.declared.value.Kind.TheVariants as kinds

abbrev pub same_kind : Kind → Kind → Bool
same_kind kinds.Int kinds.Int = true
same_kind kinds.Text kinds.Text = true
same_kind kinds.Bool kinds.Bool = true
same_kind _ _ = false
