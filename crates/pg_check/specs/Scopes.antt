-- Kinds, widths and uses of variables as passes over expressions find them.
use Rattle.std.specs.Prelude.{ℕ, ◌&&◌, Bool, not, min, List, Option, Some, None, option_map}
use Rattle.std.specs.Map.{lookup}
use Rattle.std.specs.Str.{bytes_eq}
use Rattle.pg_value.specs.declared.value.Kind.{Kind}
use Rattle.pg_value.specs.declared.value.Kind.TheVariants as kinds
use Rattle.pg_ast.specs.declared.expr.Whole.{Whole}
use Rattle.pg_ast.specs.Trees.{tree_of}
use Rattle.pg_meaning.specs.Typing.{Names, typed, kind_of, may_be, too_wide, bits_of}
use Rattle.pg_rules.specs.Places.{place_if}

-- what names stand for, where these are the kinds of a graph's properties
abbrev pub scope : List (List ℕ × Kind) → Names
scope kinds None name = None
scope kinds (Some variable) name = option_map typed (lookup (bytes_eq name) kinds)

-- the place of a condition that is no truth value
abbrev pub untrue : Names → Whole → List ℕ
untrue names w = place_if (not (may_be kinds.Bool (kind_of names (tree_of w.expr)))) w.at

-- a width as far as 127
abbrev pub capped : ℕ → ℕ
capped w = min w 127

-- an own width is too large while those of both arguments are not
abbrev pub is_over : ℕ → ℕ → ℕ → Bool
is_over own v w = too_wide own && (not (too_wide v) && not (too_wide w))

abbrev pub column_width : Option Kind → ℕ
column_width None = 0
column_width (Some kind) = bits_of kind
