-- Where an expression is refused: its operators and aggregates that meet a wrong kind, and what is too wide.
use Rattle.std.specs.Prelude.{ℕ, ◌&&◌, not, List, [], ◌∷◌, ◌++◌}
use Rattle.pg_ast.specs.Trees.{ExprTree, Literal, Wide, ColumnOf, PropertyOf, One, Two, Group, Counted}
use Rattle.pg_rules.specs.Places.{place_if}
use Rattle.pg_meaning.specs.Typing.{Names, kind_of, width_of, unary_takes, binary_takes, agg_takes, unary_width, binary_width, agg_width, too_wide}

-- KINDS

-- operators and aggregates that meet a wrong kind
abbrev pub types_at : Names → ExprTree → List ℕ
types_at scope (Literal v bits at) = []
types_at scope (Wide at) = []
types_at scope (ColumnOf n) = []
types_at scope (PropertyOf v n) = []
types_at scope (One op x at) = place_if (not (unary_takes op (kind_of scope x))) at ++ types_at scope x
types_at scope (Two op x y at) = place_if (not (binary_takes op (kind_of scope x) (kind_of scope y))) at ++ (types_at scope x ++ types_at scope y)
types_at scope (Group agg x at) = place_if (not (agg_takes agg (kind_of scope x))) at ++ types_at scope x
types_at scope (Counted v at) = []

-- WIDTHS

-- literals, operators and aggregates whose own width is too large while their arguments' are not
abbrev pub wide_at : Names → ExprTree → List ℕ
wide_at scope (Literal v bits at) = place_if (too_wide bits) at
wide_at scope (Wide at) = at ∷ []
wide_at scope (ColumnOf n) = []
wide_at scope (PropertyOf v n) = []
wide_at scope (One op x at) = place_if (too_wide (unary_width op (width_of scope x)) && not (too_wide (width_of scope x))) at ++ wide_at scope x
wide_at scope (Two op x y at) =
    place_if (too_wide (binary_width op (width_of scope x) (width_of scope y)) && (not (too_wide (width_of scope x)) && not (too_wide (width_of scope y)))) at
    ++ (wide_at scope x ++ wide_at scope y)
wide_at scope (Group agg x at) = place_if (too_wide (agg_width agg (width_of scope x)) && not (too_wide (width_of scope x))) at ++ wide_at scope x
wide_at scope (Counted v at) = []
