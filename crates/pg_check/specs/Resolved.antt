-- The checked tree of a query as its building goes.
use Rattle.std.specs.Prelude.{ℕ, ◌≡◌, ◌≤◌, List, map, length, Option, Some}
use Rattle.pg_value.specs.declared.shape.GraphNo.{GraphNo}
use Rattle.pg_ast.specs.declared.expr.Name.{Name}
use Rattle.pg_ast.specs.declared.pattern.ColumnItem.{ColumnItem}
use Rattle.pg_ast.specs.Trees.{tree_of}
use Rattle.pg_meaning.specs.declared.checked.CheckedColumn.{CheckedColumn}
use Rattle.pg_meaning.specs.Typing.{Names, kind_of, width_of}
use Rattle.pg_rules.specs.Catalog.{Defined}
use Rattle.pg_rules.specs.Queries.CheckedQueries.{checked_tree, checked_path, checked_condition, number_of}
use Rattle.pg_rules.specs.Catalog.GraphLookUps.{graph_shape}
use Rattle.pg_rules.specs.declared.fault.QueryFault.{QueryFault}
use Rattle.pg_rules.specs.declared.fault.QueryFault.TheVariants as faults
use Rattle.pg_ast.specs.declared.pattern.Query.{Query}
use Rattle.pg_meaning.specs.declared.checked.CheckedQuery.{CheckedQuery}
use Rattle.std.proofs.Common.{Bor}
use Rattle.pg_check.specs.declared.mentions.MentionOf.{MentionOf}
use Rattle.pg_check.specs.Gathered.{mention_view}
use Rattle.pg_check.specs.Scopes.{capped}
use Rattle.pg_check.specs.UsePlaces.{Known}

abbrev pub names_in : Known → List Name
names_in known = map (λ e. e.1.variable) known

-- each variable stands under its own name, and there are at most 32
pub record Fits (known : Known) : Type 0 where
  pub keys : map (λ e. e.0) known ≡ map (λ e. e.1.variable.text) known
  pub few : length known ≤ 32

abbrev pub numbered : List Name → List (Bor (List ℕ) × MentionOf) → List ℕ
numbered variables es = map (λ e. number_of variables (mention_view e.1).variable) es

-- a column whose width is counted as far as 127
abbrev pub capped_column : Defined → GraphNo → List Name → Names → ColumnItem → CheckedColumn
capped_column d g variables names c = record {
  expr = checked_tree d g variables (tree_of c.expr.expr);
  name = c.name.text;
  kind = kind_of names (tree_of c.expr.expr);
  width = capped (width_of names (tree_of c.expr.expr));
}

abbrev pub capped_columns : Defined → GraphNo → Known → Names → List ColumnItem → List CheckedColumn
capped_columns d g known names cs = map (capped_column d g (names_in known) names) cs

-- the checked tree over variables that were gathered
abbrev pub built : Defined → GraphNo → Known → Names → Query → CheckedQuery
built d g known names q = record {
  graph = graph_shape d g;
  paths = map (checked_path d g (names_in known)) q.paths;
  cond = checked_condition d g (names_in known) q.cond;
  columns = capped_columns d g known names q.columns;
  vars = length known;
}

-- want of memory is free; any other fault is the one that is found
abbrev pub IsFault : Option QueryFault → QueryFault → Type 0
IsFault o faults.Memory = Unit {0}
IsFault o (faults.NoGraph at) = o ≡ Some (faults.NoGraph at)
IsFault o (faults.NoLabel at) = o ≡ Some (faults.NoLabel at)
IsFault o (faults.NoProperty at) = o ≡ Some (faults.NoProperty at)
IsFault o (faults.Unbounded at) = o ≡ Some (faults.Unbounded at)
IsFault o (faults.Bounds at) = o ≡ Some (faults.Bounds at)
IsFault o (faults.BadVariable at) = o ≡ Some (faults.BadVariable at)
IsFault o (faults.GroupUse at) = o ≡ Some (faults.GroupUse at)
IsFault o (faults.Types at) = o ≡ Some (faults.Types at)
IsFault o (faults.Wide at) = o ≡ Some (faults.Wide at)
IsFault o (faults.Limit at) = o ≡ Some (faults.Limit at)
