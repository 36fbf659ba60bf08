-- The checked tree of a query, as a function of the catalog and of the query as it is written.
use Rattle.std.specs.Prelude.{ℕ, ◌≡◌, ◌+◌, ◌^◌, cond, Bool, true, false, List, [], ◌∷◌, map, length, position, Option, Some, None, option_map}
use Rattle.std.specs.List.{range_with_len}
use Rattle.std.specs.Option.{unwrap_or}
use Rattle.pg_value.specs.declared.shape.GraphNo.{GraphNo}
use Rattle.pg_value.specs.declared.shape.TableSet.{TableSet}
use Rattle.pg_value.specs.declared.value.Value.TheVariants.{Null}
use Rattle.pg_ast.specs.declared.expr.Name.{Name}
use Rattle.pg_ast.specs.declared.expr.Whole.{Whole}
use Rattle.pg_ast.specs.declared.pattern.Filler.{Filler}
use Rattle.pg_ast.specs.declared.pattern.LabelExpr.{LabelExpr}
use Rattle.pg_ast.specs.declared.pattern.Part.{Part}
use Rattle.pg_ast.specs.declared.pattern.Part.TheVariants as parts
use Rattle.pg_ast.specs.declared.pattern.PathPattern.{PathPattern}
use Rattle.pg_ast.specs.declared.pattern.ColumnItem.{ColumnItem}
use Rattle.pg_ast.specs.declared.pattern.Query.{Query}
use Rattle.pg_ast.specs.Trees.{ExprTree, tree_of, Literal, Wide, ColumnOf, PropertyOf, One, Two, Group, Counted, LabelTree, Every, label_tree}
use Rattle.pg_meaning.specs.declared.checked.CExpr.{CExpr}
use Rattle.pg_meaning.specs.declared.checked.CExpr.TheVariants as checked
use Rattle.pg_meaning.specs.declared.checked.CFiller.{CFiller}
use Rattle.pg_meaning.specs.declared.checked.CPart.{CPart}
use Rattle.pg_meaning.specs.declared.checked.CPart.TheVariants as cparts
use Rattle.pg_meaning.specs.declared.checked.CheckedPath.{CheckedPath}
use Rattle.pg_meaning.specs.declared.checked.CheckedColumn.{CheckedColumn}
use Rattle.pg_meaning.specs.declared.checked.CheckedQuery.{CheckedQuery}
use Rattle.pg_meaning.specs.Typing.{Names, kind_of, width_of}
use Rattle.pg_meaning.specs.Answers.{column_names}
use Rattle.pg_meaning.specs.Mentions.{Mention, mentions_in, first_mentions}
use Rattle.pg_meaning.specs.Sound.Queries.{mentions_of as checked_mentions}
use Rattle.pg_rules.specs.Catalog.{Defined}
use Rattle.pg_rules.specs.Catalog.LookUps.{table_number}
use Rattle.pg_rules.specs.Catalog.GraphLookUps.{graph_shape, property_at, tables_of, has_number}
use Rattle.pg_rules.specs.Queries.Collections.{same_name, outlines, mentions_of, variables_of}
use Rattle.pg_rules.specs.Queries.{graph_of, entry_of, names_of}

-- WHAT NAMES BECOME

-- the number of a variable, in order of first mention
abbrev pub number_of : List Name → Name → ℕ
number_of variables n = unwrap_or (position (same_name n) variables) 0

-- for each table the place of the column that it has for a property in the graph
abbrev pub columns_of : Defined → GraphNo → List ℕ → List (Option ℕ)
columns_of d g name = map (λ t. property_at d g (table_number t) name) (range_with_len 0 (length d.0))

-- the sum of two to each of these numbers that are among the tables
abbrev pub bits_among : List ℕ → List ℕ → ℕ
bits_among [] tables = 0
bits_among (t ∷ ts) tables = cond (has_number t tables) (2 ^ t) 0 + bits_among ts tables

-- the set of some of the tables 0 to 63
abbrev pub set_of : List ℕ → TableSet
set_of tables = record { 0 = bits_among (range_with_len 0 64) tables }

-- EXPRESSIONS

-- over a graph and the variables of a query; what no checked query has in it stands for NULL
abbrev pub checked_tree : Defined → GraphNo → List Name → ExprTree → CExpr
checked_tree d g variables (Literal v bits at) = checked.Lit v
checked_tree d g variables (Wide at) = checked.Lit Null
checked_tree d g variables (ColumnOf n) = checked.Lit Null
checked_tree d g variables (PropertyOf v n) = checked.Property (number_of variables v) (columns_of d g n.text)
checked_tree d g variables (One op x at) = checked.Unary op (checked_tree d g variables x)
checked_tree d g variables (Two op x y at) = checked.Binary op (checked_tree d g variables x) (checked_tree d g variables y)
checked_tree d g variables (Group agg x at) = checked.Agg agg (checked_tree d g variables x)
checked_tree d g variables (Counted v at) = checked.CountVar (number_of variables v)

abbrev pub checked_condition : Defined → GraphNo → List Name → Option Whole → Option CExpr
checked_condition d g variables condition = option_map (λ w. checked_tree d g variables (tree_of w.expr)) condition

-- PATTERNS

-- without a label expression every label will do
abbrev pub label_of : Option LabelExpr → LabelTree
label_of None = Every
label_of (Some l) = label_tree l

-- a node, or an edge
abbrev pub checked_filler : Defined → GraphNo → List Name → Bool → Filler → CFiller
checked_filler d g variables edge f = record {
  var = option_map (number_of variables) f.var;
  tables = set_of (tables_of d g edge (label_of f.label));
  cond = checked_condition d g variables f.cond;
}

abbrev pub checked_part : Defined → GraphNo → List Name → Part → CPart
checked_part d g variables (parts.Node f) = cparts.Node (checked_filler d g variables false f)
checked_part d g variables (parts.Edge arrow f quant) = cparts.Edge arrow (checked_filler d g variables true f) quant
checked_part d g variables (parts.Group nodes arrows edges condition quant) =
    cparts.Group (map (checked_filler d g variables false) nodes) arrows (map (checked_filler d g variables true) edges) (checked_condition d g variables condition) quant

-- the variables of one path pattern, in order of first mention in it
abbrev pub own_variables : PathPattern → List Name
own_variables p = map (λ m. m.variable) (first_mentions same_name (mentions_in 0 (outlines p)))

abbrev pub checked_path : Defined → GraphNo → List Name → PathPattern → CheckedPath
checked_path d g variables p = record {
  graph = graph_shape d g;
  selector = p.selector;
  mode = p.mode;
  parts = map (checked_part d g variables) p.parts;
  vars = map (number_of variables) (own_variables p);
}

-- QUERIES

abbrev pub checked_column : Defined → GraphNo → List Name → Names → ColumnItem → CheckedColumn
checked_column d g variables names c = record {
  expr = checked_tree d g variables (tree_of c.expr.expr);
  name = c.name.text;
  kind = kind_of names (tree_of c.expr.expr);
  width = width_of names (tree_of c.expr.expr);
}

abbrev pub checked_query : Defined → Query → CheckedQuery
checked_query d q = record {
  graph = graph_shape d (graph_of d q);
  paths = map (checked_path d (graph_of d q) (variables_of q)) q.paths;
  cond = checked_condition d (graph_of d q) (variables_of q) q.cond;
  columns = map (checked_column d (graph_of d q) (variables_of q) (names_of (entry_of d q))) q.columns;
  vars = length (variables_of q);
}

-- THE LAW

-- a checked query mentions its variables where the query does, by their numbers
abbrev pub numbered : List Name → Mention Name → Mention ℕ
numbered variables m = record { variable = number_of variables m.variable; edge = m.edge; path = m.path; part = m.part; end = m.end }

abbrev pub MentionsAreKept : Type 0
MentionsAreKept = (d : Defined) (q : Query) → checked_mentions (checked_query d q) ≡ map (numbered (variables_of q)) (mentions_of q)

-- its columns have the names of the query's
abbrev pub NamesAreKept : Type 0
NamesAreKept = (d : Defined) (q : Query) → column_names (checked_query d q) ≡ map (λ c. c.name.text) q.columns
