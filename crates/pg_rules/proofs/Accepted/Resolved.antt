-- Resolving an expression of a query keeps its kind and its width.
use Rattle.std.proofs.Common.{◌≡◌, refl, ap, sym, ◌∙◌, List}
use Rattle.pg_value.specs.declared.shape.GraphNo.{GraphNo}
use Rattle.pg_ast.specs.declared.expr.Name.{Name}
use Rattle.pg_ast.specs.Trees.{ExprTree, Literal, Wide, ColumnOf, PropertyOf, One, Two, Group, Counted}
use Rattle.pg_meaning.specs.CExprs.{ctree_of, tree_unary, tree_binary, tree_agg}
use Rattle.pg_meaning.specs.Typing.{kind_of, width_of, agg_kind, unary_width, binary_width, agg_width}
use Rattle.pg_meaning.specs.Sound.Kinds.{Frame, OfTables, kind_in, width_in}
use Rattle.pg_rules.specs.Catalog.{Defined}
use Rattle.pg_rules.specs.Catalog.GraphLookUps.{graph_numbered}
use Rattle.pg_rules.specs.Catalog.Shapes.{shapes}
use Rattle.pg_rules.specs.Catalog.Sound.{IsSound}
use Rattle.pg_rules.specs.Queries.{names_of}
use Rattle.pg_rules.specs.Queries.CheckedQueries.{checked_tree}
use Rattle.pg_rules.specs.Resolving.{HasDigits, QueryResolvingKeeps}
use Rattle.pg_rules.proofs.Accepted.Properties.{of_name}

module _ (d : Defined) (g : GraphNo) (variables : List Name) (sound : IsSound d) where
  abbrev frame : Frame
  frame = OfTables (shapes d)

  pub same_kind : (t : ExprTree) → HasDigits t → kind_in frame (ctree_of (checked_tree d g variables t)) ≡ kind_of (names_of (graph_numbered d.1 g)) t
  same_kind (Literal v bits at) h = refl
  same_kind (Wide at) h = absurd h
  same_kind (ColumnOf n) h = refl
  same_kind (PropertyOf v n) h = (of_name d g n.text sound).kind
  same_kind (One op x at) h = ap (kind_in frame) (tree_unary op (checked_tree d g variables x))
  same_kind (Two op x y at) h = ap (kind_in frame) (tree_binary op (checked_tree d g variables x) (checked_tree d g variables y))
  same_kind (Group agg x at) h = ap (kind_in frame) (tree_agg agg (checked_tree d g variables x)) ∙ ap (agg_kind agg) (same_kind x h)
  same_kind (Counted v at) h = refl

  pub same_width : (t : ExprTree) → HasDigits t → width_in frame (ctree_of (checked_tree d g variables t)) ≡ width_of (names_of (graph_numbered d.1 g)) t
  same_width (Literal v bits at) h = sym h
  same_width (Wide at) h = absurd h
  same_width (ColumnOf n) h = refl
  same_width (PropertyOf v n) h = (of_name d g n.text sound).width
  same_width (One op x at) h = ap (width_in frame) (tree_unary op (checked_tree d g variables x)) ∙ ap (unary_width op) (same_width x h)
  same_width (Two op x y at) h =
      ap (width_in frame) (tree_binary op (checked_tree d g variables x) (checked_tree d g variables y)) ∙ (λ i. binary_width op (same_width x h.0 i) (same_width y h.1 i))
  same_width (Group agg x at) h = ap (width_in frame) (tree_agg agg (checked_tree d g variables x)) ∙ ap (agg_width agg) (same_width x h)
  same_width (Counted v at) h = refl

pub query_resolving_keeps : QueryResolvingKeeps
query_resolving_keeps = record { kind = λ d g variables t s h. same_kind d g variables s t h; width = λ d g variables t s h. same_width d g variables s t h }
