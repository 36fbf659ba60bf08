-- The parsers of CREATE PROPERTY GRAPH read its rules.
use Rattle.std.proofs.Common.{false, true, List, [], ◌∷◌, ◌++◌, refl}
use Rattle.std.specs.Prelude.{codes}
use Rattle.pg_lex.specs.declared.token.Token.{Token}
use Rattle.pg_ast.specs.declared.expr.Name.{Name}
use Rattle.pg_ast.specs.declared.define.Props.TheVariants.{All, Listed}
use Rattle.pg_ast.specs.declared.define.Labels.TheVariants.{Own, Given}
use Rattle.pg_ast.specs.declared.define.Define.{Define}
use Rattle.pg_ast.specs.declared.define.Define.TheVariants.{Graph}
use Rattle.pg_ast.specs.Words.Terminals.{Terminal, AName}
use Rattle.pg_ast.specs.Grammar.Rule.{Rule, ◌>>=◌, give, the}
use Rattle.pg_ast.specs.Grammar.Names.{name}
use Rattle.pg_ast.specs.Grammar.Parts.{optional, several, listed}
use Rattle.pg_ast.specs.Grammar.Definitions as grammar
use Rattle.pg_ast.specs.Words.Names as word
use Rattle.pg_ast.specs.Words as keyword
use Rattle.pg_grammar.specs.Kit.Parses.{Parses, parses-give, parses-then, parses-or, parses-sized}
use Rattle.pg_grammar.specs.Kit.OneToken.{parses-word}
use Rattle.pg_grammar.specs.Laws.{parses-name, parses-names}
use Rattle.pg_sql.specs.Read.Graphs as parser
use Rattle.pg_sql.proofs.PartLaws.{parses-optional, parses-skip, parses-several, parses-listed, parses-unfactored}

-- what properties and labels begin with
abbrev props_first : List Terminal
props_first = keyword.no_word ∷ keyword.properties ∷ []

abbrev label_first : List Terminal
label_first = keyword.label ∷ keyword.default_word ∷ []

abbrev labels_first : List Terminal
labels_first = label_first ++ props_first

parses-new-name : Parses (optional (the keyword.as_word >>= λ _. name)) parser.new_name (keyword.as_word ∷ []) (keyword.as_word ∷ []) true
unfolding parser.new_name
parses-new-name = parses-optional (parses-then (parses-word _) (λ _. parses-name) refl)

parses-prop : Parses grammar.prop parser.prop (AName ∷ []) (keyword.as_word ∷ []) false
unfolding parser.prop
parses-prop = parses-then parses-name (λ c. parses-then parses-new-name (λ n. parses-give _) refl) refl

parses-prop-items : Parses (listed grammar.prop) parser.prop_items (word.opening ∷ []) [] false
unfolding parser.prop_items
parses-prop-items = parses-listed parses-prop refl refl

parses-props : Parses grammar.props parser.props props_first [] false
unfolding parser.props parser.properties parser.all_columns
parses-props =
    parses-or (parses-then (parses-word _) (λ _. parses-then (parses-word _) (λ _. parses-give (Listed [])) refl) refl)
    (parses-unfactored
    (parses-then (parses-word (codes "PROPERTIES")) (λ _.
    parses-or (parses-then parses-prop-items (λ ps. parses-give (Listed ps)) refl)
    (parses-then (parses-skip _) (λ _. parses-then (parses-word _) (λ _. parses-then (parses-word _) (λ _. parses-give All) refl) refl) refl) refl) refl)) refl

parses-any-props : Parses grammar.any_props parser.any_props props_first props_first true
unfolding parser.any_props
parses-any-props = parses-or parses-props (parses-give All) refl

parses-label : (table : Name) → Parses (grammar.label table) (parser.label table) label_first props_first false
unfolding parser.label parser.default_label
parses-label table =
    parses-sized label_first props_first
    (parses-or
    (parses-then (parses-word _) (λ t. parses-then parses-name (λ n. parses-then parses-any-props (λ ps. parses-give _) refl) refl) refl)
    (parses-then (parses-word _) (λ t. parses-then (parses-word _) (λ _. parses-then parses-any-props (λ ps. parses-give _) refl) refl) refl) refl) refl refl

parses-label-list : (table : Name) → Parses (several (grammar.label table)) (parser.label_list table) label_first labels_first false
parses-label-list table = parses-sized label_first labels_first (parses-several (parses-label table) refl) refl refl

parses-labels : (table : Name) → Parses (grammar.labels table) (parser.labels table) labels_first labels_first true
unfolding parser.labels
parses-labels table =
    parses-sized labels_first labels_first
    (parses-or (parses-then (parses-label-list table) (λ ls. parses-give (Given ls)) refl) (parses-then parses-any-props (λ ps. parses-give (Own ps)) refl) refl) refl refl

parses-key : Parses grammar.key parser.key (keyword.key ∷ []) [] false
unfolding parser.key
parses-key = parses-then (parses-word _) (λ _. parses-names) refl

parses-own-key : Parses (optional grammar.key) parser.own_key (keyword.key ∷ []) (keyword.key ∷ []) true
unfolding parser.own_key
parses-own-key = parses-optional parses-key

parses-vertex : Parses grammar.vertex parser.vertex (AName ∷ []) (keyword.key ∷ labels_first) false
unfolding parser.vertex
parses-vertex =
    parses-sized (AName ∷ []) (keyword.key ∷ labels_first)
    (parses-then parses-name (λ t. parses-then parses-own-key (λ k. parses-then (parses-labels t) (λ ls. parses-give _) refl) refl) refl) refl refl

parses-vertices : Parses (listed grammar.vertex) parser.vertices (word.opening ∷ []) [] false
unfolding parser.vertices
parses-vertices = parses-listed parses-vertex refl refl

parses-vertex-tables : Parses grammar.vertex_tables parser.vertex_tables (keyword.vertex ∷ []) [] false
unfolding parser.vertex_tables
parses-vertex-tables = parses-then (parses-word _) (λ _. parses-then (parses-word _) (λ _. parses-vertices) refl) refl

parses-end-point : Parses grammar.end_point parser.end_point (keyword.key ∷ []) [] false
unfolding parser.end_point
parses-end-point =
    parses-then parses-key (λ cs.
    parses-then (parses-word _) (λ _.
    parses-then parses-name (λ t.
    parses-then parses-names (λ target. parses-give _) refl) refl) refl) refl

parses-edge : Parses grammar.edge parser.edge (AName ∷ []) labels_first false
unfolding parser.edge
parses-edge =
    parses-sized (AName ∷ []) labels_first
    (parses-then parses-name (λ t.
    parses-then parses-own-key (λ k.
    parses-then (parses-word _) (λ _.
    parses-then parses-end-point (λ s.
    parses-then (parses-word _) (λ _.
    parses-then parses-end-point (λ d.
    parses-then (parses-labels t) (λ ls. parses-give _) refl) refl) refl) refl) refl) refl) refl) refl refl

parses-edges : Parses (listed grammar.edge) parser.edges (word.opening ∷ []) [] false
unfolding parser.edges
parses-edges = parses-listed parses-edge refl refl

parses-edge-tables : Parses grammar.edge_tables parser.edge_tables (keyword.edge ∷ []) (keyword.edge ∷ []) true
unfolding parser.edge_tables
parses-edge-tables = parses-or (parses-then (parses-word _) (λ _. parses-then (parses-word _) (λ _. parses-edges) refl) refl) (parses-give []) refl

-- CREATE PROPERTY GRAPH behind its first token
abbrev pub graph_behind : Token → Rule Define
graph_behind t = do
  _ ← the keyword.property
  _ ← the keyword.graph
  n ← name
  vs ← grammar.vertex_tables
  es ← grammar.edge_tables
  give (Graph (record { name = n; vertices = vs; edges = es; at = t.from }))

pub parses-graph : (t : Token) → Parses (graph_behind t) (parser.graph t) (keyword.property ∷ []) (keyword.edge ∷ []) false
unfolding parser.graph
parses-graph t =
    parses-then (parses-word _) (λ _.
    parses-then (parses-word _) (λ _.
    parses-then parses-name (λ n.
    parses-then parses-vertex-tables (λ vs.
    parses-then parses-edge-tables (λ es. parses-give _) refl) refl) refl) refl) refl
