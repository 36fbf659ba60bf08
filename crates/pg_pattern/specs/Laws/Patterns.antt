-- The parsers of path patterns read their rules.
use Rattle.std.proofs.Common.{◌≡◌, ℕ, true, false, Some, None, List, [], ◌∷◌, ◌++◌, Ok, Err, refl}
use Rattle.std.specs.Prelude.{codes}
use Rattle.pg_ast.specs.declared.counted.Scope.TheVariants.{Query as in_query}
use Rattle.pg_ast.specs.declared.chain.Chain.{Chain}
use Rattle.pg_ast.specs.declared.pattern.Filler.{Filler}
use Rattle.pg_ast.specs.declared.pattern.Arrow.{Arrow}
use Rattle.pg_ast.specs.declared.pattern.Part.{Part}
use Rattle.pg_ast.specs.declared.pattern.Part.TheVariants.{Edge}
use Rattle.pg_ast.specs.declared.pattern.Mode.TheVariants.{Walk}
use Rattle.pg_ast.specs.declared.pattern.Selector.TheVariants.{Every}
use Rattle.pg_ast.specs.Words.Terminals.{Terminal, Tokens, AName, ANumber, is_among}
use Rattle.pg_ast.specs.Grammar.Rule.{◌>>=◌, give, ◌or◌, repeat}
use Rattle.pg_ast.specs.Grammar.Names.{name}
use Rattle.pg_ast.specs.Grammar.Parts.{optional}
use Rattle.pg_ast.specs.Grammar.Patterns as grammar
use Rattle.pg_ast.specs.Words.Patterns as word
use Rattle.pg_grammar.specs.Kit.Reading as read
use Rattle.pg_grammar.specs.Kit.Reading.{Outcome, Parser, and_then, pure}
use Rattle.pg_grammar.specs.Kit.Parses.{Parses, parses-the, parses-give, parses-then, parses-or, parses-loop, parses-sized}
use Rattle.pg_grammar.specs.Kit.OneToken.{parses-word, parses-symbol, inner-number}
use Rattle.pg_grammar.specs.Laws.{parses-name}
use Rattle.pg_grammar.specs.Laws.Labels.{parses-labels, labels_on}
use Rattle.pg_grammar.specs.Laws.Exprs.{parses-whole, whole_on}
use Rattle.pg_pattern.specs.Read.Patterns as parser
use Rattle.pg_pattern.specs.Read.Patterns.{label_first, edge_first, quant_first, parts_on}
use Rattle.pg_pattern.specs.Laws.Factored as factored
use Rattle.pg_pattern.specs.Laws.Factored.{same-edge, same-quant, same-block, same-selector, same-mode}
use Rattle.pg_pattern.specs.Laws.Rules.{parses-same, parses-alike, regrouped, parses-with-place, again}

-- NODES AND EDGES

parses-variable : Parses (optional name) parser.variable (AName ∷ []) (AName ∷ []) true
unfolding parser.variable
parses-variable = parses-or (parses-then parses-name (λ n. parses-give (Some n)) refl) (parses-give None) refl

parses-label : Parses grammar.label parser.label label_first (labels_on ++ label_first) true
unfolding parser.label parser.label_sign
parses-label =
    parses-or
    (parses-then (parses-then (parses-or (parses-word (codes "IS")) (parses-symbol (codes ":")) refl) (λ _. parses-labels) refl) (λ l. parses-give (Some l)) refl)
    (parses-give None) refl

abbrev pub condition_on : List Terminal
condition_on = whole_on ++ word.where_word ∷ []

pub parses-condition : Parses grammar.condition parser.condition (word.where_word ∷ []) condition_on true
unfolding parser.condition
parses-condition =
    parses-or
    (parses-then (parses-then (parses-word (codes "WHERE")) (λ _. parses-whole in_query) refl) (λ e. parses-give (Some e)) refl)
    (parses-give None) refl

abbrev filler_first : List Terminal
filler_first = AName ∷ word.is_word ∷ word.colon ∷ word.where_word ∷ []

abbrev filler_on : List Terminal
filler_on = AName ∷ labels_on ++ label_first ++ condition_on

parses-filler : (at : ℕ) → Parses (grammar.filler at) (parser.filler at) filler_first filler_on true
unfolding parser.filler is_among
parses-filler at =
    parses-sized filler_first filler_on
    (parses-then parses-variable (λ v.
    parses-then parses-label (λ l.
    parses-then parses-condition (λ c. parses-give _) refl) refl) refl) refl refl

parses-node-rest : (at : ℕ) → Parses (factored.node_rest at) (parser.node_rest at) (filler_first ++ word.close ∷ []) [] false
unfolding parser.node_rest
parses-node-rest at = parses-then (parses-filler at) (λ f. parses-then (parses-symbol (codes ")")) (λ _. parses-give f) refl) refl

parses-node : Parses grammar.node parser.node (word.opening ∷ []) [] false
unfolding parser.node
parses-node = parses-then (parses-symbol (codes "(")) (λ t. parses-node-rest t.from) refl

parses-bracket : (at : ℕ) → Parses (grammar.bracket at) (parser.bracket at) (word.left_bracket ∷ []) [] false
unfolding parser.bracket
parses-bracket at =
    parses-then (parses-symbol (codes "[")) (λ _.
    parses-then (parses-filler at) (λ f.
    parses-then (parses-symbol (codes "]")) (λ _. parses-give f) refl) refl) refl

parses-ended : (f : Filler) → Parses (factored.ended f) (parser.ended f) (word.greater ∷ []) (word.greater ∷ []) true
unfolding parser.ended
parses-ended f = parses-or (parses-then (parses-symbol (codes ">")) (λ _. parses-give _) refl) (parses-give _) refl

abbrev edge_on : List Terminal
edge_on = word.left_bracket ∷ word.greater ∷ []

parses-after-minus : (at : ℕ) → Parses (factored.after_minus at) (parser.after_minus at) edge_on edge_on true
unfolding parser.after_minus parser.bracketed
parses-after-minus at =
    parses-sized edge_on edge_on
    (parses-or
    (parses-then (parses-bracket at) (λ f. parses-then (parses-symbol (codes "-")) (λ _. parses-ended f) refl) refl)
    (parses-ended _) refl) refl refl

parses-pointed-left : (at : ℕ) → Parses (factored.pointed_left at) (parser.pointed_left at) (word.left_bracket ∷ []) (word.left_bracket ∷ []) true
unfolding parser.pointed_left
parses-pointed-left at =
    parses-or
    (parses-then (parses-bracket at) (λ f. parses-then (parses-symbol (codes "-")) (λ _. parses-give _) refl) refl)
    (parses-give _) refl

parses-edge : Parses grammar.edge parser.edge edge_first edge_on false
unfolding parser.edge
parses-edge =
    parses-same same-edge
    (parses-sized edge_first edge_on
    (parses-or
    (parses-then (parses-symbol (codes "-")) (λ t. parses-after-minus t.from) refl)
    (parses-then (parses-symbol (codes "<")) (λ t. parses-then (parses-symbol (codes "-")) (λ _. parses-pointed-left t.from) refl) refl) refl) refl refl)

-- QUANTIFIERS

parses-number : Parses grammar.number parser.number (ANumber ∷ []) [] false
unfolding parser.number
parses-number = parses-then (parses-the ANumber inner-number) (λ t. parses-give _) refl

parses-upper : Parses (optional grammar.number) parser.upper (ANumber ∷ []) (ANumber ∷ []) true
unfolding parser.upper
parses-upper = parses-or (parses-then parses-number (λ n. parses-give (Some n)) refl) (parses-give None) refl

parses-after-number : (at n : ℕ) → Parses (factored.after_number at n) (parser.after_number at n) (word.comma ∷ word.right_brace ∷ []) [] false
unfolding parser.after_number
parses-after-number at n =
    parses-or
    (parses-then (parses-symbol (codes ",")) (λ _.
    parses-then parses-upper (λ m.
    parses-then (parses-symbol (codes "}")) (λ _. parses-give _) refl) refl) refl)
    (parses-then (parses-symbol (codes "}")) (λ _. parses-give _) refl) refl

parses-after-brace : (at : ℕ) → Parses (factored.after_brace at) (parser.after_brace at) (word.comma ∷ ANumber ∷ []) [] false
unfolding parser.after_brace
parses-after-brace at =
    parses-or
    (parses-then (parses-symbol (codes ",")) (λ _.
    parses-then parses-number (λ m.
    parses-then (parses-symbol (codes "}")) (λ _. parses-give _) refl) refl) refl)
    (parses-then parses-number (parses-after-number at) refl) refl

parses-quant : Parses grammar.quant parser.quant quant_first [] false
unfolding parser.quant
parses-quant =
    parses-same same-quant
    (parses-or (parses-then (parses-symbol (codes "{")) (λ t. parses-after-brace t.from) refl)
    (parses-or (parses-then (parses-symbol (codes "*")) (λ t. parses-give _) refl)
    (parses-then (parses-symbol (codes "+")) (λ t. parses-give _) refl) refl) refl)

parses-quantifier : Parses (optional grammar.quant) parser.quantifier quant_first quant_first true
unfolding parser.quantifier
parses-quantifier = parses-or (parses-then parses-quant (λ q. parses-give (Some q)) refl) (parses-give None) refl

-- GROUPS

parses-link : (c : Chain) → Parses (grammar.link c) (parser.link c) edge_first [] false
unfolding parser.link
parses-link c = parses-then parses-edge (λ e. parses-then parses-node (λ f. parses-give _) refl) refl

parses-links : (c : Chain) → Parses (grammar.link c >>= repeat grammar.link) (parser.links c) edge_first edge_first false
parses-links c = parses-then (parses-link c) (λ c. parses-loop grammar.link parser.link edge_first [] parses-link refl c) refl

parses-chain : Parses grammar.chain parser.chain (word.opening ∷ []) edge_first false
unfolding parser.chain
parses-chain = parses-then parses-node (λ f. parses-links _) refl

parses-group-rest : Parses factored.group_rest parser.group_rest (word.opening ∷ []) quant_first false
unfolding parser.group_rest
parses-group-rest =
    parses-then parses-chain (λ c.
    parses-then parses-condition (λ w.
    parses-then (parses-symbol (codes ")")) (λ _.
    parses-then parses-quantifier (λ q. parses-give _) refl) refl) refl) refl

-- PARTS AND PATHS

parses-block : Parses grammar.block parser.block (word.opening ∷ []) quant_first false
unfolding parser.block
parses-block =
    parses-same same-block
    (parses-then (parses-symbol (codes "(")) (λ t.
    parses-or parses-group-rest (parses-then (parses-node-rest t.from) (λ f. parses-give _) refl) refl) refl)

-- behind an edge with its quantifier
abbrev block_behind : List Part → Part → Parser (List Part)
block_behind ps p = read.◌>>=◌ parser.block (λ b. pure (ps ++ p ∷ b ∷ []))

abbrev edge_then_block : List Part → Parser (List Part)
edge_then_block ps = read.◌>>=◌ parser.edge (λ e. read.◌>>=◌ parser.quantifier (λ q. block_behind ps (Edge e.0 e.1 q)))

edge-then-block : (ps : List Part) (l : Tokens) → parser.next_edge ps l ≡ edge_then_block ps l
unfolding parser.next_edge parser.quantified_edge
edge-then-block ps l = by (parser.edge l) where
  by : (o : Outcome (Arrow × Filler)) → and_then (and_then o (λ e. read.◌>>=◌ parser.quantifier (λ q. pure (Edge e.0 e.1 q)))) (block_behind ps)
      ≡ and_then o (λ e. read.◌>>=◌ parser.quantifier (λ q. block_behind ps (Edge e.0 e.1 q)))
  by (Err r) = refl
  by (Ok x) = regrouped (parser.quantifier x.1) (λ q. pure (Edge x.0.0 x.0.1 q)) (block_behind ps)

parses-next-block : (ps : List Part) → Parses (grammar.next_block ps) (parser.next_block ps) parts_on quant_first false
unfolding parser.next_block
parses-next-block ps =
    parses-sized parts_on quant_first
    (parses-or
    (parses-alike (edge-then-block ps) (parses-then parses-edge (λ e. parses-then parses-quantifier (λ q. parses-then parses-block (λ b. parses-give _) refl) refl) refl))
    (parses-then parses-block (λ b. parses-give _) refl) refl) refl refl

abbrev pub path_on : List Terminal
path_on = parts_on ++ quant_first

parses-parts : Parses grammar.parts parser.parts (word.opening ∷ []) path_on false
parses-parts =
    parses-sized (word.opening ∷ []) path_on
    (parses-then parses-block (λ b. parses-loop grammar.next_block parser.next_block parts_on quant_first parses-next-block refl (b ∷ [])) refl) refl refl

parses-selector : Parses (grammar.selector or give Every) parser.selector (word.any_word ∷ word.all_word ∷ []) (word.shortest ∷ word.any_word ∷ word.all_word ∷ []) true
unfolding parser.selector
parses-selector =
    parses-same same-selector
    (parses-sized (word.any_word ∷ word.all_word ∷ []) (word.shortest ∷ word.any_word ∷ word.all_word ∷ [])
    (parses-or
    (parses-then (parses-word (codes "ANY")) (λ _. parses-or (parses-then (parses-word (codes "SHORTEST")) (λ _. parses-give _) refl) (parses-give _) refl) refl)
    (parses-or
    (parses-then (parses-word (codes "ALL")) (λ _. parses-then (parses-word (codes "SHORTEST")) (λ _. parses-give _) refl) refl)
    (parses-give _) refl) refl) refl refl)

abbrev mode_first : List Terminal
mode_first = word.walk ∷ word.trail ∷ word.acyclic ∷ word.simple ∷ []

parses-mode : Parses (grammar.mode or give Walk) parser.mode mode_first mode_first true
unfolding parser.mode
parses-mode =
    parses-same same-mode
    (parses-sized mode_first mode_first
    (parses-or (parses-then (parses-word (codes "WALK")) (λ _. parses-give _) refl)
    (parses-or (parses-then (parses-word (codes "TRAIL")) (λ _. parses-give _) refl)
    (parses-or (parses-then (parses-word (codes "ACYCLIC")) (λ _. parses-give _) refl)
    (parses-or (parses-then (parses-word (codes "SIMPLE")) (λ _. parses-give _) refl)
    (parses-give _) refl) refl) refl) refl) refl refl)

parses-path-word : Parses grammar.path_word parser.path_word (word.path_word ∷ word.paths_word ∷ []) (word.path_word ∷ word.paths_word ∷ []) true
unfolding parser.path_word
parses-path-word =
    parses-sized (word.path_word ∷ word.paths_word ∷ []) (word.path_word ∷ word.paths_word ∷ [])
    (parses-or (parses-then (parses-word (codes "PATH")) (λ _. parses-give _) refl)
    (parses-or (parses-then (parses-word (codes "PATHS")) (λ _. parses-give _) refl)
    (parses-give _) refl) refl) refl refl

abbrev pub path_first : List Terminal
path_first = word.any_word ∷ word.all_word ∷ mode_first ++ word.path_word ∷ word.paths_word ∷ word.opening ∷ []

parses-path-at : (at : ℕ) → Parses (grammar.path_at at) (parser.path_at at) path_first path_on false
unfolding parser.path_at
parses-path-at at =
    parses-then parses-selector (λ s.
    parses-then parses-mode (λ m.
    parses-then parses-path-word (λ _.
    parses-then parses-parts (λ ps. parses-give _) refl) refl) refl) refl

pub parses-path : Parses grammar.path parser.path path_first path_on false
parses-path =
    parses-with-place
    (λ n m t u k. (record { selector = k.first; mode = k.goes_on.first; parts = k.goes_on.goes_on.goes_on.first; at = m }, again k (again k.goes_on (again k.goes_on.goes_on (again k.goes_on.goes_on.goes_on (refl, k.goes_on.goes_on.goes_on.goes_on.1))))))
    parses-path-at
