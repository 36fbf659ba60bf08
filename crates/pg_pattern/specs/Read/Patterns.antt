-- Reading path patterns, in the order of the code.
use Rattle.std.specs.Prelude.{ℕ, Option, Some, None, List, [], ◌∷◌, ◌++◌}
use Rattle.pg_lex.specs.declared.token.Token.{Token}
use Rattle.pg_ast.specs.declared.expr.Whole.{Whole}
use Rattle.pg_ast.specs.declared.expr.Name.{Name}
use Rattle.pg_ast.specs.declared.counted.Scope.TheVariants.{Query as in_query}
use Rattle.pg_ast.specs.declared.chain.Chain.{Chain}
use Rattle.pg_ast.specs.declared.pattern.LabelExpr.{LabelExpr}
use Rattle.pg_ast.specs.declared.pattern.Filler.{Filler}
use Rattle.pg_ast.specs.declared.pattern.Arrow.{Arrow}
use Rattle.pg_ast.specs.declared.pattern.Arrow.TheVariants.{Right, Left, Either}
use Rattle.pg_ast.specs.declared.pattern.Quant.{Quant}
use Rattle.pg_ast.specs.declared.pattern.Part.{Part}
use Rattle.pg_ast.specs.declared.pattern.Part.TheVariants.{Node, Edge, Group}
use Rattle.pg_ast.specs.declared.pattern.Mode.{Mode}
use Rattle.pg_ast.specs.declared.pattern.Mode.TheVariants.{Walk, Trail, Acyclic, Simple}
use Rattle.pg_ast.specs.declared.pattern.Selector.{Selector}
use Rattle.pg_ast.specs.declared.pattern.Selector.TheVariants.{Every, Any, AnyShortest, AllShortest}
use Rattle.pg_ast.specs.declared.pattern.PathPattern.{PathPattern}
use Rattle.pg_ast.specs.Words.Terminals.{Terminal, AName, ANumber, text_of, place_of}
use Rattle.pg_ast.specs.Grammar.Patterns.{bare}
use Rattle.pg_ast.specs.Grammar.Parts.{kept}
use Rattle.pg_grammar.specs.Kit.Reading.{Parser, ◌>>=◌, pure, eat, choose, choose_if, optional, loop}
use Rattle.pg_grammar.specs.Kit.Sets.{any}
use Rattle.pg_grammar.specs.Read.{name}
use Rattle.pg_grammar.specs.Read.Labels.{labels}
use Rattle.pg_grammar.specs.Read.Exprs.{whole}
use Rattle.pg_ast.specs.Words.Patterns as word

-- NODES AND EDGES

unfoldable pub variable : Parser (Option Name)
variable = optional AName name

abbrev pub label_first : List Terminal
label_first = word.is_word ∷ word.colon ∷ []

unfoldable pub label_sign : Parser Token
label_sign = choose word.is_word (eat word.is_word) (eat word.colon)

unfoldable pub label : Parser (Option LabelExpr)
label = choose_if (any label_first) ((label_sign >>= λ _. labels) >>= λ l. pure (Some l)) (pure None)

unfoldable pub condition : Parser (Option Whole)
condition = optional word.where_word (eat word.where_word >>= λ _. whole in_query)

unfoldable pub filler : ℕ → Parser Filler
filler at = do
  v ← variable
  l ← label
  c ← condition
  pure (record { var = v; label = l; cond = c; at = at })

-- behind a node's '('
unfoldable pub node_rest : ℕ → Parser Filler
node_rest at = do
  f ← filler at
  _ ← eat word.close
  pure f

unfoldable pub node : Parser Filler
node = eat word.opening >>= λ t. node_rest t.from

unfoldable pub bracket : ℕ → Parser Filler
bracket at = do
  _ ← eat word.left_bracket
  f ← filler at
  _ ← eat word.right_bracket
  pure f

-- behind '-' '[' filler ']' '-'
unfoldable pub ended : Filler → Parser (Arrow × Filler)
ended f = choose word.greater (eat word.greater >>= λ _. pure (Right, f)) (pure (Either, f))

unfoldable pub bracketed : ℕ → Parser (Arrow × Filler)
bracketed at = do
  f ← bracket at
  _ ← eat word.minus
  ended f

-- behind '-'
unfoldable pub after_minus : ℕ → Parser (Arrow × Filler)
after_minus at = choose word.left_bracket (bracketed at) (ended (bare at))

-- behind '<' '-'
unfoldable pub pointed_left : ℕ → Parser (Arrow × Filler)
pointed_left at =
    choose word.left_bracket
    (do
      f ← bracket at
      _ ← eat word.minus
      pure (Left, f))
    (pure (Left, bare at))

unfoldable pub edge : Parser (Arrow × Filler)
edge =
    choose word.minus
    (eat word.minus >>= λ t. after_minus t.from)
    (do
      t ← eat word.less
      _ ← eat word.minus
      pointed_left t.from)

-- QUANTIFIERS

unfoldable pub number : Parser ℕ
number = eat ANumber >>= λ t. pure (kept (text_of t))

unfoldable pub upper : Parser (Option ℕ)
upper = optional ANumber number

-- behind '{' number
unfoldable pub after_number : ℕ → ℕ → Parser Quant
after_number at n =
    choose word.comma
    (do
      _ ← eat word.comma
      m ← upper
      _ ← eat word.right_brace
      pure (record { low = n; high = m; at = at }))
    (eat word.right_brace >>= λ _. pure (record { low = n; high = Some n; at = at }))

-- behind '{'
unfoldable pub after_brace : ℕ → Parser Quant
after_brace at =
    choose word.comma
    (do
      _ ← eat word.comma
      m ← number
      _ ← eat word.right_brace
      pure (record { low = 0; high = Some m; at = at }))
    (number >>= after_number at)

unfoldable pub quant : Parser Quant
quant =
    choose word.left_brace (eat word.left_brace >>= λ t. after_brace t.from)
    (choose word.star (eat word.star >>= λ t. pure (record { low = 0; high = None; at = t.from }))
    (eat word.plus >>= λ t. pure (record { low = 1; high = None; at = t.from })))

abbrev pub quant_first : List Terminal
quant_first = word.left_brace ∷ word.star ∷ word.plus ∷ []

unfoldable pub quantifier : Parser (Option Quant)
quantifier = choose_if (any quant_first) (quant >>= λ q. pure (Some q)) (pure None)

-- GROUPS

abbrev pub linked : Chain → Arrow → Filler → Filler → Chain
linked c arrow edge node = record { nodes = c.nodes ++ node ∷ []; arrows = c.arrows ++ arrow ∷ []; edges = c.edges ++ edge ∷ [] }

unfoldable pub link : Chain → Parser Chain
link c = do
  e ← edge
  f ← node
  pure (linked c e.0 e.1 f)

abbrev pub edge_first : List Terminal
edge_first = word.minus ∷ word.less ∷ []

abbrev pub links : Chain → Parser Chain
links c = link c >>= loop (λ _. any edge_first) link

abbrev pub first_of : Filler → Chain
first_of node = record { nodes = node ∷ []; arrows = []; edges = [] }

unfoldable pub chain : Parser Chain
chain = node >>= λ f. links (first_of f)

abbrev pub group_of : Chain → Option Whole → Option Quant → Part
group_of c w q = Group c.nodes c.arrows c.edges w q

-- behind a group's '('
unfoldable pub group_rest : Parser Part
group_rest = do
  c ← chain
  w ← condition
  _ ← eat word.close
  q ← quantifier
  pure (group_of c w q)

-- PARTS AND PATHS

unfoldable pub block : Parser Part
block = do
  t ← eat word.opening
  choose word.opening group_rest (node_rest t.from >>= λ f. pure (Node f))

unfoldable pub quantified_edge : Parser Part
quantified_edge = do
  e ← edge
  q ← quantifier
  pure (Edge e.0 e.1 q)

unfoldable pub next_edge : List Part → Parser (List Part)
next_edge ps = do
  e ← quantified_edge
  b ← block
  pure (ps ++ e ∷ b ∷ [])

unfoldable pub next_block : List Part → Parser (List Part)
next_block ps = choose_if (any edge_first) (next_edge ps) (block >>= λ b. pure (ps ++ b ∷ []))

abbrev pub parts_on : List Terminal
parts_on = word.minus ∷ word.less ∷ word.opening ∷ []

abbrev pub parts : Parser (List Part)
parts = block >>= λ b. loop (λ _. any parts_on) next_block (b ∷ [])

unfoldable pub selector : Parser Selector
selector =
    choose word.any_word
    (do
      _ ← eat word.any_word
      choose word.shortest (eat word.shortest >>= λ _. pure AnyShortest) (pure Any))
    (choose word.all_word
    (do
      _ ← eat word.all_word
      _ ← eat word.shortest
      pure AllShortest)
    (pure Every))

unfoldable pub mode : Parser Mode
mode =
    choose word.walk (eat word.walk >>= λ _. pure Walk)
    (choose word.trail (eat word.trail >>= λ _. pure Trail)
    (choose word.acyclic (eat word.acyclic >>= λ _. pure Acyclic)
    (choose word.simple (eat word.simple >>= λ _. pure Simple)
    (pure Walk))))

unfoldable pub path_word : Parser (Unit {0})
path_word =
    choose word.path_word (eat word.path_word >>= λ _. pure tt)
    (choose word.paths_word (eat word.paths_word >>= λ _. pure tt)
    (pure tt))

unfoldable pub path_at : ℕ → Parser PathPattern
path_at at = do
  s ← selector
  m ← mode
  _ ← path_word
  ps ← parts
  pure (record { selector = s; mode = m; parts = ps; at = at })

abbrev pub path : Parser PathPattern
path ts = path_at (place_of ts) ts
