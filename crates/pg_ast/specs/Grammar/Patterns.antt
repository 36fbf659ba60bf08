-- Path patterns (ISO/IEC 9075-16:2023): which tree a list of tokens is.
use Rattle.std.specs.Prelude.{ℕ, Option, Some, None, List, [], ◌∷◌, ◌++◌}
use Rattle.pg_ast.specs.declared.expr.Whole.{Whole}
use Rattle.pg_ast.specs.declared.counted.Scope.TheVariants.{Query as in_query}
use Rattle.pg_ast.specs.declared.chain.Chain.{Chain}
use Rattle.pg_ast.specs.declared.pattern.LabelExpr.{LabelExpr}
use Rattle.pg_ast.specs.declared.pattern.Filler.{Filler}
use Rattle.pg_ast.specs.declared.pattern.Arrow.{Arrow}
use Rattle.pg_ast.specs.declared.pattern.Arrow.TheVariants.{Right, Left, Either}
use Rattle.pg_ast.specs.declared.pattern.Quant.{Quant}
use Rattle.pg_ast.specs.declared.pattern.Part.{Part}
use Rattle.pg_ast.specs.declared.pattern.Part.TheVariants.{Node, Edge, Group}
use Rattle.pg_ast.specs.declared.pattern.Mode.{Mode}
use Rattle.pg_ast.specs.declared.pattern.Mode.TheVariants.{Walk, Trail, Acyclic, Simple}
use Rattle.pg_ast.specs.declared.pattern.Selector.{Selector}
use Rattle.pg_ast.specs.declared.pattern.Selector.TheVariants.{Every, Any, AnyShortest, AllShortest}
use Rattle.pg_ast.specs.declared.pattern.PathPattern.{PathPattern}
use Rattle.pg_ast.specs.Words.Terminals.{ANumber, text_of, place_of}
use Rattle.pg_ast.specs.Grammar.Rule.{Rule, ◌>>=◌, give, the, ◌or◌, repeat}
use Rattle.pg_ast.specs.Grammar.Names.{name}
use Rattle.pg_ast.specs.Grammar.Labels.{labels}
use Rattle.pg_ast.specs.Grammar.Exprs.{whole}
use Rattle.pg_ast.specs.Grammar.Parts.{kept, optional}
use Rattle.pg_ast.specs.Words.Patterns as word

-- [ WHERE expr ]
abbrev pub condition : Rule (Option Whole)
condition = optional (the word.where_word >>= λ _. whole in_query)

-- [ ( IS | ':' ) lor ]
abbrev pub label : Rule (Option LabelExpr)
label = optional ((the word.is_word or the word.colon) >>= λ _. labels)

-- filler := [ name ] [ ( IS | ':' ) lor ] [ WHERE expr ], of a node or an edge that begins at that place
abbrev pub filler : ℕ → Rule Filler
filler at = do
  v ← optional name
  l ← label
  c ← condition
  give (record { var = v; label = l; cond = c; at = at })

-- node := '(' filler ')'
abbrev pub node : Rule Filler
node = do
  t ← the word.opening
  f ← filler t.from
  _ ← the word.close
  give f

-- '[' filler ']', in an edge that begins at that place
abbrev pub bracket : ℕ → Rule Filler
bracket at = do
  _ ← the word.left_bracket
  f ← filler at
  _ ← the word.right_bracket
  give f

-- an edge without brackets asks for nothing
abbrev pub bare : ℕ → Filler
bare at = record { var = None; label = None; cond = None; at = at }

-- '-' '[' filler ']' '-' '>'
abbrev pub right_bracketed : Rule (Arrow × Filler)
right_bracketed = do
  t ← the word.minus
  f ← bracket t.from
  _ ← the word.minus
  _ ← the word.greater
  give (Right, f)

-- '<' '-' '[' filler ']' '-'
abbrev pub left_bracketed : Rule (Arrow × Filler)
left_bracketed = do
  t ← the word.less
  _ ← the word.minus
  f ← bracket t.from
  _ ← the word.minus
  give (Left, f)

-- '-' '[' filler ']' '-'
abbrev pub either_bracketed : Rule (Arrow × Filler)
either_bracketed = do
  t ← the word.minus
  f ← bracket t.from
  _ ← the word.minus
  give (Either, f)

-- '-' '>'
abbrev pub right_bare : Rule (Arrow × Filler)
right_bare = do
  t ← the word.minus
  _ ← the word.greater
  give (Right, bare t.from)

-- '<' '-'
abbrev pub left_bare : Rule (Arrow × Filler)
left_bare = do
  t ← the word.less
  _ ← the word.minus
  give (Left, bare t.from)

-- '-'
abbrev pub either_bare : Rule (Arrow × Filler)
either_bare = do
  t ← the word.minus
  give (Either, bare t.from)

-- an edge in any of its forms
abbrev pub edge : Rule (Arrow × Filler)
edge = right_bracketed or left_bracketed or either_bracketed or right_bare or left_bare or either_bare

-- a number of a quantifier
abbrev pub number : Rule ℕ
number = do
  t ← the ANumber
  give (kept (text_of t))

-- '{' number '}'
abbrev pub exactly : Rule Quant
exactly = do
  t ← the word.left_brace
  n ← number
  _ ← the word.right_brace
  give (record { low = n; high = Some n; at = t.from })

-- '{' number ',' [ number ] '}'
abbrev pub at_least : Rule Quant
at_least = do
  t ← the word.left_brace
  n ← number
  _ ← the word.comma
  m ← optional number
  _ ← the word.right_brace
  give (record { low = n; high = m; at = t.from })

-- '{' ',' number '}'
abbrev pub at_most : Rule Quant
at_most = do
  t ← the word.left_brace
  _ ← the word.comma
  m ← number
  _ ← the word.right_brace
  give (record { low = 0; high = Some m; at = t.from })

-- quant := '{' number '}' | '{' number ',' [ number ] '}' | '{' ',' number '}' | '*' | '+'
abbrev pub quant : Rule Quant
quant =
    exactly
    or at_least
    or at_most
    or (the word.star >>= λ t. give (record { low = 0; high = None; at = t.from }))
    or (the word.plus >>= λ t. give (record { low = 1; high = None; at = t.from }))

-- edge node
abbrev pub link : Chain → Rule Chain
link c = do
  e ← edge
  f ← node
  give (record { nodes = c.nodes ++ f ∷ []; arrows = c.arrows ++ e.0 ∷ []; edges = c.edges ++ e.1 ∷ [] })

-- node edge node { edge node }
abbrev pub chain : Rule Chain
chain = do
  f ← node
  c ← link (record { nodes = f ∷ []; arrows = []; edges = [] })
  repeat link c

-- '(' node edge node { edge node } [ WHERE expr ] ')' [ quant ]
abbrev pub group : Rule Part
group = do
  _ ← the word.opening
  c ← chain
  w ← condition
  _ ← the word.close
  q ← optional quant
  give (Group c.nodes c.arrows c.edges w q)

-- block := node | group [ quant ]
abbrev pub block : Rule Part
block = (node >>= λ f. give (Node f)) or group

-- [ edge [ quant ] ] block
abbrev pub next_block : List Part → Rule (List Part)
next_block ps =
    (do
      e ← edge
      q ← optional quant
      b ← block
      give (ps ++ Edge e.0 e.1 q ∷ b ∷ []))
    or (block >>= λ b. give (ps ++ b ∷ []))

-- block { [ edge [ quant ] ] block }
abbrev pub parts : Rule (List Part)
parts = block >>= λ b. repeat next_block (b ∷ [])

-- selector := ANY [ SHORTEST ] | ALL SHORTEST
abbrev pub selector : Rule Selector
selector =
    (do
      _ ← the word.any_word
      _ ← the word.shortest
      give AnyShortest)
    or (the word.any_word >>= λ _. give Any)
    or (do
      _ ← the word.all_word
      _ ← the word.shortest
      give AllShortest)

-- mode := WALK | TRAIL | ACYCLIC | SIMPLE
abbrev pub mode : Rule Mode
mode =
    (the word.walk >>= λ _. give Walk)
    or (the word.trail >>= λ _. give Trail)
    or (the word.acyclic >>= λ _. give Acyclic)
    or (the word.simple >>= λ _. give Simple)

-- [ PATH | PATHS ], of which nothing is kept
abbrev pub path_word : Rule (Unit {0})
path_word =
    (the word.path_word >>= λ _. give tt)
    or (the word.paths_word >>= λ _. give tt)
    or give tt

-- [ selector ] [ mode ] [ PATH | PATHS ] block { [ edge [ quant ] ] block }, at that place
abbrev pub path_at : ℕ → Rule PathPattern
path_at at = do
  s ← selector or give Every
  m ← mode or give Walk
  _ ← path_word
  ps ← parts
  give (record { selector = s; mode = m; parts = ps; at = at })

-- a path pattern, with the place of its first token
abbrev pub path : Rule PathPattern
path p ts = path_at (place_of ts) p ts
