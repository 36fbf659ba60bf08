-- What the grammar gives of the trees of statements: the bits of literals, the shape of groups, where aggregates and variables stand, and
-- that a key has a column. What is proved of accepted statements rests on it, and each statement that is read has it.
use Rattle.std.specs.Prelude.{◌≡◌, ◌≤◌, ◌+◌, ◌++◌, length, option_to_list}
use Rattle.pg_keyed.specs.Lists.{Each}
use Rattle.pg_ast.specs.declared.pattern.Part.{Part}
use Rattle.pg_ast.specs.declared.pattern.Part.TheVariants as parts
use Rattle.pg_ast.specs.declared.pattern.Query.{Query}
use Rattle.pg_ast.specs.declared.define.Define.{Define}
use Rattle.pg_ast.specs.declared.define.Define.TheVariants as definitions
use Rattle.pg_ast.specs.declared.statement.Statement.{Statement}
use Rattle.pg_ast.specs.declared.statement.Statement.TheVariants as statements
use Rattle.pg_ast.specs.Words.Terminals.{Tokens}
use Rattle.pg_ast.specs.Grammar.{IsStatement}
use Rattle.pg_ast.specs.Grammar.Queries.{query}
use Rattle.pg_ast.specs.Trees.{ExprTree, tree_of, Literal, Wide, ColumnOf, PropertyOf, One, Two, Group, Counted}
use Rattle.pg_meaning.specs.Sound.Kinds.{literal_width}
use Rattle.pg_rules.specs.Changes.{Change, OfInsert, OfUpdate, OfDelete}
use Rattle.pg_rules.specs.Queries.Collections.{parts_of, inner, outer}

-- EXPRESSIONS

-- a literal's bits are its number's binary digits
abbrev pub HasBits : ExprTree → Type 0
HasBits (Literal v bits at) = bits ≡ literal_width v
HasBits (Wide at) = Unit {0}
HasBits (ColumnOf n) = Unit {0}
HasBits (PropertyOf v n) = Unit {0}
HasBits (One op x at) = HasBits x
HasBits (Two op x y at) = HasBits x × HasBits y
HasBits (Group agg x at) = HasBits x
HasBits (Counted v at) = Unit {0}

-- in a change no variable and no aggregate stands
abbrev pub HasNoVariable : ExprTree → Type 0
HasNoVariable (Literal v bits at) = Unit {0}
HasNoVariable (Wide at) = Unit {0}
HasNoVariable (ColumnOf n) = Unit {0}
HasNoVariable (PropertyOf v n) = ⊥
HasNoVariable (One op x at) = HasNoVariable x
HasNoVariable (Two op x y at) = HasNoVariable x × HasNoVariable y
HasNoVariable (Group agg x at) = ⊥
HasNoVariable (Counted v at) = ⊥

-- in INSERT no column stands
abbrev pub HasNoColumn : ExprTree → Type 0
HasNoColumn (Literal v bits at) = Unit {0}
HasNoColumn (Wide at) = Unit {0}
HasNoColumn (ColumnOf n) = ⊥
HasNoColumn (PropertyOf v n) = Unit {0}
HasNoColumn (One op x at) = HasNoColumn x
HasNoColumn (Two op x y at) = HasNoColumn x × HasNoColumn y
HasNoColumn (Group agg x at) = HasNoColumn x
HasNoColumn (Counted v at) = Unit {0}

-- QUERIES

-- a group has an arrow for each edge, an edge at least, and one more node
abbrev pub IsWrittenPart : Part → Type 0
IsWrittenPart (parts.Node f) = Unit {0}
IsWrittenPart (parts.Edge arrow f quant) = Unit {0}
IsWrittenPart (parts.Group nodes arrows edges condition quant) = (length nodes ≡ length edges + 1) × (length arrows ≡ length edges) × (1 ≤ length edges)

pub record IsWrittenQuery (q : Query) : Type 0 where
  pub groups : Each IsWrittenPart (parts_of q)
  pub literals : Each HasBits (inner q ++ outer q)

-- CHANGES

abbrev pub IsChangeTree : ExprTree → Type 0
IsChangeTree t = HasBits t × HasNoVariable t

abbrev pub IsInsertTree : ExprTree → Type 0
IsInsertTree t = HasBits t × HasNoVariable t × HasNoColumn t

abbrev pub IsWrittenChange : Change → Type 0
IsWrittenChange (OfInsert i) = Each (λ t. Each (λ w. IsInsertTree (tree_of w.expr)) t.values) i.tuples
IsWrittenChange (OfUpdate u) = Each (λ s. IsChangeTree (tree_of s.value.expr)) u.sets × Each (λ w. IsChangeTree (tree_of w.expr)) (option_to_list u.cond)
IsWrittenChange (OfDelete x) = Each (λ w. IsChangeTree (tree_of w.expr)) (option_to_list x.cond)

-- DEFINITIONS

-- a PRIMARY KEY clause names a column at least
abbrev pub IsWrittenDefinition : Define → Type 0
IsWrittenDefinition (definitions.Table t) = Each (λ key. 1 ≤ length key) t.keys
IsWrittenDefinition (definitions.Graph g) = Unit {0}

-- STATEMENTS

abbrev pub IsWritten : Statement → Type 0
IsWritten (statements.Query q) = IsWrittenQuery q
IsWritten (statements.Insert i) = IsWrittenChange (OfInsert i)
IsWritten (statements.Update u) = IsWrittenChange (OfUpdate u)
IsWritten (statements.Delete x) = IsWrittenChange (OfDelete x)
IsWritten (statements.Define x) = IsWrittenDefinition x
IsWritten statements.Begin = Unit {0}
IsWritten statements.Commit = Unit {0}
IsWritten statements.Rollback = Unit {0}

-- THE LAWS

-- each statement that tokens are
abbrev pub StatementsAreWritten : Type 0
StatementsAreWritten = (s : Statement) (tokens : Tokens) → IsStatement s tokens → IsWritten s

-- and each query, where it is read alone
abbrev pub QueriesAreWritten : Type 0
QueriesAreWritten = (q : Query) (tokens : Tokens) → query q tokens → IsWrittenQuery q
