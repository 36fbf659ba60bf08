-- Queries (ISO/IEC 9075-16:2023): which tree a list of tokens is.
use Rattle.std.specs.Prelude.{◌≡◌, ℕ, false, List, [], ◌∷◌, ◌++◌, ◌+◌, ◌⊎◌, length}
use Rattle.pg_lex.specs.declared.token.Token.{Token}
use Rattle.pg_ast.specs.declared.counted.Scope.TheVariants.{Query as in_query}
use Rattle.pg_ast.specs.declared.expr.Name.{Name}
use Rattle.pg_ast.specs.declared.expr.Expr.TheVariants.{Property}
use Rattle.pg_ast.specs.declared.pattern.ColumnItem.{ColumnItem}
use Rattle.pg_ast.specs.declared.pattern.Query.{Query}
use Rattle.pg_ast.specs.Words.Terminals.{Tokens, AName, matches}
use Rattle.pg_ast.specs.Grammar.Rule.{Rule, ◌>>=◌, give, the, ◌or◌, separated}
use Rattle.pg_ast.specs.Grammar.Names.{name}
use Rattle.pg_ast.specs.Grammar.Exprs.{whole}
use Rattle.pg_ast.specs.Grammar.Patterns.{condition, path}
use Rattle.pg_ast.specs.Words.Patterns as word

-- expr AS name
abbrev pub named_column : Rule ColumnItem
named_column = do
  e ← whole in_query
  _ ← the word.as_word
  n ← name
  give (record { expr = e; name = n })

-- name '.' name
abbrev pub property_column : Rule ColumnItem
property_column = do
  v ← name
  _ ← the word.dot
  n ← name
  give (record { expr = record { expr = Property v n; at = v.at }; name = n })

-- column := name '.' name [ AS name ] | expr AS name, where with AS the first is a case of the second
abbrev pub column : Rule ColumnItem
column = named_column or property_column

-- SELECT '*' FROM GRAPH_TABLE
abbrev pub head : Rule (Unit {0})
head = do
  _ ← the word.select
  _ ← the word.star
  _ ← the word.from_word
  _ ← the word.graph_table
  give tt

-- COLUMNS '(' column { ',' column } ')'
abbrev pub column_list : Rule (List ColumnItem)
column_list = do
  _ ← the word.columns_word
  _ ← the word.opening
  cs ← separated word.comma column
  _ ← the word.close
  give cs

-- name MATCH path { ',' path } [ WHERE expr ] COLUMNS '(' column { ',' column } ')'
abbrev pub inside : Rule Query
inside = do
  g ← name
  _ ← the word.match_word
  ps ← separated word.comma path
  c ← condition
  cs ← column_list
  give (record { graph = g; paths = ps; cond = c; columns = cs })

-- SELECT '*' FROM GRAPH_TABLE '(' .. ')'
abbrev pub bare_query : Rule Query
bare_query = do
  _ ← head
  _ ← the word.opening
  q ← inside
  _ ← the word.close
  give q

-- [ AS ] name
abbrev pub alias : Rule Name
alias = (the word.as_word >>= λ _. name) or name

-- a query with its alias
abbrev pub named_query : Rule Query
named_query = do
  q ← bare_query
  _ ← alias
  give q

-- a query, of which the alias may be missing
abbrev pub query : Rule Query
query = named_query or bare_query

-- QUERIES WITHIN A LIST OF TOKENS

-- neither AS nor a name comes
abbrev pub NoAlias : Tokens → Type 0
NoAlias [] = Unit {0}
NoAlias (t ∷ ts) = (matches word.as_word t ≡ false) × (matches AName t ≡ false)

-- from token `first` to before token `after` stands that query, with its alias if there is one
pub record QueryAt (tokens : Tokens) (first : ℕ) (tree : Query) (after : ℕ) : Type 0 where
  pub front : Tokens
  pub middle : Tokens
  pub back : Tokens
  pub parts : tokens ≡ front ++ (middle ++ back)
  pub begins : length front ≡ first
  pub ends : first + length middle ≡ after
  pub is : named_query tree middle ⊎ (bare_query tree middle × NoAlias back)

-- some query begins with these tokens
pub record BeginsQuery (tokens : Tokens) : Type 0 where
  pub more : Tokens
  pub tree : Query
  pub is : query tree (tokens ++ more)

-- the first token, from token `first` on, that no query continues, begins at that byte
pub record FirstFault (tokens : Tokens) (first : ℕ) (at : ℕ) : Type 0 where
  pub front : Tokens
  pub middle : Tokens
  pub token : Token
  pub back : Tokens
  pub parts : tokens ≡ front ++ (middle ++ token ∷ back)
  pub begins : length front ≡ first
  pub place : at ≡ token.from
  pub before : BeginsQuery middle
  pub with_it : BeginsQuery (middle ++ token ∷ []) → ⊥
