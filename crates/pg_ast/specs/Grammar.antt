-- Statements: which tree a list of tokens is, and where a list that is none is at fault.
pub mod Changes
pub mod Counting
pub mod Definitions
pub mod Exprs
pub mod Labels
pub mod Limits
pub mod Names
pub mod Parts
pub mod Patterns
pub mod Queries
pub mod Rule
use Rattle.std.specs.Prelude.{◌≡◌, ℕ, [], ◌∷◌, ◌++◌}
use Rattle.pg_lex.specs.declared.token.Token.{Token}
use Rattle.pg_ast.specs.declared.statement.Statement.{Statement}
use Rattle.pg_ast.specs.declared.statement.Statement.TheVariants.{Define, Insert, Update, Delete, Query, Begin, Commit, Rollback}
use Rattle.pg_ast.specs.Words.Terminals.{Tokens}
use Rattle.pg_ast.specs.Grammar.Rule.{Rule as RuleOf, ◌>>=◌, give, the, ◌or◌}
use Rattle.pg_ast.specs.Grammar.Parts.{skip}
use Rattle.pg_ast.specs.Grammar.Definitions.{create_table, create_graph}
use Rattle.pg_ast.specs.Grammar.Changes.{insert, update, delete}
use Rattle.pg_ast.specs.Grammar.Queries.{query}
use Rattle.pg_ast.specs.Words as keyword

-- BEGIN [ TRANSACTION ]
abbrev pub begin : RuleOf Statement
begin = do
  _ ← the keyword.begin
  _ ← skip keyword.transaction
  give Begin

-- START TRANSACTION
abbrev pub start : RuleOf Statement
start = do
  _ ← the keyword.start
  _ ← the keyword.transaction
  give Begin

-- COMMIT [ WORK ]
abbrev pub commit : RuleOf Statement
commit = do
  _ ← the keyword.commit
  _ ← skip keyword.work
  give Commit

-- ROLLBACK [ WORK ]
abbrev pub rollback : RuleOf Statement
rollback = do
  _ ← the keyword.rollback
  _ ← skip keyword.work
  give Rollback

-- a definition, a change, a query, or the begin or end of a transaction
abbrev pub body : RuleOf Statement
body =
    ((create_table or create_graph) >>= λ d. give (Define d))
    or (insert >>= λ i. give (Insert i))
    or (update >>= λ u. give (Update u))
    or (delete >>= λ d. give (Delete d))
    or (query >>= λ q. give (Query q))
    or begin
    or start
    or commit
    or rollback

-- body ';'
abbrev pub statement : RuleOf Statement
statement = do
  s ← body
  _ ← the keyword.semicolon
  give s

-- a statement, and the end of the tokens
unfoldable pub IsStatement : RuleOf Statement
IsStatement = do
  s ← statement
  _ ← the keyword.ending
  give s

-- some statement begins with these tokens
pub record BeginsStatement (tokens : Tokens) : Type 0 where
  pub more : Tokens
  pub tree : Statement
  pub is : IsStatement tree (tokens ++ more)

-- the first token that no statement continues
pub record FirstFault (tokens : Tokens) (at : ℕ) : Type 0 where
  pub front : Tokens
  pub token : Token
  pub back : Tokens
  pub parts : tokens ≡ front ++ token ∷ back
  pub place : at ≡ token.from
  pub before : BeginsStatement front
  pub with_it : BeginsStatement (front ++ token ∷ []) → ⊥
