-- Reading statements, in the order of the code.
pub mod Changes
pub mod Graphs
pub mod Parts
pub mod Tables
use Rattle.pg_ast.specs.declared.define.Define.{Define}
use Rattle.pg_ast.specs.declared.statement.Statement.{Statement}
use Rattle.pg_ast.specs.declared.statement.Statement.TheVariants as tree
use Rattle.pg_grammar.specs.Kit.Reading.{Parser, ◌>>=◌, pure, eat, choose}
use Rattle.pg_pattern.specs.Read.{query}
use Rattle.pg_sql.specs.Read.Parts.{skip}
use Rattle.pg_sql.specs.Read.Tables.{table}
use Rattle.pg_sql.specs.Read.Graphs.{graph}
use Rattle.pg_sql.specs.Read.Changes.{insert, update, delete}
use Rattle.pg_ast.specs.Words as keyword

unfoldable pub define : Parser Define
define = do
  t ← eat keyword.create
  choose keyword.table (table t) (graph t)

unfoldable pub begin : Parser Statement
begin = do
  _ ← eat keyword.begin
  _ ← skip keyword.transaction
  pure tree.Begin

unfoldable pub start : Parser Statement
start = do
  _ ← eat keyword.start
  _ ← eat keyword.transaction
  pure tree.Begin

unfoldable pub commit : Parser Statement
commit = do
  _ ← eat keyword.commit
  _ ← skip keyword.work
  pure tree.Commit

unfoldable pub rollback : Parser Statement
rollback = do
  _ ← eat keyword.rollback
  _ ← skip keyword.work
  pure tree.Rollback

unfoldable pub transaction : Parser Statement
transaction =
    choose keyword.begin begin
    (choose keyword.start start
    (choose keyword.commit commit rollback))

unfoldable pub body : Parser Statement
body =
    choose keyword.create (define >>= λ d. pure (tree.Define d))
    (choose keyword.insert (insert >>= λ i. pure (tree.Insert i))
    (choose keyword.update (update >>= λ u. pure (tree.Update u))
    (choose keyword.delete (delete >>= λ d. pure (tree.Delete d))
    (choose keyword.select (query >>= λ q. pure (tree.Query q)) transaction))))

unfoldable pub statement : Parser Statement
statement = do
  s ← body
  _ ← eat keyword.semicolon
  pure s

-- what was read, with the end behind it
abbrev pub ended : {A : Type 0} → A → Parser A
ended x = eat keyword.ending >>= λ _. pure x

unfoldable pub whole_statement : Parser Statement
whole_statement = statement >>= ended
