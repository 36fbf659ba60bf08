-- What the answer of parse_statement means.
use Rattle.std.specs.Prelude.{◌≡◌, Result, Ok, Err}
use Rattle.pg_ast.specs.declared.statement.Statement.{Statement}
use Rattle.pg_ast.specs.Words.Terminals.{Tokens}
use Rattle.pg_ast.specs.Grammar.{IsStatement, FirstFault}
use Rattle.pg_pattern.specs.declared.fault.ParseFault.{ParseFault}
use Rattle.pg_pattern.specs.declared.fault.ParseFault.TheVariants.{Syntax, Memory}

-- what a fault says of the tokens
abbrev pub IsFault : Tokens → ParseFault → Type 0
IsFault tokens (Syntax at) = FirstFault tokens at
IsFault tokens Memory = Unit {0}

-- the answer is that tree, unless memory ran out
abbrev pub AnswersOnly : Statement → Result Statement ParseFault → Type 0
AnswersOnly t (Ok s) = s ≡ t
AnswersOnly t (Err e) = e ≡ Memory

-- a token list has at most one tree
abbrev pub OneTree : Type 0
OneTree = (s t : Statement) (tokens : Tokens) → IsStatement s tokens → IsStatement t tokens → s ≡ t
