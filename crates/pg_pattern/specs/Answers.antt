-- Answers of reading a query within a list of tokens.
use Rattle.std.specs.Prelude.{ℕ, ◌≡◌, Result, Ok, Err}
use Rattle.pg_ast.specs.Words.Terminals.{Tokens}
use Rattle.pg_ast.specs.declared.pattern.Query.{Query}
use Rattle.pg_ast.specs.Grammar.Queries.{FirstFault}
use Rattle.pg_pattern.specs.declared.fault.ParseFault.{ParseFault}
use Rattle.pg_pattern.specs.declared.fault.ParseFault.TheVariants.{Syntax, Memory}

-- the fault of the tokens from token `first` on
abbrev pub IsFault : Tokens → ℕ → ParseFault → Type 0
IsFault tokens first (Syntax at) = FirstFault tokens first at
IsFault tokens first Memory = Unit {0}

-- the answer is that tree and that place, unless memory ran out
abbrev pub AnswersOnly : Query → ℕ → Result (Query × ℕ) ParseFault → Type 0
AnswersOnly q after (Ok x) = x ≡ (q, after)
AnswersOnly q after (Err e) = e ≡ Memory
