-- What the bytes of a statement of a script are: its tokens, and by them the statement or the first token that none continues.
use Rattle.std.specs.Prelude.{ℕ, ◌≡◌, ◌-◌, List, [], ◌∷◌}
use Rattle.pg_lex.specs.declared.token.Token.{Token}
use Rattle.pg_lex.specs.Tokens.{Tokens}
use Rattle.pg_ast.specs.Grammar.{IsStatement, FirstFault}
use Rattle.pg_sql.specs.declared.parsed.Parsed.{Parsed}
use Rattle.pg_sql.specs.declared.parsed.Parsed.TheVariants.{Statement, Fault}
use Rattle.pg_lex.specs.Parts.{part_of}

-- the place of the first token
abbrev pub first_place : List Token → ℕ
first_place [] = 0
first_place (t ∷ ts) = t.from

abbrev pub IsParsed : List Token → Parsed → Type 0
IsParsed tokens (Statement tree at) = IsStatement tree tokens × (at ≡ first_place tokens)
IsParsed tokens (Fault at) = FirstFault tokens at

-- of the tokens of a part of the text
abbrev pub IsParsedOf : List ℕ → ℕ → ℕ → Parsed → Type 0
IsParsedOf text from to parsed = (tokens : List Token) × Tokens from (part_of text from to) tokens × IsParsed tokens parsed
