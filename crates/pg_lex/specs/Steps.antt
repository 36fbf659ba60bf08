-- One token more, as the code reads them.
use Rattle.std.specs.Prelude.{ℕ, ◌≡◌, ◌+◌, ◌-◌, ◌<◌, ◌≤◌, Bool, true, false, List, length, drop}
use Rattle.pg_lex.specs.declared.token.Token.{Token}
use Rattle.pg_lex.specs.declared.token.TokenKind.{TokenKind}
use Rattle.pg_lex.specs.declared.token.TokenKind.TheVariants.{End, Bad}
use Rattle.pg_lex.specs.Tokens.{Begins, Ends}

abbrev pub is_last : TokenKind → Bool
is_last End = true
is_last Bad = true
is_last _ = false

abbrev pub last_at : TokenKind → ℕ → Token
last_at kind place = record { kind = kind; from = place; to = place }

-- that token is read from a place on; the text begins at `base`
pub record IsNext (base : ℕ) (text : List ℕ) (at : ℕ) (token : Token) : Type 0 where
  pub low : base + at ≤ token.to
  pub high : token.to ≤ base + length text
  pub last : is_last token.kind ≡ true → Ends (base + at) (drop at text) token
  pub more : is_last token.kind ≡ false → Begins (base + at) (drop at text) token (drop (token.to - base) text)
  pub grows : is_last token.kind ≡ false → base + at < token.to
