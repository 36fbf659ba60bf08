-- What a token says: its text, and the number that its digits write.
use Rattle.std.specs.Prelude.{ℕ, ◌+◌, ◌*◌, ◌-◌, min, List, [], ◌∷◌}
use Rattle.pg_lex.specs.declared.token.Token.{Token}
use Rattle.pg_lex.specs.declared.token.TokenKind.{TokenKind}
use Rattle.pg_lex.specs.declared.token.TokenKind.TheVariants.{Word, Quoted, Number, Literal, Symbol}

-- the text of a token
abbrev pub text_of_kind : TokenKind → List ℕ
text_of_kind (Word w) = w
text_of_kind (Quoted w) = w
text_of_kind (Number w) = w
text_of_kind (Literal w) = w
text_of_kind (Symbol w) = w
text_of_kind _ = []

abbrev pub text_of : Token → List ℕ
text_of t = text_of_kind t.kind

-- the number that these decimal digits write behind those of n
abbrev pub number_after : ℕ → List ℕ → ℕ
number_after n [] = n
number_after n (d ∷ ds) = number_after (10 * n + (d - 48)) ds

-- the number that decimal digits write, which is kept as 2 ^ 32 - 1 where it is greater
abbrev pub kept : List ℕ → ℕ
kept digits = min (number_after 0 digits) 4294967295
