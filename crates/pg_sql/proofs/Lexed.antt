-- The tokens of a text are a list that ends: its last token, and no other, is End or Bad.
use Rattle.std.specs.Prelude.{◌≡◌, ℕ, ◌+◌, ◌<◌, true, false, List, [], ◌∷◌, length}
use Rattle.std.proofs.Common.{refl, ap, inl, inr, arith}
use Rattle.pg_lex.specs.declared.token.Token.{Token}
use Rattle.pg_lex.specs.declared.token.TokenKind.{TokenKind}
use Rattle.pg_lex.specs.declared.token.TokenKind.TheVariants.{End, Bad}
use Rattle.pg_lex.specs.Tokens as lexed
use Rattle.pg_ast.specs.Words.Terminals.{is_ordinary, IsEnded}

last-kind : (k : TokenKind) (at : ℕ) (rest : List ℕ) (place : ℕ) → lexed.IsLast k at rest place → is_ordinary k ≡ false
last-kind End at rest place h = refl
last-kind Bad at rest place h = refl
last-kind _ at rest place h = absurd h

other-kind : (k : TokenKind) (bytes : List ℕ) → lexed.Spells k bytes → is_ordinary k ≡ true
other-kind End bytes h = absurd h
other-kind Bad bytes h = absurd h
other-kind _ bytes h = refl

pub lexed_ended : (at : ℕ) (text : List ℕ) (tokens : List Token) → lexed.Tokens at text tokens → IsEnded tokens
lexed_ended at text [] h = absurd h
lexed_ended at text (t ∷ ts) (inl h) = record {
  front = [];
  last = t;
  parts = ap (λ (l : List Token). t ∷ l) h.1;
  ends = last-kind t.kind (at + length h.0.before) h.0.rest t.from h.0.from;
  inner = tt;
}
lexed_ended at text (t ∷ ts) (inr h) =
    let k = lexed_ended t.to h.0 ts h.2 in
    record {
      front = t ∷ k.front;
      last = k.last;
      parts = ap (λ (l : List Token). t ∷ l) k.parts;
      ends = k.ends;
      inner = (other-kind t.kind h.1.used h.1.stands.spells, k.inner);
    }

-- there is a first token
pub lexed_some : (at : ℕ) (text : List ℕ) (tokens : List Token) → lexed.Tokens at text tokens → 0 < length tokens
lexed_some at text [] h = absurd h
lexed_some at text (t ∷ ts) h = omega arith
