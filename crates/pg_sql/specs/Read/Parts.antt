-- Reading a word that may be left out, and what may be repeated.
use Rattle.std.specs.Prelude.{Bool, List, [], ◌∷◌, ◌++◌}
use Rattle.pg_lex.specs.declared.token.Token.{Token}
use Rattle.pg_ast.specs.Words.Terminals.{Terminal}
use Rattle.pg_grammar.specs.Kit.Reading.{Parser, ◌>>=◌, pure, eat, choose, loop}

unfoldable pub skip : Terminal → Parser (Unit {0})
skip p = choose p (eat p >>= λ _. pure tt) (pure tt)

abbrev pub next : {A : Type 0} → Parser A → List A → Parser (List A)
next p found = p >>= λ x. pure (found ++ x ∷ [])

-- { P }, where P begins with a token that passes the test
abbrev pub more : {A : Type 0} → (Token → Bool) → Parser A → List A → Parser (List A)
more begins p = loop (λ _. begins) (next p)

abbrev pub several : {A : Type 0} → (Token → Bool) → Parser A → Parser (List A)
several begins p = p >>= λ x. more begins p (x ∷ [])
