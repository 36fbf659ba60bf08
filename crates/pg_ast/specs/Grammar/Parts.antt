-- What may be left out, what may be repeated, and lists in parentheses.
use Rattle.std.specs.Prelude.{Option, Some, None, List, [], ◌∷◌, ◌++◌}
use Rattle.pg_ast.specs.Words.Terminals.{Terminal}
use Rattle.pg_ast.specs.Grammar.Rule.{Rule, ◌>>=◌, give, the, ◌or◌, repeat, separated}
pub use Rattle.pg_lex.specs.Texts.{kept}
use Rattle.pg_ast.specs.Words.Names as word

-- [ P ]
abbrev pub optional : {A : Type 0} → Rule A → Rule (Option A)
optional P = (P >>= λ x. give (Some x)) or give None

-- [ p ], of which nothing is kept
abbrev pub skip : Terminal → Rule (Unit {0})
skip p = (the p >>= λ _. give tt) or give tt

-- { P }, behind what was found before
abbrev pub more : {A : Type 0} → Rule A → List A → Rule (List A)
more P = repeat (λ xs. P >>= λ x. give (xs ++ x ∷ []))

-- { P }
abbrev pub many : {A : Type 0} → Rule A → Rule (List A)
many P = more P []

-- P { P }
abbrev pub several : {A : Type 0} → Rule A → Rule (List A)
several P = P >>= λ x. more P (x ∷ [])

-- '(' P { ',' P } ')'
abbrev pub listed : {A : Type 0} → Rule A → Rule (List A)
listed P = do
  _ ← the word.opening
  xs ← separated word.comma P
  _ ← the word.close
  give xs
