-- Rules of a grammar: which trees a list of tokens is.
use Rattle.std.specs.Prelude.{◌≡◌, ℕ, zero, suc, Bool, true, List, [], ◌∷◌, ◌++◌, ◌⊎◌}
use Rattle.pg_lex.specs.declared.token.Token.{Token}
use Rattle.pg_ast.specs.Words.Terminals.{Terminal, matches, Tokens, place_of}

abbrev pub Rule : Type 0 → Type 1
Rule T = T → Tokens → Type 0

-- one after the other
pub record Then {A B : Type 0} (P : Rule A) (Q : A → Rule B) (y : B) (ts : Tokens) : Type 0 where
  pub first : A
  pub front : Tokens
  pub back : Tokens
  pub parts : ts ≡ front ++ back
  pub begins : P first front
  pub goes_on : Q first y back

infixl 10 ◌>>=◌
abbrev pub ◌>>=◌ : {A B : Type 0} → Rule A → (A → Rule B) → Rule B
P >>= Q = Then P Q

-- no token
abbrev pub give : {A : Type 0} → A → Rule A
give x y ts = (y ≡ x) × (ts ≡ [])

-- one token
abbrev pub one : (Token → Bool) → Rule Token
one f t ts = (ts ≡ t ∷ []) × (f t ≡ true)

abbrev pub the : Terminal → Rule Token
the p = one (matches p)

infixr 5 ◌or◌
abbrev pub ◌or◌ : {A : Type 0} → Rule A → Rule A → Rule A
(P or Q) y ts = P y ts ⊎ Q y ts

-- only where a limit allows it
abbrev pub only : {A : Type 0} → Bool → Rule A → Rule A
only ok P y ts = (ok ≡ true) × P y ts

-- n times, each from what the one before gave
abbrev pub times : {A : Type 0} → ℕ → (A → Rule A) → A → Rule A
times zero step x = give x
times (suc n) step x = Then (step x) (times n step)

-- any number of times
abbrev pub repeat : {A : Type 0} → (A → Rule A) → A → Rule A
repeat step x y ts = (n : ℕ) × times n step x y ts

-- P { sep P }
abbrev pub separated : {A : Type 0} → Terminal → Rule A → Rule (List A)
separated sep P = P >>= λ x. repeat (λ xs. the sep >>= λ _. P >>= λ y. give (xs ++ y ∷ [])) (x ∷ [])

-- P, with the place of its first token
abbrev pub at_first : {A : Type 0} → Rule A → Rule (A × ℕ)
at_first P y ts = P y.0 ts × (y.1 ≡ place_of ts)
