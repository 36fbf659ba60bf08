-- Parsers on token lists: what was read and the tokens after it, or the tokens from the fault on.
use Rattle.std.specs.Prelude.{◌≡◌, ℕ, zero, suc, Bool, false, if◌then◌else◌, ◌&&◌, ◌||◌, List, [], ◌∷◌, ◌++◌, length, Option, Some, None, Result, Ok, Err}
use Rattle.std.specs.Borrow.{Bor}
use Rattle.pg_lex.specs.declared.token.Token.{Token}
use Rattle.pg_lex.specs.declared.token.TokenKind.TheVariants.{End}
use Rattle.pg_grammar.specs.declared.fault.Unexpected.{Unexpected}
use Rattle.pg_grammar.specs.declared.fault.Fault.{Fault}
use Rattle.pg_grammar.specs.declared.fault.Fault.TheVariants.{Syntax, Memory}
use Rattle.pg_ast.specs.Words.Terminals.{Tokens, Terminal, matches}
pub use Rattle.pg_ast.specs.Words.Terminals.{place_of}
use Rattle.pg_ast.specs.Words.Names.{opening, close, comma}

abbrev pub Outcome : Type 0 → Type 0
Outcome A = Result (A × Tokens) Tokens

abbrev pub Parser : Type 0 → Type 0
Parser A = Tokens → Outcome A

abbrev pub and_then : {A B : Type 0} → Outcome A → (A → Parser B) → Outcome B
and_then (Ok p) f = f p.0 p.1
and_then (Err e) f = Err e

infixl 10 ◌>>=◌
abbrev pub ◌>>=◌ : {A B : Type 0} → Parser A → (A → Parser B) → Parser B
p >>= f = λ i. and_then (p i) f

abbrev pub pure : {A : Type 0} → A → Parser A
pure x = λ i. Ok (x, i)

-- the next token passes the test
abbrev pub sees_if : (Token → Bool) → Tokens → Bool
sees_if f [] = false
sees_if f (t ∷ ts) = f t

abbrev pub sees : Terminal → Tokens → Bool
sees p = sees_if (matches p)

abbrev pub sees_either : Terminal → Terminal → Token → Bool
sees_either p q t = matches p t || matches q t

abbrev pub choose_if : {A : Type 0} → (Token → Bool) → Parser A → Parser A → Parser A
choose_if f p q = λ i. if sees_if f i then p i else q i

abbrev pub guarded : Bool → (Token → Bool) → Token → Bool
guarded ok f t = ok && f t

abbrev pub choose : {A : Type 0} → Terminal → Parser A → Parser A → Parser A
choose t p q = choose_if (matches t) p q

abbrev pub first : Parser Token
first [] = Err []
first (t ∷ ts) = Ok (t, ts)

-- the next token, where it is wanted
abbrev pub take_if : Bool → Parser Token
take_if b ts = if b then first ts else Err ts

abbrev pub eat_if : (Token → Bool) → Parser Token
eat_if f ts = take_if (sees_if f ts) ts

abbrev pub eat : Terminal → Parser Token
eat p = eat_if (matches p)

-- What a function returned, with the cursor after it, is what reading gives, unless memory ran out.
abbrev pub Fails : {A : Type 0} → Outcome A → Fault → Tokens → Type 0
Fails read Syntax after = read ≡ Err after
Fails read Memory after = Unit {0}

abbrev pub Reads : {A : Type 0} → Outcome A → Result A Fault → Tokens → Type 0
Reads read (Ok x) after = read ≡ Ok (x, after)
Reads read (Err e) after = Fails read e after

-- the same of a function that takes no memory
abbrev pub ReadsSurely : {A : Type 0} → Outcome A → Result A Unexpected → Tokens → Type 0
ReadsSurely read (Ok x) after = read ≡ Ok (x, after)
ReadsSurely read (Err e) after = read ≡ Err after

-- and of one that returns a reference
abbrev pub ReadsRef : Outcome Token → Result (Bor Token) Unexpected → Tokens → Type 0
ReadsRef read (Ok x) after = read ≡ Ok (x.now, after)
ReadsRef read (Err e) after = read ≡ Err after

-- the next token, where there is one
abbrev pub next_token : Tokens → Token
next_token [] = record { kind = End; from = 0; to = 0 }
next_token (t ∷ ts) = t

-- a token was read and moved past, or none was and the cursor stands where it stood
abbrev pub Moves : Tokens → Bool → Tokens → Type 0
Moves before came after = take_if came before ≡ (if came then Ok (next_token before, after) else Err after)

-- x, with that token behind it
abbrev pub ReadsBehind : {A : Type 0} → A → Outcome Token → Result A Unexpected → Tokens → Tokens → Type 0
ReadsBehind x read (Ok y) before after = (y ≡ x) × (read ≡ Ok (next_token before, after))
ReadsBehind x read (Err e) before after = read ≡ Err after

-- [ p ], where p begins with that token
abbrev pub optional : {A : Type 0} → Terminal → Parser A → Parser (Option A)
optional t p = choose t (p >>= λ x. pure (Some x)) (pure None)

-- at most n times, while the next token passes the test
unfoldable pub turns : {A : Type 0} → ℕ → (A → Token → Bool) → (A → Parser A) → A → Parser A
turns zero f step x = pure x
turns (suc n) f step x = choose_if (f x) (step x >>= turns n f step) (pure x)

abbrev pub loop : {A : Type 0} → (A → Token → Bool) → (A → Parser A) → A → Parser A
loop f step x = λ i. turns (length i) f step x i

abbrev pub next_item : {A : Type 0} → Terminal → Parser A → List A → Parser (List A)
next_item sep item found = do
  _ ← eat sep
  x ← item
  pure (found ++ x ∷ [])

-- one or more, with a separator between
abbrev pub separated : {A : Type 0} → Terminal → Parser A → Parser (List A)
separated sep item = item >>= λ x. loop (λ _. matches sep) (next_item sep item) (x ∷ [])

-- and in parentheses
abbrev pub listed : {A : Type 0} → Parser A → Parser (List A)
listed item = do
  _ ← eat opening
  xs ← separated comma item
  _ ← eat close
  pure xs

-- that value, unless memory ran out
abbrev pub OfMemory : {A : Type 0} → Result A Fault → A → Type 0
OfMemory (Ok y) x = y ≡ x
OfMemory (Err e) x = e ≡ Memory
