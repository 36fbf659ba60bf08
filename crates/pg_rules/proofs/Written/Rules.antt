-- What rules of a grammar keep where they repeat a rule, leave it out, or list what it gives.
use Rattle.std.proofs.Common.{ℕ, zero, suc, sym, subst, List, [], ◌∷◌, ◌++◌, inl, inr, Option, Some, None}
use Rattle.pg_keyed.specs.Lists.{Each, each_append}
use Rattle.pg_ast.specs.Words.Terminals.{Terminal, Tokens}
use Rattle.pg_ast.specs.Grammar.Rule.{Rule, Then, ◌>>=◌, give, the, times, separated}
use Rattle.pg_ast.specs.Grammar.Parts.{optional}

pub repeat_keeps : {A : Type 0} (G : A → Type 0) (step : A → Rule A) → ((x y : A) (ts : Tokens) → G x → step x y ts → G y) → (n : ℕ) (x y : A) (ts : Tokens) → G x → times n step x y ts → G y
repeat_keeps G step f zero x y ts g h = subst G (sym h.0) g
repeat_keeps G step f (suc n) x y ts g h = repeat_keeps G step f n h.first y h.back (f x h.first h.front g h.begins) h.goes_on

-- of each item of a list
pub listed_keeps : {A : Type 0} (G : A → Type 0) (sep : Terminal) (P : Rule A) → ((x : A) (ts : Tokens) → P x ts → G x) → (xs : List A) (ts : Tokens) → separated sep P xs ts → Each G xs
listed_keeps {A = A} G sep P f xs ts h =
    repeat_keeps (Each G) (λ ys. the sep >>= λ _. P >>= λ y. give (ys ++ y ∷ [])) next h.goes_on.0 (h.first ∷ []) xs h.back (f h.first h.front h.begins, tt) h.goes_on.1
  where
    next : (ys zs : List A) (us : Tokens) → Each G ys → Then (the sep) (λ _. P >>= λ y. give (ys ++ y ∷ [])) zs us → Each G zs
    next ys zs us g k =
        let m = k.goes_on in
        subst (Each G) (sym m.goes_on.0) (each_append G ys (m.first ∷ []) g (f m.first m.front m.begins, tt))

-- of what may be left out
pub optional_keeps : {A : Type 0} (G : Option A → Type 0) (P : Rule A) → ((x : A) (ts : Tokens) → P x ts → G (Some x)) → G None → (o : Option A) (ts : Tokens) → optional P o ts → G o
optional_keeps G P f n o ts (inl h) = subst G (sym h.goes_on.0) (f h.first h.front h.begins)
optional_keeps G P f n o ts (inr h) = subst G (sym h.0) n
