-- Rules that are the same, written with and without a common front.
use Rattle.std.proofs.Common.{◌≡◌, ℕ, Bool, true, false, List, [], ◌∷◌, ◌++◌, Ok, Err, refl, sym, ap, subst, ◌∙◌, append_assoc}
use Rattle.pg_lex.specs.declared.token.Token.{Token}
use Rattle.pg_ast.specs.Words.Terminals.{Terminal, Tokens, place_of}
use Rattle.pg_ast.specs.Grammar.Rule.{Rule, Then}
use Rattle.pg_grammar.specs.Kit.Reading as read
use Rattle.pg_grammar.specs.Kit.Reading.{Outcome, Parser, and_then}
use Rattle.pg_grammar.specs.Kit.Sets.{any}
use Rattle.pg_grammar.specs.Kit.{Explains, SameHead, exact-same}
use Rattle.pg_grammar.specs.Kit.Parses.{Parses, Begins}

pub record Same {A : Type 0} (P Q : Rule A) : Type 0 where
  pub there : (y : A) (u : Tokens) → P y u → Q y u
  pub back : (y : A) (u : Tokens) → Q y u → P y u

pub parses-same : {T : Type 0} {P Q : Rule T} {p : Parser T} {f e : List Terminal} {n : Bool} → Same P Q → Parses P p f e n → Parses Q p f e n
parses-same {P = P} {Q = Q} {p = p} {e = e} s h = record {
  exact = exact-same P Q (any e) p p s.there s.back (λ l. refl) h.exact;
  begins = λ t u k. h.begins t u (s.back t u k);
  inner = λ t u k. h.inner t u (s.back t u k);
  some = let k = h.some in record { tree = k.tree; tokens = k.tokens; spelled = s.there k.tree k.tokens k.spelled };
}

-- a parser that gives the same
pub parses-alike : {T : Type 0} {P : Rule T} {p q : Parser T} {f e : List Terminal} {n : Bool} → ((l : Tokens) → q l ≡ p l) → Parses P p f e n → Parses P q f e n
parses-alike {P = P} {p = p} {q = q} {e = e} same h = record {
  exact = exact-same P P (any e) p q (λ t u k. k) (λ t u k. k) same h.exact;
  begins = h.begins;
  inner = h.inner;
  some = h.some;
}

-- one parser after the other, grouped from the left
pub regrouped : {A B C : Type 0} (o : Outcome A) (f : A → Parser B) (g : B → Parser C) → and_then (and_then o f) g ≡ and_then o (λ x. read.◌>>=◌ (f x) g)
regrouped (Err r) f g = refl
regrouped (Ok x) f g = refl

-- behind the same front something else
pub again : {A B C : Type 0} {P : Rule A} {Q : A → Rule B} {R : A → Rule C} {y : B} {z : C} {u : Tokens} (k : Then P Q y u) → R k.first z k.back → Then P R z u
again k g = record { first = k.first; front = k.front; back = k.back; parts = k.parts; begins = k.begins; goes_on = g }

-- one after the other, from the left and from the right
pub from_left : {A B C : Type 0} {P : Rule A} {Q : A → Rule B} {R : B → Rule C} {y : C} {u : Tokens} → Then (Then P Q) R y u → Then P (λ x. Then (Q x) R) y u
from_left h =
    let k = h.begins in
    record {
      first = k.first;
      front = k.front;
      back = k.back ++ h.back;
      parts = h.parts ∙ ap (λ (l : Tokens). l ++ h.back) k.parts ∙ append_assoc k.front k.back h.back;
      begins = k.begins;
      goes_on = record { first = h.first; front = k.back; back = h.back; parts = refl; begins = k.goes_on; goes_on = h.goes_on };
    }

pub from_right : {A B C : Type 0} {P : Rule A} {Q : A → Rule B} {R : B → Rule C} {y : C} {u : Tokens} → Then P (λ x. Then (Q x) R) y u → Then (Then P Q) R y u
from_right h =
    let k = h.goes_on in
    record {
      first = k.first;
      front = h.front ++ k.front;
      back = k.back;
      parts = h.parts ∙ ap (λ (l : Tokens). h.front ++ l) k.parts ∙ sym (append_assoc h.front k.front k.back);
      begins = record { first = h.first; front = h.front; back = k.front; parts = refl; begins = h.begins; goes_on = k.begins };
      goes_on = k.goes_on;
    }

-- A RULE THAT MAY LEAVE OUT ALL OF ITS TOKENS, AS FAR AS ITS READER KNOWS

pub parses-maybe : {T : Type 0} {P : Rule T} {p : Parser T} {f e : List Terminal} → Parses P p f e false → Parses P p f e true
parses-maybe {f = f} h = record { exact = h.exact; begins = λ t u k. weaker u (h.begins t u k); inner = h.inner; some = h.some } where
  weaker : (u : Tokens) → Begins f false u → Begins f true u
  weaker [] b = refl
  weaker (t ∷ u) b = b

-- A RULE OF THE PLACE OF ITS FIRST TOKEN

abbrev pub placed : {T : Type 0} → (ℕ → Rule T) → Rule T
placed P y ts = P (place_of ts) y ts

abbrev pub with_place : {T : Type 0} → (ℕ → Parser T) → Parser T
with_place p ts = p (place_of ts) ts

place-same : (a b : Tokens) → SameHead a b → place_of a ≡ place_of b
place-same [] [] s = refl
place-same [] (y ∷ b) s = absurd s
place-same (x ∷ a) [] s = absurd s
place-same (x ∷ a) (y ∷ b) s = ap (λ (t : Token). t.from) s

place-kept : (front rest more : Tokens) → SameHead rest more → place_of (front ++ rest) ≡ place_of (front ++ more)
place-kept [] rest more s = place-same rest more s
place-kept (t ∷ front) rest more s = refl

place-of-front : (f : List Terminal) (u v : Tokens) → Begins f false u → place_of u ≡ place_of (u ++ v)
place-of-front f [] v b = absurd cc
place-of-front f (t ∷ u) v b = refl

-- what can be read at one place can be read at each other
abbrev pub AnyPlace : {T : Type 0} → (ℕ → Rule T) → Type 0
AnyPlace {T = T} P = (n m : ℕ) (t : T) (u : Tokens) → P n t u → (s : T) × P m s u

explain-placed : {T : Type 0} (P : ℕ → Rule T) (p : ℕ → Parser T) (f : List Terminal) (ts : Tokens) (n : ℕ) (o : Outcome T) →
    place_of ts ≡ n → AnyPlace P → ((t : T) (u : Tokens) → P n t u → Begins f false u) → Explains (P n) (p n) ts o → Explains (placed P) (with_place p) ts o
explain-placed P p f ts n (Ok x) e free begins h = record {
  front = h.front;
  parts = h.parts;
  spelled = subst (λ (m : ℕ). P m x.0 h.front) (sym e ∙ ap place_of h.parts ∙ sym (place-of-front f h.front x.1 (begins x.0 h.front h.spelled))) h.spelled;
  local = λ more same. ap (λ (m : ℕ). p m (h.front ++ more)) (sym (place-kept h.front x.1 more same) ∙ sym (ap place_of h.parts) ∙ e) ∙ h.local more same;
}
explain-placed P p f ts n (Err r) e free begins h =
    let more = h.spelled.0 in
    let s = free n (place_of (h.front ++ more)) h.spelled.1 (h.front ++ more) h.spelled.2 in
    record {
      front = h.front;
      parts = h.parts;
      spelled = (more, s.0, s.1);
      local = λ more same. ap (λ (m : ℕ). p m (h.front ++ more)) (sym (place-kept h.front r more same) ∙ sym (ap place_of h.parts) ∙ e) ∙ h.local more same;
    }

pub parses-with-place : {T : Type 0} {P : ℕ → Rule T} {p : ℕ → Parser T} {f e : List Terminal} → AnyPlace P → ((n : ℕ) → Parses (P n) (p n) f e false) → Parses (placed P) (with_place p) f e false
parses-with-place {P = P} {p = p} {f = f} free h = record {
  exact = record {
    explains = λ ts. explain-placed P p f ts (place_of ts) (p (place_of ts) ts) refl free (h (place_of ts)).begins ((h (place_of ts)).exact.explains ts);
    complete = λ t u v k s.
        ap (λ (m : ℕ). p m (u ++ v)) (sym (place-of-front f u v ((h (place_of u)).begins t u k)))
        ∙ (h (place_of u)).exact.complete t u v k s;
  };
  begins = λ t u k. (h (place_of u)).begins t u k;
  inner = λ t u k. (h (place_of u)).inner t u k;
  some =
      let s = (h 0).some in
      let k = free 0 (place_of s.tokens) s.tree s.tokens s.spelled in
      record { tree = k.0; tokens = s.tokens; spelled = k.1 };
}
