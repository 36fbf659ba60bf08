-- The place of the first token, and a part that may be left out only behind some trees.
use Rattle.std.proofs.Common.{◌≡◌, ℕ, Bool, true, false, cond, List, [], ◌∷◌, ◌++◌, Ok, Err, refl, sym, ap, ◌∙◌, inl, inr}
use Rattle.std.specs.Prelude.{not, ◌&&◌}
use Rattle.pg_lex.specs.declared.token.Token.{Token}
use Rattle.pg_ast.specs.Words.Terminals.{Terminal, Tokens, place_of}
use Rattle.pg_grammar.specs.Kit.Reading.{Outcome, Parser, choose_if, sees_if}
use Rattle.pg_ast.specs.Grammar.Rule.{Rule, ◌or◌, only, Then}
pub use Rattle.pg_ast.specs.Grammar.Rule.{at_first}
use Rattle.pg_grammar.specs.Kit.Sets.{any}
use Rattle.pg_grammar.specs.Kit.{Exact, Explains, Stops, exact-same, exact-wider}
use Rattle.pg_grammar.specs.Kit.Parses.{Parses, Begins, also}

-- THE PLACE OF THE FIRST TOKEN

abbrev pub placed : {T : Type 0} → ℕ → Outcome T → Outcome (T × ℕ)
placed n (Ok x) = Ok ((x.0, n), x.1)
placed n (Err r) = Err r

abbrev pub with_place : {T : Type 0} → Parser T → Parser (T × ℕ)
with_place p ts = placed (place_of ts) (p ts)

place-front : (f : List Terminal) (u v w : Tokens) → Begins f false u → place_of (u ++ v) ≡ place_of (u ++ w)
place-front f [] v w b = absurd cc
place-front f (t ∷ u) v w b = refl

place-of-front : (f : List Terminal) (u v : Tokens) → Begins f false u → place_of u ≡ place_of (u ++ v)
place-of-front f [] v b = absurd cc
place-of-front f (t ∷ u) v b = refl

explain-placed : {T : Type 0} (P : Rule T) (p : Parser T) (f : List Terminal) (ts : Tokens) (o : Outcome T) → ((t : T) (u : Tokens) → P t u → Begins f false u) → Explains P p ts o →
    Explains (at_first P) (with_place p) ts (placed (place_of ts) o)
explain-placed P p f ts (Ok x) begins h =
    let b = begins x.0 h.front h.spelled in
    let here : place_of h.front ≡ place_of ts = place-of-front f h.front x.1 b ∙ sym (ap place_of h.parts) in
    record {
      front = h.front;
      parts = h.parts;
      spelled = (h.spelled, sym here);
      local = λ more same. ap (λ o. placed (place_of (h.front ++ more)) o) (h.local more same) ∙ ap (λ (n : ℕ). Ok ((x.0, n), more)) (sym (place-of-front f h.front more b) ∙ here);
    }
explain-placed P p f ts (Err r) begins h = record {
  front = h.front;
  parts = h.parts;
  spelled = (h.spelled.0, (h.spelled.1, place_of (h.front ++ h.spelled.0)), (h.spelled.2, refl));
  local = λ more same. ap (λ o. placed (place_of (h.front ++ more)) o) (h.local more same);
}

pub parses-placed : {T : Type 0} {P : Rule T} {p : Parser T} {f e : List Terminal} → Parses P p f e false → Parses (at_first P) (with_place p) f e false
parses-placed {P = P} {p = p} {f = f} h = record {
  exact = record {
    explains = λ ts. explain-placed P p f ts (p ts) h.begins (h.exact.explains ts);
    complete = λ t u v k s. rw (h.exact.complete t.0 u v k.0 s, k.1, place-of-front f u v (h.begins t.0 u k.0)) refl;
  };
  begins = λ t u k. h.begins t.0 u k.0;
  inner = λ t u k. h.inner t.0 u k.0;
  some = let s = h.some in record { tree = (s.tree, place_of s.tokens); tokens = s.tokens; spelled = (s.spelled, refl) };
}

-- P, OR WHERE OK Q, WHICH IS READ WHERE NO P BEGINS

abbrev pub choose_unless : {T : Type 0} → Bool → (Token → Bool) → Parser T → Parser T → Parser T
choose_unless ok f p q ts = cond (ok && not (sees_if f ts)) (q ts) (p ts)

required-same : {T : Type 0} (f : Token → Bool) (p q : Parser T) (b : Bool) (x y : Outcome T) → cond (not b) y x ≡ cond b x y
required-same f p q true x y = refl
required-same f p q false x y = refl

pub parses-required : {T : Type 0} {P Q : Rule T} {p q : Parser T} {f e f' e' : List Terminal} {n' : Bool} (ok : Bool) →
    Parses P p f e false → Parses Q q f' e' n' → ((w : Tokens) → Stops (any (e ++ also n' e' f)) w → Stops (any e) w) →
    Parses (P or Q) (choose_if (any f) p q) (f ++ f') (e ++ also n' e' f) n' →
    Exact (P or only ok Q) (any (e ++ also n' e' f)) (choose_unless ok (any f) p q)
parses-required {P = P} {Q = Q} {p = p} {q = q} {f = f} {e = e} {f' = f'} {e' = e'} {n' = n'} true hp hq w h =
    exact-same (P or Q) (P or only true Q) (any (e ++ also n' e' f)) (choose_if (any f) p q) (choose_unless true (any f) p q)
    (λ t u k. elim k [ inl l ↦ inl l | inr r ↦ inr (refl, r) ])
    (λ t u k. elim k [ inl l ↦ inl l | inr r ↦ inr r.1 ])
    (λ l. required-same (any f) p q (sees_if (any f) l) (p l) (q l)) h.exact
parses-required {P = P} {Q = Q} {p = p} {q = q} {f = f} {e = e} {f' = f'} {e' = e'} {n' = n'} false hp hq w h =
    exact-same P (P or only false Q) (any (e ++ also n' e' f)) p (choose_unless false (any f) p q)
    (λ t u k. inl k)
    (λ t u k. elim k [ inl l ↦ l | inr r ↦ absurd (let n : false ≡ true = r.0 in cc) ])
    (λ l. refl) (exact-wider (any e) (any (e ++ also n' e' f)) w hp.exact)

-- THE GRAMMAR MAY BE WRITTEN WITH OR WITHOUT ITS COMMON FRONT TAKEN OUT

pub factored : {A B : Type 0} (P : Rule A) (Q R : A → Rule B) (y : B) (u : Tokens) → Then P (λ x. Q x or R x) y u → (Then P Q or Then P R) y u
factored P Q R y u h = elim h.goes_on [
  | inl k ↦ inl (record { first = h.first; front = h.front; back = h.back; parts = h.parts; begins = h.begins; goes_on = k })
  | inr k ↦ inr (record { first = h.first; front = h.front; back = h.back; parts = h.parts; begins = h.begins; goes_on = k })
]

pub unfactored : {A B : Type 0} (P : Rule A) (Q R : A → Rule B) (y : B) (u : Tokens) → (Then P Q or Then P R) y u → Then P (λ x. Q x or R x) y u
unfactored P Q R y u h = elim h [
  | inl k ↦ record { first = k.first; front = k.front; back = k.back; parts = k.parts; begins = k.begins; goes_on = inl k.goes_on }
  | inr k ↦ record { first = k.first; front = k.front; back = k.back; parts = k.parts; begins = k.begins; goes_on = inr k.goes_on }
]
