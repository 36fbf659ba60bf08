-- A choice by the next two tokens, and a part that may be left out only after some trees.
use Rattle.std.proofs.Common.{◌≡◌, Bool, true, false, cond, List, [], ◌∷◌, ◌++◌, Ok, Err, refl, sym, ap, subst, ◌∙◌, append_assoc, inl, inr}
use Rattle.std.specs.Prelude.{◌&&◌}
use Rattle.std.proofs.lemmas.List.{append-nil}
use Rattle.pg_lex.specs.declared.token.Token.{Token}
use Rattle.pg_grammar.specs.Kit.Reading.{Outcome, Parser, sees_if}
use Rattle.pg_ast.specs.Words.Terminals.{Terminal, matches, Tokens}
use Rattle.pg_ast.specs.Grammar.Rule.{Rule, Then, ◌or◌, only}
use Rattle.pg_grammar.specs.Kit.Sets.{any, disjoint, disjoint-sound}
use Rattle.pg_grammar.specs.Kit.Parses.{Parses, Begins, Stops-parts, begins-or-left, begins-or-right}
use Rattle.pg_grammar.specs.Kit.{Exact, Explains, Stops, SameHead, rest_of, with_rest, widen-spelled}

-- the next token passes f, and the one after it g
abbrev pub sees_two : (Token → Bool) → (Token → Bool) → Tokens → Bool
sees_two f g [] = false
sees_two f g (t ∷ ts) = f t && sees_if g ts

abbrev pub choose_by : {A : Type 0} → (Tokens → Bool) → Parser A → Parser A → Parser A
choose_by look p q ts = cond (look ts) (p ts) (q ts)

-- what p stopped at and what it took decide the look
abbrev pub Keeps : {T : Type 0} → (Tokens → Bool) → Bool → Parser T → Rule T → Type 0
Keeps look b p P = (ts more : Tokens) → look ts ≡ b → (h : Explains P p ts (p ts)) → SameHead (rest_of (p ts)) more → look (h.front ++ more) ≡ b

explain-by : {T : Type 0} (look : Tokens → Bool) (P Q : Rule T) (p q : Parser T) (ts : Tokens) (b : Bool) → look ts ≡ b → Keeps look true p P → Keeps look false q Q →
    Explains P p ts (p ts) → Explains Q q ts (q ts) → Explains (P or Q) (choose_by look p q) ts (cond b (p ts) (q ts))
explain-by look P Q p q ts true e kp kq hp hq = record {
  front = hp.front;
  parts = hp.parts;
  spelled = widen-spelled P (P or Q) (λ t u h. inl h) (p ts) hp.front hp.spelled;
  local = λ more same. rw (kp ts more e hp same) (hp.local more same);
}
explain-by look P Q p q ts false e kp kq hp hq = record {
  front = hq.front;
  parts = hq.parts;
  spelled = widen-spelled Q (P or Q) (λ t u h. inr h) (q ts) hq.front hq.spelled;
  local = λ more same. rw (kq ts more e hq same) (hq.local more same);
}

pub exact-by : {T : Type 0} (look : Tokens → Bool) (P Q : Rule T) (e e' g : Token → Bool) (p q : Parser T) →
    Exact P e p → Exact Q e' q → Keeps look true p P → Keeps look false q Q →
    ((t : T) (u w : Tokens) → P t u → Stops g w → look (u ++ w) ≡ true) →
    ((t : T) (u w : Tokens) → Q t u → Stops g w → look (u ++ w) ≡ false) →
    ((w : Tokens) → Stops g w → Stops e w × Stops e' w) →
    Exact (P or Q) g (choose_by look p q)
exact-by look P Q e e' g p q hp hq kp kq first other sub = record {
  explains = λ ts. explain-by look P Q p q ts (look ts) refl kp kq (hp.explains ts) (hq.explains ts);
  complete = λ t u v h s. elim h [
    | inl k ↦ rw (first t u v k s) (hp.complete t u v k (sub v s).0)
    | inr k ↦ rw (other t u v k s) (hq.complete t u v k (sub v s).1)
  ];
}

-- A PARSER THAT TAKES AT LEAST TWO TOKENS KEEPS A LOOK AT TWO

sees-again : (f : Token → Bool) (a b : Tokens) → SameHead a b → sees_if f a ≡ sees_if f b
sees-again f [] [] same = refl
sees-again f [] (y ∷ b) same = absurd same
sees-again f (x ∷ a) [] same = absurd same
sees-again f (x ∷ a) (y ∷ b) same = ap f same

-- what was taken, and the token at which p stopped, decide a look at two, if p never stops before a token of f
look-front : (f g : Token → Bool) (t : Token) (ts front more rest : Tokens) → t ∷ ts ≡ front ++ rest → (f t ≡ true → front ≡ [] → ⊥) → SameHead rest more → sees_two f g (front ++ more) ≡ sees_two f g (t ∷ ts)
look-front f g t ts [] more [] e moves same = absurd cc
look-front f g t ts [] [] (r ∷ rest) e moves same = absurd same
look-front f g t ts [] (m ∷ more) (r ∷ rest) e moves same =
    let tr : t ≡ r = cc in
    let none : f t ≡ false = stays (f t) (λ h. moves h refl) in
    let n : f m ≡ false = ap f (sym same) ∙ ap f (sym tr) ∙ none in
    rw (n, none) refl where
      stays : (b : Bool) → (b ≡ true → ⊥) → b ≡ false
      stays true k = absurd (k refl)
      stays false k = refl
look-front f g t ts (x ∷ []) more rest e moves same =
    let tx : t ≡ x = cc in
    let rs : ts ≡ rest = cc in
    rw (tx, rs) (ap (λ (b : Bool). f x && b) (sym (sees-again g rest more same)))
look-front f g t ts (x ∷ y ∷ front) more rest e moves same =
    let tx : t ≡ x = cc in
    let rs : ts ≡ y ∷ (front ++ rest) = cc in
    rw (tx, rs) refl

pub keeps-two : {T : Type 0} (f g : Token → Bool) (b : Bool) (P : Rule T) (p : Parser T) →
    ((t : Token) (ts : Tokens) (h : Explains P p (t ∷ ts) (p (t ∷ ts))) → f t ≡ true → h.front ≡ [] → ⊥) → Keeps (sees_two f g) b p P
keeps-two f g b P p moves [] more e h same = none h.front (rest_of (p [])) more h.parts same e where
  none : (front rest more : Tokens) → [] ≡ front ++ rest → SameHead rest more → false ≡ b → sees_two f g (front ++ more) ≡ b
  none [] [] [] k s e = e
  none [] [] (m ∷ more) k s e = absurd s
  none [] (r ∷ rest) more k s e = absurd cc
  none (x ∷ front) rest more k s e = absurd cc
keeps-two f g b P p moves (t ∷ ts) more e h same = look-front f g t ts h.front more (rest_of (p (t ∷ ts))) h.parts (moves t ts h) same ∙ e

-- a parser moves past a token with which its rule may begin
pub moves-past : {T : Type 0} (P : Rule T) (e : Token → Bool) (p : Parser T) → Exact P e p → (x : T) (t : Token) (u : Tokens) → P x (t ∷ u) → (ts : Tokens) (h : Explains P p (t ∷ ts) (p (t ∷ ts))) → h.front ≡ [] → ⊥
moves-past {T = T} P e p exact x t u s ts h none =
    let rest : t ∷ ts ≡ rest_of (p (t ∷ ts)) = h.parts ∙ ap (λ (l : Tokens). l ++ rest_of (p (t ∷ ts))) none in
    let same : SameHead (rest_of (p (t ∷ ts))) (t ∷ u) = subst (λ (l : Tokens). SameHead l (t ∷ u)) rest refl in
    let stuck : p (t ∷ u) ≡ with_rest (t ∷ u) (p (t ∷ ts)) = ap (λ (l : Tokens). p (l ++ t ∷ u)) (sym none) ∙ h.local (t ∷ u) same in
    let read : p (t ∷ u) ≡ Ok (x, []) = ap p (sym (append-nil (t ∷ u))) ∙ exact.complete x (t ∷ u) [] s tt in
    let r : rest_of (with_rest (t ∷ u) (p (t ∷ ts))) ≡ [] = ap (λ (o : Outcome T). rest_of o) (sym stuck ∙ read) in
    nonempty (p (t ∷ ts)) r where
      nonempty : (o : Outcome T) → rest_of (with_rest (t ∷ u) o) ≡ [] → ⊥
      nonempty (Ok y) r = cc
      nonempty (Err y) r = cc

-- P of two tokens at least, or Q, which may begin with the first of them
pub exact-two : {T : Type 0} (f g : Token → Bool) (P Q : Rule T) (e e' k : Token → Bool) (p q : Parser T) →
    Exact P e p → Exact Q e' q →
    -- each token that passes f begins a P, and begins a Q
    ((t : Token) → f t ≡ true → (x : T) × (u : Tokens) × P x (t ∷ u)) →
    ((t : Token) → f t ≡ true → (x : T) × (u : Tokens) × Q x (t ∷ u)) →
    ((t : T) (u w : Tokens) → P t u → Stops k w → sees_two f g (u ++ w) ≡ true) →
    ((t : T) (u w : Tokens) → Q t u → Stops k w → sees_two f g (u ++ w) ≡ false) →
    ((w : Tokens) → Stops k w → Stops e w × Stops e' w) →
    Exact (P or Q) k (choose_by (sees_two f g) p q)
exact-two f g P Q e e' k p q hp hq from-p from-q first other sub =
    exact-by (sees_two f g) P Q e e' k p q hp hq
    (keeps-two f g true P p (λ t ts h b. let s = from-p t b in moves-past P e p hp s.0 t s.1 s.2 ts h))
    (keeps-two f g false Q q (λ t ts h b. let s = from-q t b in moves-past Q e' q hq s.0 t s.1 s.2 ts h))
    first other sub

-- each token that meets the pattern begins something of the rule
abbrev pub BegunBy : {T : Type 0} → Terminal → Rule T → Type 0
BegunBy a P = (t : Token) → matches a t ≡ true → (x : _) × (u : Tokens) × P x (t ∷ u)

-- nothing of the rule begins with a token that meets a and one that meets b
abbrev pub NeverTwo : {T : Type 0} → Terminal → Terminal → Rule T → Type 0
NeverTwo a b P = (t : _) (u w : Tokens) → P t u → sees_two (matches a) (matches b) (u ++ w) ≡ false

-- all of the rule begins so
abbrev pub AlwaysTwo : {T : Type 0} → Terminal → Terminal → Rule T → Type 0
AlwaysTwo a b P = (t : _) (u w : Tokens) → P t u → sees_two (matches a) (matches b) (u ++ w) ≡ true

pub parses-two : {T : Type 0} {P Q : Rule T} {p q : Parser T} {f e f' e' : List Terminal} (a b : Terminal) →
    Parses P p f e false → Parses Q q f' e' false → BegunBy a P → BegunBy a Q → AlwaysTwo a b P → NeverTwo a b Q →
    Parses (P or Q) (choose_by (sees_two (matches a) (matches b)) p q) (f ++ f') (e ++ e') false
parses-two {P = P} {Q = Q} {p = p} {q = q} {f = f} {e = e} {f' = f'} {e' = e'} a b hp hq from-p from-q first other = record {
  exact = exact-two (matches a) (matches b) P Q (any e) (any e') (any (e ++ e')) p q hp.exact hq.exact from-p from-q
      (λ t u w h s. first t u w h) (λ t u w h s. other t u w h) (λ w s. Stops-parts e e' w s);
  begins = λ t u h. elim h [
    | inl k ↦ begins-or-left f f' false u (hp.begins t u k)
    | inr k ↦ begins-or-right f f' false u (hq.begins t u k)
  ];
  inner = λ t u h. elim h [ inl k ↦ hp.inner t u k | inr k ↦ hq.inner t u k ];
  some = let s = hp.some in record { tree = s.tree; tokens = s.tokens; spelled = inl s.spelled };
}

pub never-then : {A B : Type 0} {P : Rule A} {Q : A → Rule B} (a b : Terminal) → NeverTwo a b P → NeverTwo a b (Then P Q)
never-then a b n t u w h = rw (h.parts, append_assoc h.front h.back w) (n h.first h.front (h.back ++ w) h.begins)

pub never-or : {T : Type 0} {P Q : Rule T} (a b : Terminal) → NeverTwo a b P → NeverTwo a b Q → NeverTwo a b (P or Q)
never-or a b m n t u w h = elim h [ inl k ↦ m t u w k | inr k ↦ n t u w k ]

pub never-only : {T : Type 0} {P : Rule T} (ok : Bool) (a b : Terminal) → NeverTwo a b P → NeverTwo a b (only ok P)
never-only ok a b n t u w h = n t u w h.1

-- a rule that begins with other tokens
pub never-apart : {T : Type 0} {P : Rule T} {p : Parser T} {f e : List Terminal} (a b : Terminal) → Parses P p f e false → disjoint f (a ∷ []) ≡ true → NeverTwo a b P
never-apart {f = f} a b h d t u w k = other u (h.begins t u k) where
  other : (u : Tokens) → Begins f false u → sees_two (matches a) (matches b) (u ++ w) ≡ false
  other [] k = absurd cc
  other (t ∷ u) k = rw (disjoint-sound f (a ∷ []) t d k) refl
