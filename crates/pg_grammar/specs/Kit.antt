-- Parsers against rules.
pub mod Callable
pub mod Choices
pub mod Optional
pub mod Parses
pub mod Reading
pub mod Sets
pub mod OneToken
use Rattle.std.proofs.Common.{◌≡◌, ℕ, zero, suc, ◌≤◌, ◌<◌, Bool, true, false, cond, [], ◌∷◌, ◌++◌, length, Ok, Err, refl, sym, ap, subst, ◌∙◌, append_assoc, arith, inl, inr}
use Rattle.std.proofs.lemmas.List.{length-append}
use Rattle.pg_lex.specs.declared.token.Token.{Token}
use Rattle.pg_grammar.specs.Kit.Reading.{Outcome, Parser, and_then, pure, ◌>>=◌, sees_if, eat_if, choose_if, turns, loop, guarded}
use Rattle.pg_ast.specs.Words.Terminals.{Tokens}
use Rattle.pg_ast.specs.Grammar.Rule.{Rule, Then, give, one, ◌or◌, times, repeat, only}

abbrev pub rest_of : {T : Type 0} → Outcome T → Tokens
rest_of (Ok x) = x.1
rest_of (Err r) = r

abbrev pub with_rest : {T : Type 0} → Tokens → Outcome T → Outcome T
with_rest more (Ok x) = Ok (x.0, more)
with_rest more (Err r) = Err more

-- both end, or both begin with the same token
abbrev pub SameHead : Tokens → Tokens → Type 0
SameHead [] [] = Unit {0}
SameHead [] (y ∷ ys) = ⊥
SameHead (x ∷ xs) [] = ⊥
SameHead (x ∷ xs) (y ∷ ys) = x ≡ y

-- nothing follows, or a token at which f is false
abbrev pub Stops : (Token → Bool) → Tokens → Type 0
Stops f [] = Unit {0}
Stops f (x ∷ xs) = f x ≡ false

-- the front is what was read, or what was read can go on to something
abbrev pub Spelled : {T : Type 0} → Rule T → Outcome T → Tokens → Type 0
Spelled P (Ok x) front = P x.0 front
Spelled P (Err r) front = (more : Tokens) × (t : _) × P t (front ++ more)

pub record Explains {T : Type 0} (P : Rule T) (p : Parser T) (ts : Tokens) (o : Outcome T) : Type 0 where
  pub front : Tokens
  pub parts : ts ≡ front ++ rest_of o
  pub spelled : Spelled P o front
  -- what stands behind the token at which it stopped makes no difference
  pub local : (more : Tokens) → SameHead (rest_of o) more → p (front ++ more) ≡ with_rest more o

-- p reads P, if no token of e follows
pub record Exact {T : Type 0} (P : Rule T) (e : Token → Bool) (p : Parser T) : Type 0 where
  pub explains : (ts : Tokens) → Explains P p ts (p ts)
  pub complete : (t : T) (u v : Tokens) → P t u → Stops e v → p (u ++ v) ≡ Ok (t, v)

SameHead-append : (a b c : Tokens) → SameHead b c → SameHead (a ++ b) (a ++ c)
SameHead-append [] b c h = h
SameHead-append (x ∷ a) b c h = refl

-- GIVE

pub exact-give : {T : Type 0} (x : T) (e : Token → Bool) → Exact (give x) e (pure x)
exact-give x e = record {
  explains = λ ts. record { front = []; parts = refl; spelled = (refl, refl); local = λ more same. refl };
  complete = λ t u v h s. rw (h.0, h.1) refl;
}

-- ONE AFTER THE OTHER

some-then : {A B : Type 0} (P : Rule A) (Q : A → Rule B) (x : A) (a b : Tokens) (o : Outcome B) → P x a → Spelled (Q x) o b → Spelled (Then P Q) o (a ++ b)
some-then P Q x a b (Ok y) h k = record { first = x; front = a; back = b; parts = refl; begins = h; goes_on = k }
some-then P Q x a b (Err r) h k = (k.0, k.1, record { first = x; front = a; back = b ++ k.0; parts = append_assoc a b k.0; begins = h; goes_on = k.2 })

pub record Some {T : Type 0} (P : Rule T) : Type 0 where
  pub tree : T
  pub tokens : Tokens
  pub spelled : P tree tokens

explain-then : {A B : Type 0} (P : Rule A) (Q : A → Rule B) (p : Parser A) (q : A → Parser B) (ts : Tokens) (o : Outcome A) →
    Explains P p ts o → ((x : A) (rest : Tokens) → o ≡ Ok (x, rest) → Explains (Q x) (q x) rest (q x rest)) → ((x : A) (u : Tokens) → P x u → Some (Q x)) →
    Explains (Then P Q) (p >>= q) ts (and_then o q)
explain-then {A = A} P Q p q ts (Ok x) h k some =
    let g = k x.0 x.1 refl in
    record {
      front = h.front ++ g.front;
      parts = h.parts ∙ ap (λ (l : Tokens). h.front ++ l) g.parts ∙ sym (append_assoc h.front g.front (rest_of (q x.0 x.1)));
      spelled = some-then P Q x.0 h.front g.front (q x.0 x.1) h.spelled g.spelled;
      local = λ more same.
          let same' : SameHead x.1 (g.front ++ more) = subst (λ (l : Tokens). SameHead l (g.front ++ more)) (sym g.parts) (SameHead-append g.front (rest_of (q x.0 x.1)) more same) in
          ap (λ (l : Tokens). and_then (p l) q) (append_assoc h.front g.front more)
          ∙ ap (λ (r : Outcome A). and_then r q) (h.local (g.front ++ more) same')
          ∙ g.local more same;
    }
explain-then {A = A} P Q p q ts (Err r) h k some =
    let more = h.spelled.0 in
    let t = h.spelled.1 in
    let s = some t (h.front ++ more) h.spelled.2 in
    record {
      front = h.front;
      parts = h.parts;
      spelled = (more ++ s.tokens, s.tree, record { first = t; front = h.front ++ more; back = s.tokens; parts = sym (append_assoc h.front more s.tokens); begins = h.spelled.2; goes_on = s.spelled });
      local = λ more same. ap (λ (r : Outcome A). and_then r q) (h.local more same);
    }

pub exact-then : {A B : Type 0} (P : Rule A) (Q : A → Rule B) (e f g : Token → Bool) (p : Parser A) (q : A → Parser B) →
    Exact P e p → ((x : A) → Exact (Q x) f (q x)) → ((x : A) (u : Tokens) → P x u → Some (Q x)) →
    ((x : A) (y : B) (v w : Tokens) → Q x y v → Stops g w → Stops e (v ++ w)) →
    ((w : Tokens) → Stops g w → Stops f w) →
    Exact (Then P Q) g (p >>= q)
exact-then P Q e f g p q hp hq some apart sub = record {
  explains = λ ts. explain-then P Q p q ts (p ts) (hp.explains ts) (λ x rest e. (hq x).explains rest) some;
  complete = λ t u v h s.
      rw (h.parts, append_assoc h.front h.back v)
      (ap (λ r. and_then r q) (hp.complete h.first h.front (h.back ++ v) h.begins (apart h.first t h.back v h.goes_on s))
      ∙ (hq h.first).complete t h.back v h.goes_on (sub v s));
}

-- ONE TOKEN

explain-one : (f : Token → Bool) (t : Token) (ts : Tokens) (b : Bool) → f t ≡ b → Some (one f) → Explains (one f) (eat_if f) (t ∷ ts) (cond b (Ok (t, ts)) (Err (t ∷ ts)))
explain-one f t ts true e some = record { front = t ∷ []; parts = refl; spelled = (refl, e); local = λ more same. rw e refl }
explain-one f t ts false e some = record {
  front = [];
  parts = refl;
  spelled = (some.tokens, some.tree, some.spelled);
  local = λ more same. stays f t e more same;
} where
  stays : (f : Token → Bool) (t : Token) → f t ≡ false → (more : Tokens) → SameHead (t ∷ ts) more → eat_if f more ≡ Err more
  stays f t e [] same = absurd same
  stays f t e (m ∷ more) same = rw (← same, e) refl

pub exact-one : (f e : Token → Bool) → Some (one f) → Exact (one f) e (eat_if f)
exact-one f e some = record {
  explains = λ ts. at ts;
  complete = λ t u v h s. rw (h.0, h.1) refl;
} where
  at : (ts : Tokens) → Explains (one f) (eat_if f) ts (eat_if f ts)
  at [] = record { front = []; parts = refl; spelled = (some.tokens, some.tree, some.spelled); local = λ more same. ends more same } where
    ends : (more : Tokens) → SameHead [] more → eat_if f more ≡ Err more
    ends [] same = refl
    ends (m ∷ more) same = absurd same
  at (t ∷ ts) = explain-one f t ts (f t) refl some

-- A CHOICE BY THE NEXT TOKEN

sees-same : (f : Token → Bool) (a b : Tokens) → SameHead a b → sees_if f a ≡ sees_if f b
sees-same f [] [] same = refl
sees-same f [] (y ∷ b) same = absurd same
sees-same f (x ∷ a) [] same = absurd same
sees-same f (x ∷ a) (y ∷ b) same = ap f same

sees-front : {T : Type 0} (f : Token → Bool) (P : Rule T) (p : Parser T) (ts : Tokens) (o : Outcome T) (h : Explains P p ts o) (b : Bool) → sees_if f ts ≡ b → (more : Tokens) → SameHead (rest_of o) more → sees_if f (h.front ++ more) ≡ b
sees-front f P p ts o h b e more same =
    sym (sees-same f (h.front ++ rest_of o) (h.front ++ more) (SameHead-append h.front (rest_of o) more same)) ∙ sym (ap (sees_if f) h.parts) ∙ e

pub widen-spelled : {T : Type 0} (P Q : Rule T) → ((t : T) (u : Tokens) → P t u → Q t u) → (o : Outcome T) (u : Tokens) → Spelled P o u → Spelled Q o u
widen-spelled P Q k (Ok x) u h = k x.0 u h
widen-spelled P Q k (Err r) u h = (h.0, h.1, k h.1 (u ++ h.0) h.2)

-- a parser that does what p does where the next token passes, or doesn't pass, the test
explain-as : {T : Type 0} (f : Token → Bool) (b : Bool) (P Q : Rule T) (p q : Parser T) (ts : Tokens) (o : Outcome T) →
    Explains P p ts o → ((t : T) (u : Tokens) → P t u → Q t u) → sees_if f ts ≡ b → ((l : Tokens) → sees_if f l ≡ b → q l ≡ p l) → Explains Q q ts o
explain-as f b P Q p q ts o h k e same-parser = record {
  front = h.front;
  parts = h.parts;
  spelled = widen-spelled P Q k o h.front h.spelled;
  local = λ more same. same-parser (h.front ++ more) (sees-front f P p ts o h b e more same) ∙ h.local more same;
}

explain-choose : {T : Type 0} (f : Token → Bool) (P Q : Rule T) (p q : Parser T) (ts : Tokens) (b : Bool) → sees_if f ts ≡ b →
    Explains P p ts (p ts) → Explains Q q ts (q ts) → Explains (P or Q) (choose_if f p q) ts (cond b (p ts) (q ts))
explain-choose f P Q p q ts true e hp hq = explain-as f true P (P or Q) p (choose_if f p q) ts (p ts) hp (λ t u h. inl h) e (λ l s. rw s refl)
explain-choose f P Q p q ts false e hp hq = explain-as f false Q (P or Q) q (choose_if f p q) ts (q ts) hq (λ t u h. inr h) e (λ l s. rw s refl)

pub exact-choose : {T : Type 0} (P Q : Rule T) (f e e' g : Token → Bool) (p q : Parser T) →
    Exact P e p → Exact Q e' q →
    ((t : T) (u w : Tokens) → P t u → sees_if f (u ++ w) ≡ true) →
    ((t : T) (u w : Tokens) → Q t u → Stops g w → sees_if f (u ++ w) ≡ false) →
    ((w : Tokens) → Stops g w → Stops e w × Stops e' w) →
    Exact (P or Q) g (choose_if f p q)
exact-choose P Q f e e' g p q hp hq first other sub = record {
  explains = λ ts. explain-choose f P Q p q ts (sees_if f ts) refl (hp.explains ts) (hq.explains ts);
  complete = λ t u v h s. elim h [
    | inl k ↦ rw (first t u v k) (hp.complete t u v k (sub v s).0)
    | inr k ↦ rw (other t u v k s) (hq.complete t u v k (sub v s).1)
  ];
}

-- ANY NUMBER OF TIMES

module _ {A : Type 0} (S : A → Rule A) (f : A → Token → Bool) (e g : Token → Bool) (step : A → Parser A) where
  pub record IsStep : Type 0 where
    pub explains : (x : A) (ts : Tokens) → sees_if (f x) ts ≡ true → Explains (S x) (step x) ts (step x ts)
    pub complete : (x y : A) (u v : Tokens) → S x y u → Stops e v → step x (u ++ v) ≡ Ok (y, v)
    -- each turn begins with a token of f
    pub begins : (x y : A) (u w : Tokens) → S x y u → sees_if (f x) (u ++ w) ≡ true
    pub apart : (x : A) (w : Tokens) → sees_if (f x) w ≡ true → Stops e w
    pub stops : (x : A) (w : Tokens) → Stops g w → (sees_if (f x) w ≡ false) × Stops e w

  nonempty : (h : IsStep) (x y : A) (u : Tokens) → S x y u → 0 < length u
  nonempty h x y [] k = absurd (let n : sees_if (f x) [] ≡ true = h.begins x y [] [] k in cc)
  nonempty h x y (t ∷ u) k = omega arith

  shorter : (h : IsStep) (x : A) (ts : Tokens) (y : A × Tokens) → sees_if (f x) ts ≡ true → step x ts ≡ Ok y → length y.1 < length ts
  shorter h x ts y b s =
      let k : Explains (S x) (step x) ts (Ok y) = subst (λ (o : Outcome A). Explains (S x) (step x) ts o) s (h.explains x ts b) in
      let n = nonempty h x y.0 k.front k.spelled in
      let l : length ts ≡ length (k.front ++ y.1) = ap length k.parts in
      omega (arith, l, length-append k.front y.1, n)

  and-then-same : (o : Outcome A) (p q : A → Parser A) → ((x : A × Tokens) → o ≡ Ok x → p x.0 x.1 ≡ q x.0 x.1) → and_then o p ≡ and_then o q
  and-then-same (Ok x) p q k = k x refl
  and-then-same (Err r) p q k = refl

  cond-same : (b : Bool) (o o' r : Outcome A) → (b ≡ true → o ≡ o') → cond b o r ≡ cond b o' r
  cond-same true o o' r k = k refl
  cond-same false o o' r k = refl

  -- turns enough are as good as more
  turns-enough : (h : IsStep) (n m : ℕ) (x : A) (ts : Tokens) → length ts ≤ n → length ts ≤ m → turns n f step x ts ≡ turns m f step x ts
  unfolding turns
  turns-enough h zero zero x ts a b = refl
  turns-enough h zero (suc m) x [] a b = refl
  turns-enough h zero (suc m) x (t ∷ ts) a b = absurd (omega arith)
  turns-enough h (suc n) zero x [] a b = refl
  turns-enough h (suc n) zero x (t ∷ ts) a b = absurd (omega arith)
  turns-enough h (suc n) (suc m) x ts a b =
      cond-same (sees_if (f x) ts) (and_then (step x ts) (turns n f step)) (and_then (step x ts) (turns m f step)) (Ok (x, ts))
      (λ seen. and-then-same (step x ts) (turns n f step) (turns m f step)
      (λ y s. let lt = shorter h x ts y seen s in turns-enough h n m y.0 y.1 (omega arith) (omega arith)))

  loop-unfold : (h : IsStep) (x : A) (ts : Tokens) → loop f step x ts ≡ choose_if (f x) (step x >>= loop f step) (pure x) ts
  unfolding turns
  loop-unfold h x ts =
      turns-enough h (length ts) (suc (length ts)) x ts (omega arith) (omega arith)
      ∙ cond-same (sees_if (f x) ts) (and_then (step x ts) (turns (length ts) f step)) (and_then (step x ts) (loop f step)) (Ok (x, ts))
      (λ seen. and-then-same (step x ts) (turns (length ts) f step) (loop f step)
      (λ y s. let lt = shorter h x ts y seen s in turns-enough h (length ts) (length y.1) y.0 y.1 (omega arith) (omega arith)))

  none : (x y : A) (u : Tokens) → give x y u → repeat S x y u
  none x y u k = (0, k)

  more : (x y : A) (u : Tokens) → Then (S x) (repeat S) y u → repeat S x y u
  more x y u k = (suc k.goes_on.0, record { first = k.first; front = k.front; back = k.back; parts = k.parts; begins = k.begins; goes_on = k.goes_on.1 })

  explain-loop-at : (h : IsStep) (n : ℕ) (x : A) (ts : Tokens) → length ts ≤ n → (b : Bool) → sees_if (f x) ts ≡ b → Explains (repeat S x) (loop f step x) ts (cond b (and_then (step x ts) (loop f step)) (Ok (x, ts)))
  explain-loop-at h n x ts below false eq =
      explain-as (f x) false (give x) (repeat S x) (pure x) (loop f step x) ts (Ok (x, ts)) ((exact-give x e).explains ts) (none x) eq (λ l s. loop-unfold h x l ∙ rw s refl)
  explain-loop-at h zero x [] below true eq = absurd cc
  explain-loop-at h zero x (t ∷ ts) below true eq = absurd (omega arith)
  explain-loop-at h (suc n) x ts below true eq =
      explain-as (f x) true (Then (S x) (repeat S)) (repeat S x) (step x >>= loop f step) (loop f step x) ts (and_then (step x ts) (loop f step))
      (explain-then (S x) (repeat S) (step x) (loop f step) ts (step x ts) (h.explains x ts eq)
      (λ y rest s.
      let lt = shorter h x ts (y, rest) eq s in
      subst (λ (o : Outcome A). Explains (repeat S y) (loop f step y) rest o) (sym (loop-unfold h y rest))
      (explain-loop-at h n y rest (omega arith) (sees_if (f y) rest) refl))
      (λ y u k. record { tree = y; tokens = []; spelled = (0, (refl, refl)) }))
      (more x) eq (λ l s. loop-unfold h x l ∙ rw s refl)

  after-turn : (h : IsStep) (n : ℕ) (x y : A) (u v : Tokens) → times n S x y u → Stops g v → Stops e (u ++ v)
  after-turn h zero x y u v k s = rw (k.1) ((h.stops x v s).1)
  after-turn h (suc n) x y u v k s = rw (k.parts, append_assoc k.front k.back v) (h.apart x (k.front ++ (k.back ++ v)) (h.begins x k.first k.front (k.back ++ v) k.begins))

  complete-loop : (h : IsStep) (n : ℕ) (x y : A) (u v : Tokens) → times n S x y u → Stops g v → loop f step x (u ++ v) ≡ Ok (y, v)
  complete-loop h zero x y u v k s = loop-unfold h x (u ++ v) ∙ rw (k.0, k.1, (h.stops x v s).0) refl
  complete-loop h (suc n) x y u v k s =
      let seen = h.begins x k.first k.front (k.back ++ v) k.begins in
      let after : Stops e (k.back ++ v) = after-turn h n k.first y k.back v k.goes_on s in
      loop-unfold h x (u ++ v)
      ∙ rw (k.parts, append_assoc k.front k.back v, seen)
      (ap (λ (o : Outcome A). and_then o (loop f step)) (h.complete x k.first k.front (k.back ++ v) k.begins after)
      ∙ complete-loop h n k.first y k.back v k.goes_on s)

  pub exact-loop : (h : IsStep) (x : A) → Exact (repeat S x) g (loop f step x)
  exact-loop h x = record {
    explains = λ ts. subst (λ (o : Outcome A). Explains (repeat S x) (loop f step x) ts o) (sym (loop-unfold h x ts)) (explain-loop-at h (length ts) x ts (omega arith) (sees_if (f x) ts) refl);
    complete = λ y u v k s. complete-loop h k.0 x y u v k.1 s;
  }

-- WHERE A LIMIT ALLOWS IT

pub explain-none : {T : Type 0} (P Q : Rule T) (f : Token → Bool) (e : Token → Bool) (p q : Parser T) → Exact Q e q → Exact (only false P or Q) e (choose_if (guarded false f) p q)
explain-none P Q f e p q h = record {
  explains = λ ts.
      let k = h.explains ts in
      let c : choose_if (guarded false f) p q ts ≡ q ts = same ts in
      subst (λ (o : Outcome _). Explains (only false P or Q) (choose_if (guarded false f) p q) ts o) (sym c)
      (record { front = k.front; parts = k.parts; spelled = widen-spelled Q (only false P or Q) (λ t u h. inr h) (q ts) k.front k.spelled; local = λ more s. same (k.front ++ more) ∙ k.local more s });
  complete = λ t u v k s. elim k [
    | inl l ↦ absurd (let n : false ≡ true = l.0 in cc)
    | inr r ↦ same (u ++ v) ∙ h.complete t u v r s
  ];
} where
  same : (l : Tokens) → choose_if (guarded false f) p q l ≡ q l
  same [] = refl
  same (t ∷ l) = refl

pub exact-wider : {T : Type 0} {P : Rule T} {p : Parser T} (e g : Token → Bool) → ((w : Tokens) → Stops g w → Stops e w) → Exact P e p → Exact P g p
exact-wider e g k h = record { explains = h.explains; complete = λ t u v q s. h.complete t u v q (k v s) }

-- the same parser and the same rule, written otherwise
pub exact-same : {T : Type 0} (P Q : Rule T) (e : Token → Bool) (p q : Parser T) → ((t : T) (u : Tokens) → P t u → Q t u) → ((t : T) (u : Tokens) → Q t u → P t u) → ((l : Tokens) → q l ≡ p l) → Exact P e p → Exact Q e q
exact-same P Q e p q there back same h = record {
  explains = λ ts.
      let k = h.explains ts in
      subst (λ (o : Outcome _). Explains Q q ts o) (sym (same ts))
      (record { front = k.front; parts = k.parts; spelled = widen-spelled P Q there (p ts) k.front k.spelled; local = λ more s. same (k.front ++ more) ∙ k.local more s });
  complete = λ t u v k s. same (u ++ v) ∙ h.complete t u v (back t u k) s;
}
