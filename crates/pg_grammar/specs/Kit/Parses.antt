-- A parser of a rule, with the tokens at which the rule begins and goes on.
use Rattle.std.proofs.Common.{◌≡◌, ℕ, zero, suc, Bool, true, false, List, [], ◌∷◌, ◌++◌, Ok, Err, refl, sym, ap, ◌∙◌, inl, inr}
use Rattle.std.specs.Prelude.{◌&&◌}
use Rattle.pg_lex.specs.declared.token.Token.{Token}
use Rattle.pg_ast.specs.Words.Terminals.{Terminal, matches, is_ordinary, Tokens, Inner}
use Rattle.pg_grammar.specs.Kit.Reading.{Outcome, Parser, pure, eat, sees_if, choose_if, loop, guarded, ◌>>=◌}
use Rattle.pg_ast.specs.Grammar.Rule.{Rule, Then, give, the, ◌or◌, times, repeat, only}
use Rattle.pg_grammar.specs.Kit.Sets.{any, any-parts, any-left, any-right, disjoint, disjoint-sound, within, within-none, within-some}
use Rattle.pg_grammar.specs.Kit.{Stops, Exact, exact-give, exact-one, exact-then, exact-choose, exact-loop, Some, explain-none, exact-wider, exact-same, widen-spelled}

Inner-append : (u v : Tokens) → Inner u → Inner v → Inner (u ++ v)
Inner-append [] v a b = b
Inner-append (t ∷ u) v a b = (a.0, Inner-append u v a.1 b)

abbrev pub Begins : List Terminal → Bool → Tokens → Type 0
Begins first empty [] = empty ≡ true
Begins first empty (t ∷ ts) = any first t ≡ true

pub record Parses {T : Type 0} (P : Rule T) (p : Parser T) (first goes_on : List Terminal) (empty : Bool) : Type 0 where
  -- p reads P, where no token of goes_on follows
  pub exact : Exact P (any goes_on) p
  pub begins : (t : T) (u : Tokens) → P t u → Begins first empty u
  pub inner : (t : T) (u : Tokens) → P t u → Inner u
  pub some : Some P

pub Stops-parts : (a b : List Terminal) (w : Tokens) → Stops (any (a ++ b)) w → Stops (any a) w × Stops (any b) w
Stops-parts a b [] s = (tt, tt)
Stops-parts a b (t ∷ w) s = any-parts a b t s

tree_or : {T : Type 0} → T → Outcome T → T
tree_or d (Ok x) = x.0
tree_or d (Err r) = d

-- a list of tokens is at most one tree
pub one_tree : {T : Type 0} {P : Rule T} {p : Parser T} {f e : List Terminal} {n : Bool} → Parses P p f e n → (x y : T) (u : Tokens) → P x u → P y u → x ≡ y
unfolding tree_or
one_tree h x y u a b = ap (tree_or x) (sym (h.exact.complete x u [] a tt) ∙ h.exact.complete y u [] b tt)

-- GIVE

pub parses-give : {T : Type 0} (x : T) → Parses (give x) (pure x) [] [] true
parses-give x = record {
  exact = exact-give x (any []);
  begins = λ t u h. rw (h.1) refl;
  inner = λ t u h. rw (h.1) tt;
  some = record { tree = x; tokens = []; spelled = (refl, refl) };
}

-- A TOKEN

-- a token that meets the pattern, and that the pattern is met by no End or Bad
pub record IsInner (p : Terminal) : Type 0 where
  pub token : Token
  pub meets : matches p token ≡ true
  pub inner : (t : Token) → matches p t ≡ true → is_ordinary t.kind ≡ true

pub parses-the : (p : Terminal) → IsInner p → Parses (the p) (eat p) (p ∷ []) [] false
parses-the p k = record {
  exact = exact-one (matches p) (any []) (record { tree = k.token; tokens = k.token ∷ []; spelled = (refl, k.meets) });
  begins = λ t u h. rw (h.0) h.1;
  inner = λ t u h. rw (h.0) (k.inner t h.1, tt);
  some = record { tree = k.token; tokens = k.token ∷ []; spelled = (refl, k.meets) };
}

-- ONE AFTER THE OTHER

abbrev pub also : Bool → List Terminal → List Terminal → List Terminal
also true a b = a ++ b
also false a b = a

begins-then : (f f' : List Terminal) (n n' : Bool) (u v : Tokens) → Begins f n u → Begins f' n' v → Begins (also n f f') (n && n') (u ++ v)
begins-then f f' true n' [] [] a b = b
begins-then f f' true n' [] (t ∷ v) a b = any-right f f' t b
begins-then f f' true n' (t ∷ u) v a b = any-left f f' t a
begins-then f f' false n' [] v a b = absurd cc
begins-then f f' false n' (t ∷ u) v a b = a

-- what Q begins with, or what follows it where it may be empty, doesn't go on with P
apart-then : (f' e e' : List Terminal) (n' : Bool) (v w : Tokens) → disjoint f' e ≡ true → Begins f' n' v → Stops (any (also n' e' e)) w → Stops (any e) (v ++ w)
apart-then f' e e' true [] w d b s = (Stops-parts e' e w s).1
apart-then f' e e' false [] w d b s = absurd cc
apart-then f' e e' n' (t ∷ v) w d b s = disjoint-sound f' e t d b

sub-then : (e e' : List Terminal) (n' : Bool) (w : Tokens) → Stops (any (also n' e' e)) w → Stops (any e') w
sub-then e e' true w s = (Stops-parts e' e w s).0
sub-then e e' false w s = s

pub parses-then : {A B : Type 0} {P : Rule A} {Q : A → Rule B} {p : Parser A} {q : A → Parser B} {f e f' e' : List Terminal} {n n' : Bool} →
    Parses P p f e n → ((x : A) → Parses (Q x) (q x) f' e' n') → disjoint f' e ≡ true →
    Parses (Then P Q) (p >>= q) (also n f f') (also n' e' e) (n && n')
parses-then {P = P} {Q = Q} {p = p} {q = q} {f = f} {e = e} {f' = f'} {e' = e'} {n = n} {n' = n'} hp hq d = record {
  exact = exact-then P Q (any e) (any e') (any (also n' e' e)) p q hp.exact (λ x. (hq x).exact) (λ x u h. (hq x).some)
      (λ x y v w h s. apart-then f' e e' n' v w d ((hq x).begins y v h) s)
      (λ w s. sub-then e e' n' w s);
  begins = λ y u h. rw (h.parts) (begins-then f f' n n' h.front h.back (hp.begins h.first h.front h.begins) ((hq h.first).begins y h.back h.goes_on));
  inner = λ y u h. rw (h.parts) (Inner-append h.front h.back (hp.inner h.first h.front h.begins) ((hq h.first).inner y h.back h.goes_on));
  some =
      let s = hp.some in
      let r = (hq s.tree).some in
      record { tree = r.tree; tokens = s.tokens ++ r.tokens; spelled = record { first = s.tree; front = s.tokens; back = r.tokens; parts = refl; begins = s.spelled; goes_on = r.spelled } };
}

-- A CHOICE

begins-sees : (f : List Terminal) (u w : Tokens) → Begins f false u → sees_if (any f) (u ++ w) ≡ true
begins-sees f [] w b = absurd cc
begins-sees f (t ∷ u) w b = b

other-sees : (f f' e' : List Terminal) (n' : Bool) (u w : Tokens) → disjoint f' f ≡ true → Begins f' n' u → Stops (any (also n' e' f)) w → sees_if (any f) (u ++ w) ≡ false
other-sees f f' e' true [] [] d b s = refl
other-sees f f' e' true [] (t ∷ w) d b s = (any-parts e' f t s).1
other-sees f f' e' false [] w d b s = absurd cc
other-sees f f' e' n' (t ∷ u) w d b s = disjoint-sound f' f t d b

pub begins-or-left : (f f' : List Terminal) (n' : Bool) (u : Tokens) → Begins f false u → Begins (f ++ f') n' u
begins-or-left f f' n' [] b = absurd cc
begins-or-left f f' n' (t ∷ u) b = any-left f f' t b

pub begins-or-right : (f f' : List Terminal) (n' : Bool) (u : Tokens) → Begins f' n' u → Begins (f ++ f') n' u
begins-or-right f f' n' [] b = b
begins-or-right f f' n' (t ∷ u) b = any-right f f' t b

pub parses-or : {T : Type 0} {P Q : Rule T} {p q : Parser T} {f e f' e' : List Terminal} {n' : Bool} →
    Parses P p f e false → Parses Q q f' e' n' → disjoint f' f ≡ true →
    Parses (P or Q) (choose_if (any f) p q) (f ++ f') (e ++ also n' e' f) n'
parses-or {P = P} {Q = Q} {p = p} {q = q} {f = f} {e = e} {f' = f'} {e' = e'} {n' = n'} hp hq d = record {
  exact = exact-choose P Q (any f) (any e) (any e') (any (e ++ also n' e' f)) p q hp.exact hq.exact
      (λ t u w h. begins-sees f u w (hp.begins t u h))
      (λ t u w h s. other-sees f f' e' n' u w d (hq.begins t u h) ((Stops-parts e (also n' e' f) w s).1))
      (λ w s. let c = Stops-parts e (also n' e' f) w s in (c.0, sub-then f e' n' w c.1));
  begins = λ t u h. elim h [
    | inl k ↦ begins-or-left f f' n' u (hp.begins t u k)
    | inr k ↦ begins-or-right f f' n' u (hq.begins t u k)
  ];
  inner = λ t u h. elim h [ inl k ↦ hp.inner t u k | inr k ↦ hq.inner t u k ];
  some = let s = hp.some in record { tree = s.tree; tokens = s.tokens; spelled = inl s.spelled };
}

-- A CHOICE THAT A LIMIT MAY FORBID

guarded-true : {T : Type 0} (f : Token → Bool) (p q : Parser T) (l : Tokens) → choose_if (guarded true f) p q l ≡ choose_if f p q l
guarded-true f p q [] = refl
guarded-true f p q (t ∷ l) = refl

pub guarded-or : {T : Type 0} {P Q : Rule T} {p q : Parser T} {f e f' e' : List Terminal} {n' : Bool} (ok : Bool) →
    Parses P p f e false → Parses Q q f' e' n' → disjoint f' f ≡ true → Parses (only ok P or Q) (choose_if (guarded ok (any f)) p q) (f ++ f') (e ++ also n' e' f) n'
guarded-or {P = P} {Q = Q} {p = p} {q = q} {f = f} {e = e} {f' = f'} {e' = e'} {n' = n'} true hp hq d =
    let h = parses-or hp hq d in record {
      exact = exact-same (P or Q) (only true P or Q) (any (e ++ also n' e' f)) (choose_if (any f) p q) (choose_if (guarded true (any f)) p q)
          (λ t u k. elim k [ inl l ↦ inl (refl, l) | inr r ↦ inr r ])
          (λ t u k. elim k [ inl l ↦ inl l.1 | inr r ↦ inr r ])
          (λ l. guarded-true (any f) p q l) h.exact;
      begins = λ t u k. elim k [ inl l ↦ begins-or-left f f' n' u (hp.begins t u l.1) | inr r ↦ begins-or-right f f' n' u (hq.begins t u r) ];
      inner = λ t u k. elim k [ inl l ↦ hp.inner t u l.1 | inr r ↦ hq.inner t u r ];
      some = let s = hp.some in record { tree = s.tree; tokens = s.tokens; spelled = inl (refl, s.spelled) };
    }
guarded-or {P = P} {Q = Q} {p = p} {q = q} {f = f} {e = e} {f' = f'} {e' = e'} {n' = n'} false hp hq d = record {
  exact = exact-wider (any e') (any (e ++ also n' e' f)) (λ w s. sub-then f e' n' w (Stops-parts e (also n' e' f) w s).1) (explain-none P Q (any f) (any e') p q hq.exact);
  begins = λ t u k. elim k [ inl l ↦ absurd (let n : false ≡ true = l.0 in cc) | inr r ↦ begins-or-right f f' n' u (hq.begins t u r) ];
  inner = λ t u k. elim k [ inl l ↦ absurd (let n : false ≡ true = l.0 in cc) | inr r ↦ hq.inner t u r ];
  some = let s = hq.some in record { tree = s.tree; tokens = s.tokens; spelled = inr s.spelled };
}

-- more tokens than the rule begins with
pub parses-first : {T : Type 0} {P : Rule T} {p : Parser T} {f e : List Terminal} {n : Bool} (g : List Terminal) → Parses P p f e n → Parses P p (g ++ f) e n
parses-first {f = f} {n = n} g h = record { exact = h.exact; begins = λ t u k. begins-or-right g f n u (h.begins t u k); inner = h.inner; some = h.some }

-- more tokens than the rule goes on with
pub parses-goes-on : {T : Type 0} {P : Rule T} {p : Parser T} {f e : List Terminal} {n : Bool} (g : List Terminal) → Parses P p f e n → Parses P p f (g ++ e) n
parses-goes-on {e = e} g h = record { exact = exact-wider (any e) (any (g ++ e)) (λ w s. (Stops-parts g e w s).1) h.exact; begins = h.begins; inner = h.inner; some = h.some }

-- the sets written otherwise, or larger
pub parses-sized : {T : Type 0} {P : Rule T} {p : Parser T} {f e : List Terminal} {n : Bool} (f' e' : List Terminal) → Parses P p f e n → within f f' ≡ true → within e e' ≡ true → Parses P p f' e' n
parses-sized {P = P} {f = f} {e = e} {n = n} f' e' h a b = record {
  exact = exact-wider (any e) (any e') (λ w s. fewer w s) h.exact;
  begins = λ t u k. more u (h.begins t u k);
  inner = h.inner;
  some = h.some;
} where
  fewer : (w : Tokens) → Stops (any e') w → Stops (any e) w
  fewer [] s = tt
  fewer (t ∷ w) s = within-none e e' t b s

  more : (u : Tokens) → Begins f n u → Begins f' n u
  more [] k = k
  more (t ∷ u) k = within-some f f' t a k

-- ANY NUMBER OF TIMES

begins-front : (f : List Terminal) (n : Bool) (u v : Tokens) → Begins f false u → Begins f n (u ++ v)
begins-front f n [] v b = absurd cc
begins-front f n (t ∷ u) v b = b

module _ {A : Type 0} (S : A → Rule A) (step : A → Parser A) (f e : List Terminal) where
  begins-times : ((x : A) → Parses (S x) (step x) f e false) → (n : ℕ) (x y : A) (u : Tokens) → times n S x y u → Begins f true u
  begins-times h zero x y u k = rw (k.1) refl
  begins-times h (suc n) x y u k = rw (k.parts) (begins-front f true k.front k.back ((h x).begins k.first k.front k.begins))

  inner-times : ((x : A) → Parses (S x) (step x) f e false) → (n : ℕ) (x y : A) (u : Tokens) → times n S x y u → Inner u
  inner-times h zero x y u k = rw (k.1) tt
  inner-times h (suc n) x y u k = rw (k.parts) (Inner-append k.front k.back ((h x).inner k.first k.front k.begins) (inner-times h n k.first y k.back k.goes_on))

  pub parses-loop-if : (ok : A → Bool) → ((x : A) → Parses (S x) (step x) f e false) → disjoint f e ≡ true → (x : A) → Parses (repeat (λ x. only (ok x) (S x)) x) (loop (λ x. guarded (ok x) (any f)) step x) f (f ++ e) true
  parses-loop-if ok h d x = record {
    exact = exact-loop (λ x. only (ok x) (S x)) (λ x. guarded (ok x) (any f)) (any e) (any (f ++ e)) step (record {
      explains = λ y ts b. let k = (h y).exact.explains ts in record { front = k.front; parts = k.parts; spelled = widen-spelled (S y) (only (ok y) (S y)) (λ t u s. (ok-where y ts b, s)) (step y ts) k.front k.spelled; local = k.local };
      complete = λ y z u v k s. (h y).exact.complete z u v k.1 s;
      begins = λ y z u w k. ok-sees y u w k.0 ((h y).begins z u k.1);
      apart = λ y w b. seen-apart y w b;
      stops = λ y w s. let c = Stops-parts f e w s in (unseen y w c.0, c.1);
    }) x;
    begins = λ y u k. begins-many k.0 x y u k.1;
    inner = λ y u k. inner-many k.0 x y u k.1;
    some = record { tree = x; tokens = []; spelled = (0, (refl, refl)) };
  } where
    and-left : (a b : Bool) → (a && b) ≡ true → a ≡ true
    and-left true b e = refl
    and-left false b e = absurd cc

    and-right : (a b : Bool) → (a && b) ≡ true → b ≡ true
    and-right true b e = e
    and-right false b e = absurd cc

    and-none : (a b : Bool) → b ≡ false → (a && b) ≡ false
    and-none true b e = e
    and-none false b e = refl

    ok-where : (y : A) (ts : Tokens) → sees_if (guarded (ok y) (any f)) ts ≡ true → ok y ≡ true
    ok-where y [] b = absurd cc
    ok-where y (t ∷ ts) b = and-left (ok y) (any f t) b

    ok-sees : (y : A) (u w : Tokens) → ok y ≡ true → Begins f false u → sees_if (guarded (ok y) (any f)) (u ++ w) ≡ true
    ok-sees y [] w o b = absurd cc
    ok-sees y (t ∷ u) w o b = rw (o, b) refl

    seen-apart : (y : A) (w : Tokens) → sees_if (guarded (ok y) (any f)) w ≡ true → Stops (any e) w
    seen-apart y [] b = tt
    seen-apart y (t ∷ w) b = disjoint-sound f e t d (and-right (ok y) (any f t) b)

    unseen : (y : A) (w : Tokens) → Stops (any f) w → sees_if (guarded (ok y) (any f)) w ≡ false
    unseen y [] s = refl
    unseen y (t ∷ w) s = and-none (ok y) (any f t) s

    begins-many : (n : ℕ) (x y : A) (u : Tokens) → times n (λ x. only (ok x) (S x)) x y u → Begins f true u
    begins-many zero x y u k = rw (k.1) refl
    begins-many (suc n) x y u k = rw (k.parts) (begins-front f true k.front k.back ((h x).begins k.first k.front k.begins.1))

    inner-many : (n : ℕ) (x y : A) (u : Tokens) → times n (λ x. only (ok x) (S x)) x y u → Inner u
    inner-many zero x y u k = rw (k.1) tt
    inner-many (suc n) x y u k = rw (k.parts) (Inner-append k.front k.back ((h x).inner k.first k.front k.begins.1) (inner-many n k.first y k.back k.goes_on))

  pub parses-loop : ((x : A) → Parses (S x) (step x) f e false) → disjoint f e ≡ true → (x : A) → Parses (repeat S x) (loop (λ _. any f) step x) f (f ++ e) true
  parses-loop h d x = record {
    exact = exact-loop S (λ _. any f) (any e) (any (f ++ e)) step (record {
      explains = λ y ts b. (h y).exact.explains ts;
      complete = λ y. (h y).exact.complete;
      begins = λ y z u w k. begins-sees f u w ((h y).begins z u k);
      apart = λ y w b. seen-apart w b;
      stops = λ y w s. let c = Stops-parts f e w s in (unseen w c.0, c.1);
    }) x;
    begins = λ y u k. begins-times h k.0 x y u k.1;
    inner = λ y u k. inner-times h k.0 x y u k.1;
    some = record { tree = x; tokens = []; spelled = (0, (refl, refl)) };
  } where
    seen-apart : (w : Tokens) → sees_if (any f) w ≡ true → Stops (any e) w
    seen-apart [] b = tt
    seen-apart (t ∷ w) b = disjoint-sound f e t d b

    unseen : (w : Tokens) → Stops (any f) w → sees_if (any f) w ≡ false
    unseen [] s = refl
    unseen (t ∷ w) s = s
