-- How many parentheses are open where a rule is read.
use Rattle.std.proofs.Common.{◌≡◌, ℕ, zero, suc, ◌+◌, ◌≤◌, Bool, true, false, cond, [], ◌∷◌, ◌++◌, refl, sym, ap, ◌∙◌, ◌⊎◌, inl, inr, arith}
use Rattle.std.specs.List.{count_by}
use Rattle.std.proofs.lemmas.List.Sums.{sum_by-append}
use Rattle.pg_lex.specs.declared.token.Token.{Token}
use Rattle.pg_ast.specs.Words.Terminals.{Terminal, Tokens, AName, is_among, matches}
use Rattle.pg_ast.specs.Grammar.Rule.{Rule, Then, give, the, ◌or◌, times, repeat, only}
use Rattle.pg_ast.specs.Grammar.Names as grammar
use Rattle.pg_ast.specs.Words.Names.{opening, close}
use Rattle.pg_ast.specs.Grammar.Limits.{AtMostOpen}
use Rattle.pg_grammar.specs.Kit.Sets.{any, any-parts, disjoint, disjoint-sound}

abbrev opened : Tokens → ℕ
opened ts = count_by (matches opening) ts

abbrev closed : Tokens → ℕ
closed ts = count_by (matches close) ts

-- as many are closed as opened, and at no place more than d are open
pub record Nested (d : ℕ) (ts : Tokens) : Type 0 where
  pub balanced : opened ts ≡ closed ts
  pub within : AtMostOpen d ts

-- COUNTS

any-first : (t : Token) → any (opening ∷ close ∷ []) t ≡ false → matches opening t ≡ false
any-first t e = (any-parts (opening ∷ []) (close ∷ []) t e).0

any-second : (t : Token) → any (opening ∷ close ∷ []) t ≡ false → matches close t ≡ false
any-second t e = (any-parts (opening ∷ []) (close ∷ []) t e).1

-- the token after u, or nothing
nested-last : (front back : Tokens) → {c : Token} → c ∷ [] ≡ front ++ back → matches opening c ≡ false → opened front ≡ 0
nested-last [] back e n = refl
nested-last (x ∷ []) back {c} e n = let same : c ≡ x = cc in rw (← same, n) refl
nested-last (x ∷ y ∷ front) back e n = absurd cc

count-append : (f : Token → Bool) (u v : Tokens) → count_by f (u ++ v) ≡ count_by f u + count_by f v
count-append f u v = sum_by-append (λ t. cond (f t) 1 0) u v

-- where a front of u ++ v ends
split : (u v front back : Tokens) → u ++ v ≡ front ++ back → ((w : Tokens) × (u ≡ front ++ w)) ⊎ ((w : Tokens) × (front ≡ u ++ w) × (v ≡ w ++ back))
split [] v front back e = inr (front, refl, e)
split (x ∷ u) v [] back e = inl (x ∷ u, refl)
split (x ∷ u) v (y ∷ front) back e =
    let head : x ≡ y = cc in
    let tail : u ++ v ≡ front ++ back = cc in
    elim (split u v front back tail) [
      | inl k ↦ inl (k.0, rw (head, k.1) refl)
      | inr k ↦ inr (k.0, rw (head, k.1) refl, k.2)
    ]

-- LISTS

pub nested-append : (d : ℕ) (u v : Tokens) → Nested d u → Nested d v → Nested d (u ++ v)
nested-append d u v a b = record {
  balanced = count-append (matches opening) u v ∙ rw (a.balanced, b.balanced) (sym (count-append (matches close) u v));
  within = λ front back e. elim (split u v front back e) [
    | inl k ↦ a.within front k.0 k.1
    | inr k ↦
        let o = ap opened k.1 ∙ count-append (matches opening) u k.0 in
        let c = ap closed k.1 ∙ count-append (matches close) u k.0 in
        let l = b.within k.0 back k.2 in
        let s = a.balanced in
        omega (arith, o, c, l, s)
  ];
}

pub nested-none : (d : ℕ) → Nested d []
nested-none d = record {
  balanced = refl;
  within = λ front back e. empty front back e;
} where
  empty : (front back : Tokens) → [] ≡ front ++ back → opened front ≤ closed front + d
  empty [] back e = omega arith
  empty (t ∷ front) back e = absurd cc

-- a token that is no parenthesis
pub nested-token : (d : ℕ) (t : Token) → matches opening t ≡ false → matches close t ≡ false → Nested d (t ∷ [])
nested-token d t o c = record {
  balanced = rw (o, c) refl;
  within = λ front back e. alone front back e;
} where
  alone : (front back : Tokens) → t ∷ [] ≡ front ++ back → opened front ≤ closed front + d
  alone [] back e = omega arith
  alone (x ∷ []) back e = let same : t ≡ x = cc in rw (← same, o) (omega arith)
  alone (x ∷ y ∷ front) back e = absurd cc

count-one : (f : Token → Bool) (t : Token) (b : Bool) → f t ≡ b → count_by f (t ∷ []) ≡ cond b 1 0
count-one f t true e = rw e refl
count-one f t false e = rw e refl

count-first : (f : Token → Bool) (t : Token) (ts : Tokens) (b : Bool) → f t ≡ b → count_by f (t ∷ ts) ≡ cond b 1 0 + count_by f ts
count-first f t ts b e = count-append f (t ∷ []) ts ∙ ap (λ n. n + count_by f ts) (count-one f t b e)

-- one more is open inside
pub nested-paren : (d : ℕ) (t : Token) (u : Tokens) (c : Token) → matches opening t ≡ true → matches close c ≡ true → Nested d u → Nested (suc d) (t ∷ (u ++ c ∷ []))
nested-paren d t u c o e h =
    let t-closes : matches close t ≡ false = disjoint-sound (opening ∷ []) (close ∷ []) t refl o in
    let c-opens : matches opening c ≡ false = disjoint-sound (close ∷ []) (opening ∷ []) c refl e in
    let o1 = count-first (matches opening) t (u ++ c ∷ []) true o in
    let o2 = count-append (matches opening) u (c ∷ []) in
    let o3 = count-one (matches opening) c false c-opens in
    let c1 = count-first (matches close) t (u ++ c ∷ []) false t-closes in
    let c2 = count-append (matches close) u (c ∷ []) in
    let c3 = count-one (matches close) c true e in
    record {
      balanced = (let b = h.balanced in omega (arith, o1, o2, o3, c1, c2, c3, b));
      within = λ front back s. fronts front back s t-closes c-opens;
    } where
      inside : (front back : Tokens) → u ++ c ∷ [] ≡ front ++ back → matches opening c ≡ false → opened front ≤ closed front + d
      inside front back s n = elim (split u (c ∷ []) front back s) [
        | inl k ↦ h.within front k.0 k.1
        | inr k ↦
            let last = nested-last k.0 back k.2 n in
            let a = ap opened k.1 ∙ count-append (matches opening) u k.0 in
            let b = ap closed k.1 ∙ count-append (matches close) u k.0 in
            let g = h.balanced in
            omega (arith, last, a, b, g)
      ]

      fronts : (front back : Tokens) → t ∷ (u ++ c ∷ []) ≡ front ++ back → matches close t ≡ false → matches opening c ≡ false → opened front ≤ closed front + suc d
      fronts [] back s n m = omega arith
      fronts (x ∷ front) back s n m =
          let same : t ≡ x = cc in
          let rest : u ++ c ∷ [] ≡ front ++ back = cc in
          let i = inside front back rest m in
          let a = count-first (matches opening) x front true (ap (matches opening) (sym same) ∙ o) in
          let b = count-first (matches close) x front false (ap (matches close) (sym same) ∙ n) in
          omega (arith, i, a, b)

pub nested-more : (d : ℕ) (u : Tokens) → Nested d u → Nested (suc d) u
nested-more d u h = record { balanced = h.balanced; within = λ front back e. (let l = h.within front back e in omega (arith, l)) }

-- RULES

-- all that the rule reads is nested so
abbrev pub Nests : {T : Type 0} → ℕ → Rule T → Type 0
Nests d P = (t : _) (u : Tokens) → P t u → Nested d u

pub nests-give : {T : Type 0} (d : ℕ) (x : T) → Nests d (give x)
nests-give d x t u h = rw h.1 (nested-none d)

pub nests-the : (d : ℕ) (p : Terminal) → disjoint (p ∷ []) (opening ∷ close ∷ []) ≡ true → Nests d (the p)
nests-the d p e t u h = rw h.0 (nested-token d t (any-first t (disjoint-sound (p ∷ []) (opening ∷ close ∷ []) t e h.1)) (any-second t (disjoint-sound (p ∷ []) (opening ∷ close ∷ []) t e h.1)))

pub nests-then : {A B : Type 0} {P : Rule A} {Q : A → Rule B} (d : ℕ) → Nests d P → ((x : A) → Nests d (Q x)) → Nests d (Then P Q)
nests-then d p q t u h = rw h.parts (nested-append d h.front h.back (p h.first h.front h.begins) (q h.first t h.back h.goes_on))

pub nests-or : {T : Type 0} {P Q : Rule T} (d : ℕ) → Nests d P → Nests d Q → Nests d (P or Q)
nests-or d p q t u h = elim h [ inl k ↦ p t u k | inr k ↦ q t u k ]

pub nests-only : {T : Type 0} {P : Rule T} (d : ℕ) (ok : Bool) → Nests d P → Nests d (only ok P)
nests-only d ok p t u h = p t u h.1

nests-times : {A : Type 0} (S : A → Rule A) (d : ℕ) → ((x : A) → Nests d (S x)) → (n : ℕ) (x : A) → Nests d (times n S x)
nests-times S d s zero x t u h = rw h.1 (nested-none d)
nests-times S d s (suc n) x t u h = rw h.parts (nested-append d h.front h.back (s x h.first h.front h.begins) (nests-times S d s n h.first t h.back h.goes_on))

pub nests-repeat : {A : Type 0} (S : A → Rule A) (d : ℕ) → ((x : A) → Nests d (S x)) → (x : A) → Nests d (repeat S x)
nests-repeat S d s x t u h = nests-times S d s h.0 x t u h.1

pub nests-more : {T : Type 0} {P : Rule T} (d : ℕ) → Nests d P → Nests (suc d) P
nests-more d p t u h = nested-more d u (p t u h)

-- '(' P ')'
pub nests-paren : {A B : Type 0} {P : Rule A} (f : A → B) (d : ℕ) → Nests d P → Nests (suc d) (Then (the opening) (λ _. Then P (λ x. Then (the close) (λ _. give (f x)))))
nests-paren f d p t u h =
    let inner = h.goes_on in
    let end = inner.goes_on in
    rw (h.parts, h.begins.0, inner.parts, end.parts, end.begins.0, end.goes_on.1)
    (nested-paren d h.first inner.front end.first h.begins.1 end.begins.1 (p inner.first inner.front inner.begins))

pub nests-name : (d : ℕ) → Nests d grammar.name
unfolding is_among
nests-name d = nests-then d (nests-the d AName refl) (λ t. nests-give d _)
