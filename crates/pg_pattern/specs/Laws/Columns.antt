-- The parser of columns reads its rule.
use Rattle.std.proofs.Common.{◌≡◌, ℕ, zero, suc, ◌-◌, Bool, true, false, Option, Some, None, List, [], ◌∷◌, ◌++◌, refl, sym, ap, subst, ◌∙◌, inl, inr, ◌⊎◌}
use Rattle.std.specs.Prelude.{codes, if◌then◌else◌}
use Rattle.std.proofs.lemmas.List.{append-nil}
use Rattle.pg_ast.specs.declared.counted.Scope.TheVariants.{Query as in_query}
use Rattle.pg_ast.specs.declared.counted.AggWord.{AggWord}
use Rattle.pg_ast.specs.declared.counted.CountedExpr.{CountedExpr}
use Rattle.pg_ast.specs.declared.counted.CountedWhole.{CountedWhole}
use Rattle.pg_ast.specs.declared.expr.Name.{Name}
use Rattle.pg_ast.specs.declared.expr.Whole.{Whole}
use Rattle.pg_ast.specs.declared.expr.Agg.{Agg}
use Rattle.pg_ast.specs.declared.expr.Agg.TheVariants as agg
use Rattle.pg_ast.specs.declared.expr.Expr.{Expr, Property}
use Rattle.pg_ast.specs.declared.pattern.ColumnItem.{ColumnItem}
use Rattle.pg_ast.specs.Words.Terminals.{Terminal, Tokens, place_of}
use Rattle.pg_ast.specs.Grammar.Rule.{Rule, Then, ◌>>=◌, give, the, ◌or◌, times, repeat}
use Rattle.pg_ast.specs.Grammar.Names.{name}
use Rattle.pg_ast.specs.Grammar.Exprs as expr
use Rattle.pg_ast.specs.Grammar.Queries as grammar
use Rattle.pg_ast.specs.Words.Patterns as word
use Rattle.pg_grammar.specs.Kit.Parses.{Parses, parses-give, parses-then, parses-or, parses-sized}
use Rattle.pg_grammar.specs.Kit.OneToken.{parses-word}
use Rattle.pg_grammar.specs.Laws.{parses-name}
use Rattle.pg_grammar.specs.Laws.Exprs.{parses-counted-whole, whole_first, whole_on}
use Rattle.pg_pattern.specs.Read as parser
use Rattle.pg_pattern.specs.Read.{property_name, own_name}
use Rattle.pg_pattern.specs.Laws.Rules.{parses-same, parses-maybe, again, from_left, from_right}

-- AN EXPRESSION IS PLAIN ONLY WHERE IT IS NAME '.' NAME

never-plain : (e : Expr) (k : ℕ) (x : CountedExpr) → x ≡ expr.counted e k → x.plain ≡ true → ⊥
never-plain e k x s p = let n : x.plain ≡ false = ap (λ (c : CountedExpr). c.plain) s in cc

-- rules whose trees are not plain, and rules whose plain trees are properties
abbrev NoPlain : Rule CountedExpr → Type 0
NoPlain P = (x : CountedExpr) (u : Tokens) → P x u → x.plain ≡ true → ⊥

abbrev PlainIsProperty : Rule CountedExpr → Type 0
PlainIsProperty P = (x : CountedExpr) (u : Tokens) → P x u → x.plain ≡ true → expr.property x.expr u

no-turn : (S : CountedExpr → Rule CountedExpr) → ((x : CountedExpr) → NoPlain (S x)) → (n : ℕ) (x y : CountedExpr) (u : Tokens) → times n S x y u → y.plain ≡ true → (y ≡ x) × (u ≡ [])
no-turn S never zero x y u h p = h
no-turn S never (suc n) x y u h p =
    let k = no-turn S never n h.first y h.back h.goes_on p in
    absurd (never x h.first h.front h.begins (ap (λ (c : CountedExpr). c.plain) (sym k.0) ∙ p))

alone : (P : Rule CountedExpr) (S : CountedExpr → Rule CountedExpr) → ((x : CountedExpr) → NoPlain (S x)) → PlainIsProperty P → PlainIsProperty (Then P (repeat S))
alone P S never own x u h p =
    let k = no-turn S never h.goes_on.0 h.first x h.back h.goes_on.1 p in
    let same : u ≡ h.front = h.parts ∙ ap (λ (l : Tokens). h.front ++ l) k.1 ∙ append-nil h.front in
    subst (λ (l : Tokens). expr.property x.expr l) (sym same)
    (subst (λ (c : CountedExpr). expr.property c.expr h.front) (sym k.0) (own h.first h.front h.begins (ap (λ (c : CountedExpr). c.plain) (sym k.0) ∙ p)))

module _ (P : ℕ → Rule CountedExpr) (own : (k : ℕ) → PlainIsProperty (P k)) where
  plain-unary : (k : ℕ) → PlainIsProperty (expr.unary P k)
  plain-unary zero x u h p = own zero x u h p
  plain-unary (suc k) x u h p = elim h [
    | inl m ↦ absurd (never-plain _ _ x m.goes_on.goes_on.0 p)
    | inr h ↦ own (suc k) x u h p
  ]

  plain-sum : (k : ℕ) → PlainIsProperty (expr.sum P k)
  plain-sum k =
      alone (expr.prod P k) _ (λ x y u h p. never-plain _ _ y h.1.goes_on.goes_on.0 p)
      (alone (expr.unary P k) _ (λ x y u h p. never-plain _ _ y h.1.goes_on.goes_on.0 p) (plain-unary k))

  never-null-test : (x : CountedExpr) → NoPlain (expr.null_test x)
  never-null-test x y u h p = elim h.goes_on [
    | inl m ↦ never-plain _ _ y m.goes_on.goes_on.0 p
    | inr m ↦ never-plain _ _ y m.goes_on.0 p
  ]

  plain-test : (k : ℕ) → PlainIsProperty (expr.test P k)
  plain-test k x u h p = elim h.goes_on [
    | inl m ↦ absurd (never-plain _ _ x m.1.goes_on.goes_on.0 p)
    | inr h' ↦ elim h' [
      | inl m ↦ absurd (never-null-test h.first x h.back m.1 p)
      | inr g ↦
          let same : u ≡ h.front = h.parts ∙ ap (λ (l : Tokens). h.front ++ l) g.1 ∙ append-nil h.front in
          subst (λ (l : Tokens). expr.property x.expr l) (sym same)
          (subst (λ (c : CountedExpr). expr.property c.expr h.front) (sym g.0) (plain-sum k h.first h.front h.begins (ap (λ (c : CountedExpr). c.plain) (sym g.0) ∙ p)))
    ]
  ]

  plain-neg : (k : ℕ) → PlainIsProperty (expr.neg P k)
  plain-neg zero x u h p = plain-test zero x u h p
  plain-neg (suc k) x u h p = elim h [
    | inl m ↦ absurd (never-plain _ _ x m.goes_on.goes_on.0 p)
    | inr h ↦ plain-test (suc k) x u h p
  ]

  plain-any-of : (k : ℕ) → PlainIsProperty (expr.any_of P k)
  plain-any-of k =
      alone (expr.conj P k) _ (λ x y u h p. never-plain _ _ y h.1.goes_on.goes_on.0 p)
      (alone (expr.neg P k) _ (λ x y u h p. never-plain _ _ y h.1.goes_on.goes_on.0 p) (plain-neg k))

  never-of-expr : (a : AggWord) (k : ℕ) → NoPlain (expr.of_expr P a k)
  never-of-expr a k x u h p = never-plain _ _ x h.goes_on.goes_on.0 p

  never-argument : (g : Agg) (a : AggWord) (k : ℕ) → NoPlain (expr.argument P g a k)
  never-argument agg.Count a k x u h p = elim h [
    | inl v ↦ never-plain _ _ x v.goes_on.goes_on.0 p
    | inr h ↦ never-of-expr a k x u h p
  ]
  never-argument agg.Sum a k x u h p = never-of-expr a k x u h p
  never-argument agg.Min a k x u h p = never-of-expr a k x u h p
  never-argument agg.Max a k x u h p = never-of-expr a k x u h p

plain-base : (k : ℕ) → PlainIsProperty (expr.base in_query k)
plain-base k x u h p = elim h [
  | inl m ↦
      let same : u ≡ m.front = m.parts ∙ ap (λ (l : Tokens). m.front ++ l) m.goes_on.1 ∙ append-nil m.front in
      let e : x.expr ≡ m.first = ap (λ (c : CountedExpr). c.expr) m.goes_on.0 in
      subst (λ (l : Tokens). expr.property x.expr l) (sym same) (subst (λ (e : Expr). expr.property e m.front) (sym e) m.begins)
  | inr m ↦ absurd (never-plain _ _ x m.goes_on.0 p)
]

plain-primary : (depth k : ℕ) → PlainIsProperty (expr.primary in_query depth k)
unfolding expr.primary
plain-primary zero k x u h p = plain-base k x u h p
plain-primary (suc depth) k x u h p = elim h [
  | inl m ↦ absurd (never-plain _ _ x m.goes_on.goes_on.goes_on.0 p)
  | inr h ↦ elim h [
    | inl a ↦ absurd (never-argument (expr.primary in_query depth) (plain-primary depth) a.1.first.agg a.1.first (k - 1) x a.1.goes_on.back a.1.goes_on.goes_on p)
    | inr b ↦ plain-base k x u b p
  ]
]

-- AND NAME '.' NAME IS A PLAIN EXPRESSION

once : {A : Type 0} {P : Rule A} {S : A → Rule A} {x : A} {u : Tokens} → P x u → Then P (repeat S) x u
once {x = x} {u = u} h = record { first = x; front = u; back = []; parts = sym (append-nil u); begins = h; goes_on = (0, (refl, refl)) }

module _ (P : ℕ → Rule CountedExpr) where
  in-unary : (k : ℕ) (x : CountedExpr) (u : Tokens) → P k x u → expr.unary P k x u
  in-unary zero x u h = h
  in-unary (suc k) x u h = inr h

  in-test : (k : ℕ) (x : CountedExpr) (u : Tokens) → P k x u → expr.test P k x u
  in-test k x u h = record { first = x; front = u; back = []; parts = sym (append-nil u); begins = once (once (in-unary k x u h)); goes_on = inr (inr (refl, refl)) }

  in-neg : (k : ℕ) (x : CountedExpr) (u : Tokens) → P k x u → expr.neg P k x u
  in-neg zero x u h = in-test zero x u h
  in-neg (suc k) x u h = inr (in-test (suc k) x u h)

  in-any-of : (k : ℕ) (x : CountedExpr) (u : Tokens) → P k x u → expr.any_of P k x u
  in-any-of k x u h = once (once (in-neg k x u h))

in-primary : (depth k : ℕ) (e : Expr) (u : Tokens) → expr.property e u → expr.primary in_query depth k (expr.plain e k) u
unfolding expr.primary
in-primary zero k e u h = inl (record { first = e; front = u; back = []; parts = sym (append-nil u); begins = h; goes_on = (refl, refl) })
in-primary (suc depth) k e u h = inr (inr (inl (record { first = e; front = u; back = []; parts = sym (append-nil u); begins = h; goes_on = (refl, refl) })))

plain-whole : (e : Expr) (u : Tokens) → expr.property e u → expr.counted_whole in_query (record { whole = record { expr = e; at = place_of u }; plain = true }) u
plain-whole e u h = record {
  first = (expr.plain e 255, place_of u);
  front = u;
  back = [];
  parts = sym (append-nil u);
  begins = (in-any-of (expr.primary in_query 64) 255 (expr.plain e 255) u (in-primary 64 255 e u h), refl);
  goes_on = (refl, refl);
}

-- COLUMNS

-- with AS, or without where a property's name is there
abbrev title : Rule Name
title = the word.as_word >>= λ _. name

abbrev column_name : Option Name → Rule Name
column_name (Some n) = title or give n
column_name None = title

abbrev factored : Rule ColumnItem
factored = do
  x ← expr.counted_whole in_query
  n ← column_name (own_name x)
  give (record { expr = x.whole; name = n })

parses-title : Parses title parser.title (word.as_word ∷ []) [] false
unfolding parser.title
parses-title = parses-then (parses-word (codes "AS")) (λ _. parses-name) refl

parses-column-name : (o : Option Name) → Parses (column_name o) (parser.column_name o) (word.as_word ∷ []) (word.as_word ∷ []) true
unfolding parser.column_name
parses-column-name (Some n) = parses-or parses-title (parses-give n) refl
parses-column-name None = parses-sized (word.as_word ∷ []) (word.as_word ∷ []) (parses-maybe parses-title) refl refl

abbrev pub column_on : List Terminal
column_on = word.as_word ∷ whole_on

parses-factored : Parses factored parser.column (whole_first in_query) column_on false
unfolding parser.column
parses-factored =
    parses-sized (whole_first in_query) column_on
    (parses-then (parses-counted-whole in_query) (λ x. parses-then (parses-column-name (own_name x)) (λ n. parses-give _) refl) refl) refl refl

-- THE GRAMMAR'S OWN FORM

own-some : (x : CountedWhole) (n : Name) → own_name x ≡ Some n → (x.plain ≡ true) × (property_name x.whole.expr ≡ Some n)
own-some x n e = by x.plain refl e where
  by : (b : Bool) → x.plain ≡ b → (if b then property_name x.whole.expr else None) ≡ Some n → (x.plain ≡ true) × (property_name x.whole.expr ≡ Some n)
  by true p e = (p, e)
  by false p e = absurd cc

same-name : (e : Expr) (v m n : Name) → e ≡ Property v m → property_name e ≡ Some n → n ≡ m
same-name e v m n p q = let r : Some m ≡ Some n = sym (ap property_name p) ∙ q in cc

-- where a name begins
name-place : (v : Name) (u w : Tokens) → name v u → place_of (u ++ w) ≡ v.at
name-place v u w h = rw (h.parts, h.begins.0) (sym (ap (λ (n : Name). n.at) h.goes_on.0))

abbrev item : Whole → Name → ColumnItem
item w n = record { expr = w; name = n }

item-of : (x : CountedWhole) (n v m : Name) → x.whole.expr ≡ Property v m → x.whole.at ≡ v.at → n ≡ m → item x.whole n ≡ item (record { expr = Property v m; at = v.at }) m
item-of x n v m e at same = rw (← e, ← at, ← same) refl

-- a plain expression without AS is name '.' name
unnamed : (x : CountedWhole) (n : Name) (u : Tokens) → expr.counted_whole in_query x u → own_name x ≡ Some n → grammar.property_column (record { expr = x.whole; name = n }) u
unnamed x n u h o =
    let k = own-some x n o in
    let g : x ≡ record { whole = record { expr = h.first.0.expr; at = h.first.1 }; plain = h.first.0.plain } = h.goes_on.0 in
    let plain : h.first.0.plain ≡ true = sym (ap (λ (c : CountedWhole). c.plain) g) ∙ k.0 in
    let p = plain-any-of (expr.primary in_query 64) (plain-primary 64) 255 h.first.0 h.front h.begins.0 plain in
    let same : u ≡ h.front = h.parts ∙ ap (λ (l : Tokens). h.front ++ l) h.goes_on.1 ∙ append-nil h.front in
    let e : x.whole.expr ≡ Property p.first p.goes_on.goes_on.first = ap (λ (c : CountedWhole). c.whole.expr) g ∙ p.goes_on.goes_on.goes_on.0 in
    let at : x.whole.at ≡ p.first.at =
    ap (λ (c : CountedWhole). c.whole.at) g ∙ h.begins.1 ∙ ap place_of p.parts ∙ name-place p.first p.front p.back p.begins in
    let n-is = same-name x.whole.expr p.first p.goes_on.goes_on.first n e k.1 in
    subst (λ (l : Tokens). grammar.property_column (record { expr = x.whole; name = n }) l) (sym same)
    (again p (again p.goes_on (again p.goes_on.goes_on (item-of x n p.first p.goes_on.goes_on.first e at n-is, p.goes_on.goes_on.goes_on.1))))

-- name '.' name is a plain expression
plain-column : (y : ColumnItem) (u : Tokens) → grammar.property_column y u → factored y u
plain-column y u h =
    let v = h.first in
    let n = h.goes_on.goes_on.first in
    let p : expr.property (Property v n) u = again h (again h.goes_on (again h.goes_on.goes_on (refl, h.goes_on.goes_on.goes_on.1))) in
    let at : place_of u ≡ v.at = ap place_of h.parts ∙ name-place v h.front h.back h.begins in
    let w : CountedWhole = record { whole = record { expr = Property v n; at = v.at }; plain = true } in
    record {
      first = w;
      front = u;
      back = [];
      parts = sym (append-nil u);
      begins = subst (λ (a : ℕ). expr.counted_whole in_query (record { whole = record { expr = Property v n; at = a }; plain = true }) u) at (plain-whole (Property v n) u p);
      goes_on = record { first = n; front = []; back = []; parts = refl; begins = inr (refl, refl); goes_on = (h.goes_on.goes_on.goes_on.0, refl) };
    }

named-or-own : (o : Option Name) (n : Name) (u : Tokens) → column_name o n u → title n u ⊎ ((o ≡ Some n) × (u ≡ []))
named-or-own None n u h = inl h
named-or-own (Some m) n u h = elim h [ inl t ↦ inl t | inr g ↦ inr (ap Some (sym g.0), g.1) ]

with-as : (o : Option Name) (n : Name) (u : Tokens) → title n u → column_name o n u
with-as None n u h = h
with-as (Some m) n u h = inl h

whole-of : (x : CountedWhole) (u : Tokens) → expr.counted_whole in_query x u → expr.whole in_query x.whole u
whole-of x u h = record { first = x; front = u; back = []; parts = sym (append-nil u); begins = h; goes_on = (refl, refl) }

there : (y : ColumnItem) (u : Tokens) → factored y u → grammar.column y u
there y u h =
    let x = h.first in
    let g = h.goes_on in
    elim (named-or-own (own_name x) g.first g.front g.begins) [
      | inl t ↦ inl (record {
        first = x.whole;
        front = h.front;
        back = h.back;
        parts = h.parts;
        begins = whole-of x h.front h.begins;
        goes_on = from_left (record { first = g.first; front = g.front; back = g.back; parts = g.parts; begins = t; goes_on = g.goes_on });
      })
      | inr o ↦
          let none : h.back ≡ [] = g.parts ∙ rw (o.1, g.goes_on.1) refl in
          let same : u ≡ h.front = h.parts ∙ ap (λ (l : Tokens). h.front ++ l) none ∙ append-nil h.front in
          inr (subst (λ (l : Tokens). grammar.property_column y l) (sym same)
          (subst (λ (i : ColumnItem). grammar.property_column i h.front) (sym g.goes_on.0) (unnamed x g.first h.front h.begins o.0)))
    ]

back : (y : ColumnItem) (u : Tokens) → grammar.column y u → factored y u
back y u h = elim h [
  | inl k ↦
      let w = k.begins in
      let x = w.first in
      let g = from_right k.goes_on in
      let same : k.front ≡ w.front = w.parts ∙ ap (λ (l : Tokens). w.front ++ l) w.goes_on.1 ∙ append-nil w.front in
      record {
        first = x;
        front = k.front;
        back = k.back;
        parts = k.parts;
        begins = subst (λ (l : Tokens). expr.counted_whole in_query x l) (sym same) w.begins;
        goes_on = record {
          first = g.first;
          front = g.front;
          back = g.back;
          parts = g.parts;
          begins = with-as (own_name x) g.first g.front g.begins;
          goes_on = (g.goes_on.0 ∙ ap (λ (w : Whole). item w g.first) w.goes_on.0, g.goes_on.1);
        };
      }
  | inr p ↦ plain-column y u p
]

pub parses-column : Parses grammar.column parser.column (whole_first in_query) column_on false
parses-column = parses-same (record { there = there; back = back }) parses-factored
