-- What is read is a statement, what is a statement is read, and a fault is the first.
use Rattle.std.proofs.Common.{◌≡◌, false, [], ◌∷◌, ◌++◌, Ok, Err, refl, sym, ap, subst, ◌∙◌, append_assoc}
use Rattle.std.proofs.lemmas.List.{append-nil}
use Rattle.pg_lex.specs.declared.token.Token.{Token}
use Rattle.pg_lex.specs.declared.token.TokenKind.TheVariants.{End}
use Rattle.pg_ast.specs.declared.statement.Statement.{Statement}
use Rattle.pg_ast.specs.Words.Terminals.{Tokens, matches, is_ordinary, Inner, IsEnded}
use Rattle.pg_ast.specs.Grammar.Rule.{Rule, Then, the, give}
use Rattle.pg_ast.specs.Grammar.{IsStatement, FirstFault}
use Rattle.pg_ast.specs.Grammar as grammar
use Rattle.pg_ast.specs.Words as keyword
use Rattle.pg_grammar.specs.Kit.Reading.{Outcome, Fails, place_of}
use Rattle.pg_grammar.specs.declared.fault.Fault.{Fault}
use Rattle.pg_grammar.specs.declared.fault.Fault.TheVariants.{Syntax}
use Rattle.pg_grammar.specs.Kit.Sets.{any, kind-same}
use Rattle.pg_grammar.specs.Kit.{Exact, Explains, Stops, exact-then, exact-one, exact-give, Some}
use Rattle.pg_sql.specs.Answers.{OneTree}
use Rattle.pg_sql.specs.Read as parser
use Rattle.pg_sql.proofs.BodyLaws.{parses-statement}

some-end : Some (the keyword.ending)
unfolding matches
some-end = let t : Token = record { kind = End; from = 0; to = 0 } in record { tree = t; tokens = t ∷ []; spelled = (refl, refl) }

abbrev after : Statement → Rule Statement
after t = Then (the keyword.ending) (λ _. give t)

some-after : (t : Statement) → Some (after t)
some-after t =
    let s = some-end in
    record { tree = t; tokens = s.tokens ++ []; spelled = record { first = s.tree; front = s.tokens; back = []; parts = refl; begins = s.spelled; goes_on = (refl, refl) } }

pub statement-exact : Exact IsStatement (any []) parser.whole_statement
unfolding IsStatement parser.whole_statement
statement-exact =
    exact-then grammar.statement after (any []) (any []) (any []) parser.statement _ parses-statement.exact
    (λ t. exact-then (the keyword.ending) (λ _. give t) (any []) (any []) (any []) _ _ (exact-one (matches keyword.ending) (any []) some-end) (λ _. exact-give t (any []))
    (λ x u h. record { tree = t; tokens = []; spelled = (refl, refl) }) (λ x y v w h s. stops-none (v ++ w)) (λ w s. s))
    (λ t u h. some-after t) (λ x y v w h s. stops-none (v ++ w)) (λ w s. s) where
      stops-none : (w : Tokens) → Stops (any []) w
      stops-none [] = tt
      stops-none (t ∷ w) = refl

-- the one token that is not ordinary is the last
ends-once : (a : Tokens) (x : Token) (r b : Tokens) (y : Token) → is_ordinary x.kind ≡ false → Inner b → a ++ x ∷ r ≡ b ++ y ∷ [] → r ≡ []
ends-once [] x r [] y o i e = cc
ends-once [] x r (z ∷ b) y o i e = let same : x ≡ z = cc in absurd (let k : is_ordinary x.kind ≡ is_ordinary z.kind = ap (λ (t : Token). is_ordinary t.kind) same in let l = i.0 in cc)
ends-once (z ∷ a) x r [] y o i e = absurd (never a x r (let n : a ++ x ∷ r ≡ [] = cc in n)) where
  never : (a : Tokens) (x : Token) (r : Tokens) → a ++ x ∷ r ≡ [] → ⊥
  never [] x r e = cc
  never (z ∷ a) x r e = cc
ends-once (z ∷ a) x r (w ∷ b) y o i e = ends-once a x r b y o i.1 (let n : a ++ x ∷ r ≡ b ++ y ∷ [] = cc in n)

-- a statement is tokens within and one End
pub record Body (u : Tokens) : Type 0 where
  pub front : Tokens
  pub last : Token
  pub parts : u ≡ front ++ last ∷ []
  pub inner : Inner front
  pub ends : is_ordinary last.kind ≡ false

body : (t : Statement) (u : Tokens) → IsStatement t u → Body u
unfolding IsStatement matches
body t u h =
    let g = h.goes_on in
    record {
      front = h.front;
      last = g.first;
      parts = h.parts ∙ ap (λ (l : Tokens). h.front ++ l) (g.parts ∙ rw (g.begins.0, g.goes_on.1) refl);
      inner = parses-statement.inner h.first h.front h.begins;
      ends = ap is_ordinary (kind-same g.first.kind End g.begins.1);
    }

-- a list that ends and begins a statement is one
whole : (t : Statement) (ts more : Tokens) → IsEnded ts → IsStatement t (ts ++ more) → more ≡ []
whole t ts more h s =
    let b = body t (ts ++ more) s in
    ends-once h.front h.last more b.front b.last h.ends b.inner
    (sym (append_assoc h.front (h.last ∷ []) more) ∙ ap (λ (l : Tokens). l ++ more) (sym h.parts) ∙ b.parts)

pub reads-only : (t : Statement) (ts : Tokens) → IsStatement t ts → parser.whole_statement ts ≡ Ok (t, [])
reads-only t ts s = ap parser.whole_statement (sym (append-nil ts)) ∙ statement-exact.complete t ts [] s tt

abbrev explained : (ts : Tokens) (o : Outcome Statement) → parser.whole_statement ts ≡ o → Explains IsStatement parser.whole_statement ts o
explained ts o e = subst (λ (o : Outcome Statement). Explains IsStatement parser.whole_statement ts o) e (statement-exact.explains ts)

pub found : (ts rest : Tokens) (t : Statement) → IsEnded ts → parser.whole_statement ts ≡ Ok (t, rest) → IsStatement t ts
found ts rest t h e =
    let k = explained ts (Ok (t, rest)) e in
    let b = body t k.front k.spelled in
    let none : rest ≡ [] = ends-once b.front b.last rest h.front h.last b.ends h.inner (sym (append_assoc b.front (b.last ∷ []) rest) ∙ ap (λ (l : Tokens). l ++ rest) (sym b.parts) ∙ sym k.parts ∙ h.parts) in
    let same : ts ≡ k.front = k.parts ∙ ap (λ (l : Tokens). k.front ++ l) none ∙ append-nil k.front in
    subst (λ (l : Tokens). IsStatement t l) (sym same) k.spelled

abbrev pub failed : Tokens → Outcome Statement
failed r = Err r

pub never-both : (t : Statement) (rest r : Tokens) → failed r ≡ Ok (t, rest) → ⊥
never-both t rest r e = cc

pub fault : (ts rest : Tokens) → IsEnded ts → parser.whole_statement ts ≡ Err rest → FirstFault ts (place_of rest)
fault ts [] h e =
    let k = explained ts (Err []) e in
    let same : ts ≡ k.front = k.parts ∙ append-nil k.front in
    let more = k.spelled.0 in
    let t = k.spelled.1 in
    let s : IsStatement t (ts ++ more) = subst (λ (l : Tokens). IsStatement t (l ++ more)) (sym same) k.spelled.2 in
    let none = whole t ts more h s in
    let s' : IsStatement t ts = subst (λ (l : Tokens). IsStatement t l) (ap (λ (l : Tokens). ts ++ l) none ∙ append-nil ts) s in
    absurd (never-both t [] [] (sym e ∙ reads-only t ts s'))
fault ts (x ∷ rest) h e =
    let k = explained ts (Err (x ∷ rest)) e in
    record {
      front = k.front;
      token = x;
      back = rest;
      parts = k.parts;
      place = refl;
      before = record { more = k.spelled.0; tree = k.spelled.1; is = k.spelled.2 };
      with_it = λ b.
          let s : IsStatement b.tree (k.front ++ x ∷ b.more) = subst (λ (l : Tokens). IsStatement b.tree l) (append_assoc k.front (x ∷ []) b.more) b.is in
          never-both b.tree [] (x ∷ b.more) (sym (k.local (x ∷ b.more) refl) ∙ reads-only b.tree (k.front ++ x ∷ b.more) s);
    }

abbrev pub did : Statement → Tokens → Outcome Statement
did t r = Ok (t, r)

abbrev tree_or : Statement → Outcome Statement → Statement
tree_or t (Ok x) = x.0
tree_or t (Err r) = t

pub same-tree : (t u : Statement) (r : Tokens) → did t r ≡ did u [] → t ≡ u
same-tree t u r e = ap (tree_or t) e

pub failed-so : (read : Outcome Statement) (e : Fault) (r : Tokens) → e ≡ Syntax → Fails read e r → read ≡ Err r
failed-so read e r s h = subst (λ (e : Fault). Fails read e r) s h

pub one-tree : OneTree
one-tree s t ts a b = same-tree s t [] (sym (reads-only s ts a) ∙ reads-only t ts b)
