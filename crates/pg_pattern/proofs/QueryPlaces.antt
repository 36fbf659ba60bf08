-- What is read from a place is the query there, what stands there is read, and a fault is the first.
use Rattle.std.proofs.Common.{◌≡◌, ℕ, zero, suc, ◌+◌, ◌-◌, ◌<◌, ◌≤◌, Bool, true, false, [], ◌∷◌, ◌++◌, length, take, drop, Ok, Err, refl, sym, ap, subst, ◌∙◌, append_assoc, arith, inl, inr}
use Rattle.std.proofs.lemmas.List.{append-nil, length-append, take-append-drop, length-drop}
use Rattle.std.proofs.Math.Seq.{drop-append_seam, take-length}
use Rattle.pg_lex.specs.declared.token.Token.{Token}
use Rattle.pg_ast.specs.declared.pattern.Query.{Query}
use Rattle.pg_ast.specs.Words.Terminals.{Tokens, AName, Inner, matches, place_of, IsEnded}
use Rattle.pg_ast.specs.Grammar.Queries as grammar
use Rattle.pg_ast.specs.Grammar.Queries.{NoAlias, QueryAt, FirstFault}
use Rattle.pg_ast.specs.Words.Patterns as word
use Rattle.pg_grammar.specs.Kit.Reading.{Outcome, Fails}
use Rattle.pg_grammar.specs.declared.fault.Fault.{Fault}
use Rattle.pg_grammar.specs.declared.fault.Fault.TheVariants.{Syntax}
use Rattle.pg_grammar.specs.Kit.{Explains}
use Rattle.pg_pattern.specs.Read as parser
use Rattle.pg_pattern.specs.Laws.{parses-query, bare-read, named-read, unnamed-read}

abbrev read : Query → Tokens → Outcome Query
read q r = Ok (q, r)

abbrev failed : Tokens → Outcome Query
failed r = Err r

never-both : (q : Query) (r s : Tokens) → failed r ≡ read q s → ⊥
never-both q r s e = cc

abbrev tree_or : Query → Outcome Query → Query
tree_or q (Ok x) = x.0
tree_or q (Err r) = q

abbrev rest_or : Tokens → Outcome Query → Tokens
rest_or t (Ok x) = x.1
rest_or t (Err r) = t

same-tree : (p q : Query) (r s : Tokens) → read p r ≡ read q s → p ≡ q
same-tree p q r s e = ap (tree_or p) e

same-rest : (p q : Query) (r s : Tokens) → read p r ≡ read q s → r ≡ s
same-rest p q r s e = ap (rest_or r) e

explained : (ts : Tokens) (o : Outcome Query) → parser.query ts ≡ o → Explains grammar.query parser.query ts o
explained ts o e = subst (λ (o : Outcome Query). Explains grammar.query parser.query ts o) e (parses-query.exact.explains ts)

-- WHERE THE QUERY HAS NO ALIAS, NONE FOLLOWS

shorter : (t : Token) (v w : Tokens) → length w ≤ length v → w ≡ t ∷ v → ⊥
shorter t v w l e = let n : length w ≡ suc (length v) = ap length e in omega (arith, l, n)

after-as : (q : Query) (t : Token) (v : Tokens) → matches word.as_word t ≡ true → parser.aliased q (t ∷ v) ≡ read q (t ∷ v) → ⊥
unfolding parser.aliased
after-as q t [] m e = never-both q [] (t ∷ []) (let r : parser.aliased q (t ∷ []) ≡ failed [] = rw m refl in sym r ∙ e)
after-as q t (x ∷ v) m e = by (matches AName x) refl where
  by : (b : Bool) → matches AName x ≡ b → ⊥
  by true n = let r : parser.aliased q (t ∷ x ∷ v) ≡ read q v = rw (m, n) refl in shorter t (x ∷ v) v (omega arith) (same-rest q q v (t ∷ x ∷ v) (sym r ∙ e))
  by false n = let r : parser.aliased q (t ∷ x ∷ v) ≡ failed (x ∷ v) = rw (m, n) refl in never-both q (x ∷ v) (t ∷ x ∷ v) (sym r ∙ e)

after-name : (q : Query) (t : Token) (v : Tokens) → matches word.as_word t ≡ false → matches AName t ≡ true → parser.aliased q (t ∷ v) ≡ read q (t ∷ v) → ⊥
unfolding parser.aliased
after-name q t v m n e = let r : parser.aliased q (t ∷ v) ≡ read q v = rw (m, n) refl in shorter t v v (omega arith) (same-rest q q v (t ∷ v) (sym r ∙ e))

none-left : (q : Query) (v : Tokens) → parser.aliased q v ≡ read q v → NoAlias v
none-left q [] e = tt
none-left q (t ∷ v) e = by (matches word.as_word t) refl (matches AName t) refl where
  by : (b : Bool) → matches word.as_word t ≡ b → (c : Bool) → matches AName t ≡ c → NoAlias (t ∷ v)
  by true m c n = absurd (after-as q t v m e)
  by false m true n = absurd (after-name q t v m n e)
  by false m false n = (m, n)

-- the tokens from a place on, as a slice has them
pub from-slice : (first : ℕ) (slice tokens : Tokens) → slice ≡ tokens → take (length slice - first) (drop first slice) ≡ drop first tokens
from-slice first slice tokens e =
    ap (λ (n : ℕ). take n (drop first slice)) (sym (length-drop first slice))
    ∙ take-length (drop first slice)
    ∙ ap (drop first) e

-- WHAT IS READ STANDS THERE

pub found : (tokens : Tokens) (first : ℕ) (q : Query) (rest : Tokens) → first ≤ length tokens → parser.query (drop first tokens) ≡ Ok (q, rest) → QueryAt tokens first q (length tokens - length rest)
found tokens first q rest within e =
    let k = explained (drop first tokens) (Ok (q, rest)) e in
    let all : tokens ≡ take first tokens ++ (k.front ++ rest) = sym (take-append-drop first tokens) ∙ ap (λ (l : Tokens). take first tokens ++ l) k.parts in
    let behind : length (drop first tokens) ≡ length tokens - first = length-drop first tokens in
    let before : length tokens ≡ length (take first tokens) + length (drop first tokens) = ap length (sym (take-append-drop first tokens)) ∙ length-append (take first tokens) (drop first tokens) in
    let here : length (drop first tokens) ≡ length k.front + length rest = ap length k.parts ∙ length-append k.front rest in
    record {
      front = take first tokens;
      middle = k.front;
      back = rest;
      parts = all;
      begins = omega (arith, within, behind, before);
      ends = omega (arith, within, behind, here);
      is = elim k.spelled [
        | inl n ↦ inl n
        | inr b ↦ inr (b, none-left q rest (sym (bare-read q k.front rest b) ∙ ap parser.query (sym k.parts) ∙ e))
      ];
    }

-- how much is left
pub left : (tokens : Tokens) (first : ℕ) (q : Query) (rest : Tokens) → parser.query (drop first tokens) ≡ Ok (q, rest) → length rest ≤ length tokens
left tokens first q rest e =
    let k = explained (drop first tokens) (Ok (q, rest)) e in
    let before : length tokens ≡ length (take first tokens) + length (drop first tokens) = ap length (sym (take-append-drop first tokens)) ∙ length-append (take first tokens) (drop first tokens) in
    let here : length (drop first tokens) ≡ length k.front + length rest = ap length k.parts ∙ length-append k.front rest in
    omega (arith, before, here)

-- WHAT STANDS THERE IS READ

from-place : (tokens : Tokens) (first : ℕ) (q : Query) (after : ℕ) (h : QueryAt tokens first q after) → drop first tokens ≡ h.middle ++ h.back
from-place tokens first q after h =
    ap (λ (n : ℕ). drop n tokens) (sym h.begins) ∙ ap (drop (length h.front)) h.parts ∙ drop-append_seam h.front (h.middle ++ h.back)

pub stands : (tokens : Tokens) (first : ℕ) (q : Query) (after : ℕ) (h : QueryAt tokens first q after) → parser.query (drop first tokens) ≡ Ok (q, h.back)
stands tokens first q after h = ap parser.query (from-place tokens first q after h) ∙ elim h.is [
  | inl n ↦ named-read q h.middle h.back n
  | inr b ↦ unnamed-read q h.middle h.back b.0 b.1
]

place : (tokens : Tokens) (first : ℕ) (q : Query) (after : ℕ) (h : QueryAt tokens first q after) → after ≡ length tokens - length h.back
place tokens first q after h =
    let all : length tokens ≡ length h.front + length (h.middle ++ h.back) = ap length h.parts ∙ length-append h.front (h.middle ++ h.back) in
    let two : length (h.middle ++ h.back) ≡ length h.middle + length h.back = length-append h.middle h.back in
    let b = h.begins in
    let e = h.ends in
    omega (arith, all, two, b, e)

pub only : (tokens : Tokens) (first : ℕ) (p q : Query) (rest : Tokens) (after : ℕ) → parser.query (drop first tokens) ≡ Ok (p, rest) → QueryAt tokens first q after → (p ≡ q) × (length tokens - length rest ≡ after)
only tokens first p q rest after e h =
    let r : read p rest ≡ read q h.back = sym e ∙ stands tokens first q after h in
    (same-tree p q rest h.back r, ap (λ (l : Tokens). length tokens - length l) (same-rest p q rest h.back r) ∙ sym (place tokens first q after h))

pub never : (tokens : Tokens) (first : ℕ) (q : Query) (rest : Tokens) (after : ℕ) → parser.query (drop first tokens) ≡ Err rest → QueryAt tokens first q after → ⊥
never tokens first q rest after e h = never-both q rest h.back (sym e ∙ stands tokens first q after h)

pub one-query : (tokens : Tokens) (first : ℕ) (p q : Query) (m n : ℕ) → QueryAt tokens first p m → QueryAt tokens first q n → (p ≡ q) × (m ≡ n)
one-query tokens first p q m n g h =
    let k = only tokens first p q g.back n (stands tokens first p m g) h in
    (k.0, place tokens first p m g ∙ k.1)

-- A FAULT IS THE FIRST

inner-back : (a b : Tokens) → Inner (a ++ b) → Inner b
inner-back [] b i = i
inner-back (t ∷ a) b i = inner-back a b i.1

ends-so : (first : ℕ) (front : Tokens) (last : Token) → first < length (front ++ last ∷ []) → (g : Tokens) × (drop first (front ++ last ∷ []) ≡ g ++ last ∷ [])
ends-so zero front last l = (front, refl)
ends-so (suc n) [] last l = absurd (omega (arith, l))
ends-so (suc n) (t ∷ front) last l = ends-so n front last (omega (arith, l))

no-fault-at-end : (tokens : Tokens) (first : ℕ) → IsEnded tokens → first < length tokens → (q : Query) (more : Tokens) → grammar.query q (drop first tokens ++ more) → ⊥
no-fault-at-end tokens first ended within q more s =
    let l : first < length (ended.front ++ ended.last ∷ []) = subst (λ (n : ℕ). first < n) (ap length ended.parts) within in
    let g = ends-so first ended.front ended.last l in
    let whole : drop first tokens ++ more ≡ g.0 ++ (ended.last ∷ more) =
    ap (λ (k : Tokens). drop first k ++ more) ended.parts ∙ ap (λ (k : Tokens). k ++ more) g.1 ∙ append_assoc g.0 (ended.last ∷ []) more in
    let i = inner-back g.0 (ended.last ∷ more) (subst Inner whole (parses-query.inner q (drop first tokens ++ more) s)) in
    let o = ended.ends in
    let r : true ≡ false = sym i.0 ∙ o in
    cc

pub fault : (tokens : Tokens) (first : ℕ) (rest : Tokens) → IsEnded tokens → first < length tokens → parser.query (drop first tokens) ≡ Err rest → FirstFault tokens first (place_of rest)
fault tokens first [] ended within e =
    let k = explained (drop first tokens) (Err []) e in
    let same : drop first tokens ≡ k.front = k.parts ∙ append-nil k.front in
    absurd (no-fault-at-end tokens first ended within k.spelled.1 k.spelled.0 (subst (λ (l : Tokens). grammar.query k.spelled.1 (l ++ k.spelled.0)) (sym same) k.spelled.2))
fault tokens first (x ∷ rest) ended within e =
    let k = explained (drop first tokens) (Err (x ∷ rest)) e in
    let behind : length (drop first tokens) ≡ length tokens - first = length-drop first tokens in
    let before : length tokens ≡ length (take first tokens) + length (drop first tokens) = ap length (sym (take-append-drop first tokens)) ∙ length-append (take first tokens) (drop first tokens) in
    record {
      front = take first tokens;
      middle = k.front;
      token = x;
      back = rest;
      parts = sym (take-append-drop first tokens) ∙ ap (λ (l : Tokens). take first tokens ++ l) k.parts;
      begins = omega (arith, within, behind, before);
      place = refl;
      before = record { more = k.spelled.0; tree = k.spelled.1; is = k.spelled.2 };
      with_it = λ b.
          let s : grammar.query b.tree (k.front ++ x ∷ b.more) = subst (λ (l : Tokens). grammar.query b.tree l) (append_assoc k.front (x ∷ []) b.more) b.is in
          let r : parser.query (k.front ++ x ∷ b.more) ≡ Ok (b.tree, []) = ap parser.query (sym (append-nil (k.front ++ x ∷ b.more))) ∙ parses-query.exact.complete b.tree (k.front ++ x ∷ b.more) [] s tt in
          never-both b.tree (x ∷ b.more) [] (sym (k.local (x ∷ b.more) refl) ∙ r);
    }

pub failed-so : (o : Outcome Query) (e : Fault) (r : Tokens) → e ≡ Syntax → Fails o e r → o ≡ Err r
failed-so o e r s h = subst (λ (e : Fault). Fails o e r) s h
