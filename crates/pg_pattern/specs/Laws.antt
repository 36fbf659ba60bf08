-- The parsers of queries read their rules.
pub mod Rules
pub mod Factored
pub mod Patterns
pub mod Columns
use Rattle.std.proofs.Common.{◌≡◌, true, false, List, [], ◌∷◌, ◌++◌, Ok, refl, sym, ap, ◌∙◌, append_assoc, subst, inl, inr}
use Rattle.std.specs.Prelude.{codes}
use Rattle.std.proofs.lemmas.List.{append-nil}
use Rattle.pg_lex.specs.declared.token.Token.{Token}
use Rattle.pg_ast.specs.declared.pattern.Query.{Query}
use Rattle.pg_ast.specs.Words.Terminals.{Terminal, Tokens, AName, is_among, matches}
use Rattle.pg_ast.specs.Grammar.Rule.{Rule, Then, ◌>>=◌, give, the, ◌or◌}
use Rattle.pg_ast.specs.Grammar.Names.{name}
use Rattle.pg_ast.specs.Grammar.Queries as grammar
use Rattle.pg_ast.specs.Grammar.Queries.{NoAlias}
use Rattle.pg_ast.specs.Words.Patterns as word
use Rattle.pg_grammar.specs.Kit.Reading.{Outcome, and_then}
use Rattle.pg_grammar.specs.Kit.Sets.{any, disjoint-sound}
use Rattle.pg_grammar.specs.Kit.{Stops}
use Rattle.pg_grammar.specs.Kit.Parses.{Parses, parses-the, parses-give, parses-then, parses-or, parses-sized}
use Rattle.pg_grammar.specs.Kit.OneToken.{parses-word, parses-symbol, inner-name, separated-parses}
use Rattle.pg_grammar.specs.Laws.{parses-name}
use Rattle.pg_pattern.specs.Read as parser
use Rattle.pg_pattern.specs.Laws.Rules.{parses-same, again, from_left, from_right}
use Rattle.pg_pattern.specs.Laws.Patterns.{parses-path, parses-condition}
use Rattle.pg_pattern.specs.Laws.Columns.{parses-column}

parses-head : Parses grammar.head parser.head (word.select ∷ []) [] false
unfolding parser.head
parses-head =
    parses-then (parses-word (codes "SELECT")) (λ _.
    parses-then (parses-symbol (codes "*")) (λ _.
    parses-then (parses-word (codes "FROM")) (λ _.
    parses-then (parses-word (codes "GRAPH_TABLE")) (λ _. parses-give tt) refl) refl) refl) refl

parses-column-list : Parses grammar.column_list parser.column_list (word.columns_word ∷ []) [] false
unfolding parser.column_list parser.columns
parses-column-list =
    parses-then (parses-word (codes "COLUMNS")) (λ _.
    parses-then (parses-symbol (codes "(")) (λ _.
    parses-then (separated-parses (codes ",") parses-column refl) (λ cs.
    parses-then (parses-symbol (codes ")")) (λ _. parses-give cs) refl) refl) refl) refl

parses-inside : Parses grammar.inside parser.inside (AName ∷ []) [] false
unfolding parser.inside is_among
parses-inside =
    parses-then parses-name (λ g.
    parses-then (parses-word (codes "MATCH")) (λ _.
    parses-then (separated-parses (codes ",") parses-path refl) (λ ps.
    parses-then parses-condition (λ c.
    parses-then parses-column-list (λ cs. parses-give _) refl) refl) refl) refl) refl

pub parses-bare-query : Parses grammar.bare_query parser.bare_query (word.select ∷ []) [] false
unfolding parser.bare_query
parses-bare-query =
    parses-then parses-head (λ _.
    parses-then (parses-symbol (codes "(")) (λ _.
    parses-then parses-inside (λ q.
    parses-then (parses-symbol (codes ")")) (λ _. parses-give q) refl) refl) refl) refl

-- THE ALIAS

-- behind a query
abbrev pub aliased : Query → Rule Query
aliased q =
    (do
      _ ← the word.as_word
      _ ← the AName
      give q)
    or (the AName >>= λ _. give q)
    or give q

abbrev pub factored : Rule Query
factored = grammar.bare_query >>= aliased

abbrev pub alias_first : List Terminal
alias_first = word.as_word ∷ AName ∷ []

parses-aliased : (q : Query) → Parses (aliased q) (parser.aliased q) alias_first alias_first true
unfolding parser.aliased is_among
parses-aliased q =
    parses-sized alias_first alias_first
    (parses-or (parses-then (parses-word (codes "AS")) (λ _. parses-then (parses-the AName inner-name) (λ _. parses-give q) refl) refl)
    (parses-or (parses-then (parses-the AName inner-name) (λ _. parses-give q) refl) (parses-give q) refl) refl) refl refl

as-name : {q y : Query} {u : Tokens} → Then (the AName) (λ _. give q) y u → Then name (λ _. give q) y u
as-name g = record {
  first = _;
  front = g.front;
  back = g.back;
  parts = g.parts;
  begins = record { first = g.first; front = g.front; back = []; parts = sym (append-nil g.front); begins = g.begins; goes_on = (refl, refl) };
  goes_on = g.goes_on;
}

as-token : {q y : Query} {u : Tokens} → Then name (λ _. give q) y u → Then (the AName) (λ _. give q) y u
as-token g =
    let n = g.begins in
    record {
      first = n.first;
      front = g.front;
      back = g.back;
      parts = g.parts;
      begins = (n.parts ∙ rw (n.begins.0, n.goes_on.1) refl, n.begins.1);
      goes_on = g.goes_on;
    }

there : (y : Query) (u : Tokens) → factored y u → grammar.query y u
there y u h = elim h.goes_on [
  | inl a ↦
      let k = from_right (again a (as-name a.goes_on)) in
      inl (again h (record { first = k.first; front = k.front; back = k.back; parts = k.parts; begins = inl k.begins; goes_on = k.goes_on }))
  | inr e ↦ elim e [
    | inl b ↦
        let k = as-name b in
        inl (again h (record { first = k.first; front = k.front; back = k.back; parts = k.parts; begins = inr k.begins; goes_on = k.goes_on }))
    | inr g ↦
        let same : u ≡ h.front = h.parts ∙ ap (λ (l : Tokens). h.front ++ l) g.1 ∙ append-nil h.front in
        inr (subst (λ (l : Tokens). grammar.bare_query y l) (sym same) (subst (λ (q : Query). grammar.bare_query q h.front) (sym g.0) h.begins))
  ]
]

-- an alias by its tokens
abbrev named : Query → Rule Query
named q =
    (do
      _ ← the word.as_word
      _ ← the AName
      give q)
    or (the AName >>= λ _. give q)

behind : (q y : Query) (u : Tokens) → Then grammar.alias (λ _. give q) y u → named q y u
behind q y u k = elim k.begins [
  | inl a ↦
      let g = from_left (record { first = k.first; front = k.front; back = k.back; parts = k.parts; begins = a; goes_on = k.goes_on }) in
      inl (again g (as-token g.goes_on))
  | inr b ↦ inr (as-token (record { first = k.first; front = k.front; back = k.back; parts = k.parts; begins = b; goes_on = k.goes_on }))
]

back : (y : Query) (u : Tokens) → grammar.query y u → factored y u
back y u h = elim h [
  | inl n ↦ elim (behind n.first y n.back n.goes_on) [
    | inl a ↦ again n (inl a)
    | inr b ↦ again n (inr (inl b))
  ]
  | inr b ↦ record { first = y; front = u; back = []; parts = sym (append-nil u); begins = b; goes_on = inr (inr (refl, refl)) }
]

pub parses-query : Parses grammar.query parser.query (word.select ∷ []) alias_first false
unfolding parser.query
parses-query = parses-same (record { there = there; back = back }) (parses-then parses-bare-query parses-aliased refl)

-- WITH ITS ALIAS A QUERY IS READ WHATEVER FOLLOWS

name-no-as : (t : Token) → matches AName t ≡ true → matches word.as_word t ≡ false
unfolding is_among
name-no-as t m = disjoint-sound (AName ∷ []) (word.as_word ∷ []) t refl m

alias-read : (q y : Query) (u v : Tokens) → named q y u → parser.aliased q (u ++ v) ≡ Ok (y, v)
unfolding parser.aliased
alias-read q y u v h = elim h [
  | inl a ↦
      let g = a.goes_on in
      rw (a.parts, a.begins.0, g.parts, g.begins.0, g.goes_on.1) (rw (a.begins.1, g.begins.1, g.goes_on.0) refl)
  | inr g ↦
      let other = name-no-as g.first g.begins.1 in
      rw (g.parts, g.begins.0, g.goes_on.1) (rw (other, g.begins.1, g.goes_on.0) refl)
]

none-stops : (w : Tokens) → Stops (any []) w
none-stops [] = tt
none-stops (t ∷ w) = refl

pub bare-read : (q : Query) (u v : Tokens) → grammar.bare_query q u → parser.query (u ++ v) ≡ parser.aliased q v
unfolding parser.query
bare-read q u v h = ap (λ (o : Outcome Query). and_then o parser.aliased) (parses-bare-query.exact.complete q u v h (none-stops v))

pub named-read : (q : Query) (u v : Tokens) → grammar.named_query q u → parser.query (u ++ v) ≡ Ok (q, v)
named-read q u v h =
    ap (λ (l : Tokens). parser.query (l ++ v)) h.parts
    ∙ ap parser.query (append_assoc h.front h.back v)
    ∙ bare-read h.first h.front (h.back ++ v) h.begins
    ∙ alias-read h.first q h.back v (behind h.first q h.back h.goes_on)

-- WITHOUT IT, EXACTLY WHERE NEITHER AS NOR A NAME COMES

pub unnamed-read : (q : Query) (u v : Tokens) → grammar.bare_query q u → NoAlias v → parser.query (u ++ v) ≡ Ok (q, v)
unfolding parser.aliased
unnamed-read q u [] h n = bare-read q u [] h
unnamed-read q u (t ∷ v) h n = bare-read q u (t ∷ v) h ∙ rw (n.0, n.1) refl
