-- The language of scripts is exact: each of its judgements says one thing.
use Rattle.std.proofs.Common.{◌≡◌, ℕ, true, List, sym, ap, ◌∙◌, subst}
use Rattle.std.specs.declared.option.Option.{Option}
use Rattle.std.specs.declared.option.Option.TheVariants.{Some, None}
use Rattle.std.proofs.lemmas.Option.{same_Some}
use Rattle.pg_lex.specs.declared.token.Token.{Token}
use Rattle.pg_lex.specs.Tokens.{Tokens}
use Rattle.pg_value.specs.declared.write.Write.{Write}
use Rattle.pg_value.specs.Tables.{Tables}
use Rattle.pg_ast.specs.declared.define.Define.{Define}
use Rattle.pg_ast.specs.declared.pattern.Query.{Query}
use Rattle.pg_meaning.specs.declared.checked.CheckedChange.{CheckedChange}
use Rattle.pg_meaning.specs.declared.checked.CheckedQuery.{CheckedQuery}
use Rattle.pg_meaning.specs.OneAnswer.{has_one_answer, AnswersAreOne}
use Rattle.pg_rules.specs.Catalog.{Defined}
use Rattle.pg_rules.specs.Catalog.Shapes.{shapes}
use Rattle.pg_rules.specs.Definitions.{define_fault, with_definition}
use Rattle.pg_rules.specs.Changes.{Change, change_fault, resolved_change}
use Rattle.pg_rules.specs.Queries.{query_fault}
use Rattle.pg_rules.specs.Queries.CheckedQueries.{checked_query}
use Rattle.pg_rules.specs.Changes.ChangeEffect.{Context, context}
use Rattle.pg_meaning.specs.Sound.Changes.{table_of}
use Rattle.pg_script.specs.declared.script.Item.{Item}
use Rattle.pg_script.specs.declared.script.Item.TheVariants.{Sql, After}
use Rattle.pg_script.specs.declared.script.Script.{Script}
use Rattle.pg_script.specs.declared.outcome.FaultKind.{FaultKind}
use Rattle.pg_script.specs.Judged.{Reading, Ruling, Faulty, Fine, Effect, Stopped, Done, Found, Listed}
use Rattle.pg_script.specs.Exact.{IsExact}
use Rattle.pg_sql.specs.declared.parsed.Parsed.{Parsed}
use Rattle.pg_sql.specs.declared.parsed.Parsed.TheVariants.{Statement, Fault}
use Rattle.pg_sql.specs.Parsed.{IsParsed}
use Rattle.pg_sql.specs.Answers.{OneTree}
use Rattle.pg_language.specs.Language.{reading_of, reads, name_of, define_refusal, defines, resolve_refusal, resolves, most_transaction_writes, refusal_of, IsEffect, affects, checks, answers, language, query_refusal}
use Rattle.pg_language.proofs.Firsts.{none_some, no_fault_in, one_fault, not_done, one_faulty_row}

-- RULINGS

-- a fault that is found, told by its kind and place, or what there is where none is found
abbrev Rules : {F X : Type 0} → Option F → (F → Option (FaultKind × ℕ)) → (X → Type 0) → Ruling X → Type 0
Rules {F} found tell Means (Faulty kind at) = (f : F) × (found ≡ Some f) × (tell f ≡ Some (kind, at))
Rules found tell Means (Fine x) = (found ≡ None) × Means x

-- where what there is is one thing, so is the ruling
one_ruling : {F X : Type 0} (found : Option F) (tell : F → Option (FaultKind × ℕ)) (Means : X → Type 0) → ((x y : X) → Means x → Means y → x ≡ y)
    → (r s : Ruling X) → Rules found tell Means r → Rules found tell Means s → r ≡ s
one_ruling found tell Means one (Faulty kind at) (Faulty kind' at') (f, p, q) (g, u, v) =
    let h : f ≡ g = same_Some f g (sym p ∙ u) in
    let k : (kind, at) ≡ (kind', at') = same_Some (kind, at) (kind', at') (sym q ∙ ap tell h ∙ v) in
    λ i. Faulty (k i).0 (k i).1
one_ruling found tell Means one (Faulty kind at) (Fine y) (f, p, q) (u, v) = absurd (none_some f (sym u ∙ p))
one_ruling found tell Means one (Fine x) (Faulty kind at) (p, q) (f, u, v) = absurd (none_some f (sym p ∙ u))
one_ruling found tell Means one (Fine x) (Fine y) (p, q) (u, v) = ap Fine (one x y q v)

by_rules : {F X : Type 0} (found : Option F) (tell : F → Option (FaultKind × ℕ)) (Means : X → Type 0) (J : Ruling X → Type 0)
    → ((kind : FaultKind) (at : ℕ) → J (Faulty kind at) → Rules found tell Means (Faulty kind at)) → ((x : X) → J (Fine x) → Rules found tell Means (Fine x))
    → (r : Ruling X) → J r → Rules found tell Means r
by_rules found tell Means J f g (Faulty kind at) h = f kind at h
by_rules found tell Means J f g (Fine x) h = g x h

abbrev IsDefined : Defined → Define → List ℕ × Defined → Type 0
IsDefined d definition y = y ≡ (name_of definition, with_definition d definition)

one_definition : (d : Defined) (definition : Define) (r s : Ruling (List ℕ × Defined)) → defines d definition r → defines d definition s → r ≡ s
one_definition d definition r s a b =
    one_ruling (define_fault d definition) define_refusal (IsDefined d definition) (λ x y p q. p ∙ sym q) r s (rules r a) (rules s b)
  where
    rules : (t : Ruling (List ℕ × Defined)) → defines d definition t → Rules (define_fault d definition) define_refusal (IsDefined d definition) t
    rules t h = by_rules (define_fault d definition) define_refusal (IsDefined d definition) (defines d definition) (λ kind at k. k) (λ y k. k) t h

abbrev IsResolved : Defined → Change → CheckedChange → Type 0
IsResolved d c y = y ≡ resolved_change d.0 c

one_change : (d : Defined) (c : Change) (r s : Ruling CheckedChange) → resolves d c r → resolves d c s → r ≡ s
one_change d c r s a b =
    one_ruling (change_fault d.0 c) resolve_refusal (IsResolved d c) (λ x y p q. p ∙ sym q) r s (rules r a) (rules s b)
  where
    rules : (t : Ruling CheckedChange) → resolves d c t → Rules (change_fault d.0 c) resolve_refusal (IsResolved d c) t
    rules t h = by_rules (change_fault d.0 c) resolve_refusal (IsResolved d c) (resolves d c) (λ kind at k. k) (λ y k. k) t h

abbrev IsChecked : Defined → Query → CheckedQuery → Type 0
IsChecked d q y = y ≡ checked_query d q

one_query : (d : Defined) (q : Query) (r s : Ruling CheckedQuery) → checks d q r → checks d q s → r ≡ s
one_query d q r s a b =
    one_ruling (query_fault d q) query_refusal (IsChecked d q) (λ x y p q. p ∙ sym q) r s (rules r a) (rules s b)
  where
    rules : (t : Ruling CheckedQuery) → checks d q t → Rules (query_fault d q) query_refusal (IsChecked d q) t
    rules t h = by_rules (query_fault d q) query_refusal (IsChecked d q) (checks d q) (λ kind at k. k) (λ y k. k) t h

-- EFFECTS

one_done : (d : Defined) (c : Context) (x : CheckedChange) (e f : Effect) → IsEffect d c x e → IsEffect d c x f → e ≡ f
one_done d c x (Stopped r) (Stopped r') (n, fault, first, is) (n', fault', first', is') =
    let same = one_faulty_row c x n n' fault fault' first first' in
    ap Stopped (is ∙ (λ i. refusal_of d (table_of x) (same.0 i) (same.1 i)) ∙ sym is')
one_done d c x (Stopped r) (Done ws k) (n, fault, first, is) done = absurd (not_done c x n fault ws k first done)
one_done d c x (Done ws k) (Stopped r) done (n, fault, first, is) = absurd (not_done c x n fault ws k first done)
one_done d c x (Done ws k) (Done ws' k') a b =
    let writes : ws ≡ ws' = a.written ∙ sym b.written in
    let count : k ≡ k' = a.counted ∙ sym b.counted in
    λ i. Done (writes i) (count i)

one_effect : (d : Defined) (tables : Tables) (ws : List Write) (x : CheckedChange) (e f : Effect) → affects d tables ws x e → affects d tables ws x f → e ≡ f
one_effect d tables ws x e f (shape, at, a) (shape', at', b) =
    let same : shape ≡ shape' = same_Some shape shape' (sym at ∙ at') in
    one_done d (context most_transaction_writes shape tables ws) x e f a
    (subst (λ s. IsEffect d (context most_transaction_writes s tables ws) x f) (sym same) b)

-- READINGS AND ANSWERS

one_parsed : OneTree → (tokens : List Token) (p r : Parsed) → IsParsed tokens p → IsParsed tokens r → p ≡ r
one_parsed one tokens (Statement tree at) (Statement tree' at') (s, h) (s', h') =
    let same : tree ≡ tree' = one tree tree' tokens s s' in
    let place : at ≡ at' = h ∙ sym h' in
    λ i. Statement (same i) (place i)
one_parsed one tokens (Statement tree at) (Fault at') (s, h) f = absurd (no_fault_in tree tokens at' s f)
one_parsed one tokens (Fault at) (Statement tree' at') f (s, h) = absurd (no_fault_in tree' tokens at s f)
one_parsed one tokens (Fault at) (Fault at') f g = ap Fault (one_fault tokens at at' f g)

-- a text has one list of tokens
abbrev pub OneTokenList : Type 0
OneTokenList = (at : ℕ) (text : List ℕ) (ts us : List Token) → Tokens at text ts → Tokens at text us → ts ≡ us

one_reading : OneTokenList → OneTree → (script : Script) (item : Item) (r s : Reading Define Change Query) → reads script item r → reads script item s → r ≡ s
one_reading lists trees script (Sql from to) r s (p, (ts, tokens, is), e) (p', (ts', tokens', is'), e') =
    let same : ts ≡ ts' = lists from _ ts ts' tokens tokens' in
    e ∙ ap reading_of (one_parsed trees ts p p' is (subst (λ l. IsParsed l p') (sym same) is')) ∙ sym e'
one_reading lists trees script (After section n) r s e e' = e ∙ sym e'

one_found : AnswersAreOne → (d : Defined) (tables : Tables) (y : CheckedQuery) (f g : Found) → has_one_answer y ≡ true → answers d tables y f → answers d tables y g → f ≡ g
one_found law d tables y (Listed rows) (Listed more) one (a, s) (b, t) = ap Listed (law.in_order (shapes d) tables y rows more one a s b t)

pub language_is_exact : OneTokenList → OneTree → AnswersAreOne → (script : Script) → IsExact (language script) has_one_answer
language_is_exact lists trees law script = record {
  reads = one_reading lists trees script;
  defines = one_definition;
  resolves = one_change;
  checks = one_query;
  affects = one_effect;
  answers = one_found law;
}
