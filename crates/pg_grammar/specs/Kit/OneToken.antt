-- The parsers of one token, and of lists with a separator.
use Rattle.std.proofs.Common.{◌≡◌, ℕ, true, false, List, [], ◌∷◌, ◌++◌, refl, ap, ◌∙◌}
use Rattle.pg_lex.specs.declared.token.TokenKind.{TokenKind}
use Rattle.pg_lex.specs.declared.token.TokenKind.TheVariants.{Word, Quoted, Number, Literal, Symbol, End, Bad}
use Rattle.pg_ast.specs.Words.Terminals.{Terminal, Exactly, AName, ANumber, AText, W, S, fits, matches, is_name, is_ordinary}
use Rattle.pg_grammar.specs.Kit.Reading.{Parser, eat, separated, next_item}
use Rattle.pg_ast.specs.Grammar.Rule.{Rule, the, give}
use Rattle.pg_ast.specs.Grammar.Rule as rule
use Rattle.pg_grammar.specs.Kit.Sets.{kind-same, kind-self, disjoint, disjoint-none}
use Rattle.pg_grammar.specs.Kit.Parses.{Parses, IsInner, parses-the, parses-give, parses-then, parses-loop}

pub inner-exactly : (k : TokenKind) → is_ordinary k ≡ true → IsInner (Exactly k)
unfolding matches
inner-exactly k o = record {
  token = record { kind = k; from = 0; to = 0 };
  meets = kind-self k;
  inner = λ t m. ap is_ordinary (kind-same t.kind k m) ∙ o;
}

is-name-ordinary : (k : TokenKind) → is_name k ≡ true → is_ordinary k ≡ true
is-name-ordinary End e = absurd cc
is-name-ordinary Bad e = absurd cc
is-name-ordinary _ e = refl

pub inner-name : IsInner AName
unfolding matches
inner-name = record {
  token = record { kind = Quoted []; from = 0; to = 0 };
  meets = refl;
  inner = λ t m. is-name-ordinary t.kind m;
}

pub inner-number : IsInner ANumber
unfolding matches
inner-number = record {
  token = record { kind = Number []; from = 0; to = 0 };
  meets = refl;
  inner = λ t m. is-number-ordinary t.kind m;
} where
  is-number-ordinary : (k : TokenKind) → fits ANumber k ≡ true → is_ordinary k ≡ true
  is-number-ordinary (Number w) e = refl
  is-number-ordinary _ e = absurd cc

pub inner-text : IsInner AText
unfolding matches
inner-text = record {
  token = record { kind = Literal []; from = 0; to = 0 };
  meets = refl;
  inner = λ t m. is-text-ordinary t.kind m;
} where
  is-text-ordinary : (k : TokenKind) → fits AText k ≡ true → is_ordinary k ≡ true
  is-text-ordinary (Literal w) e = refl
  is-text-ordinary _ e = absurd cc

-- a word or a symbol
abbrev pub parses-word : (w : List ℕ) → Parses (the (W w)) (eat (W w)) (W w ∷ []) [] false
parses-word w = parses-the (W w) (inner-exactly (Word w) refl)

abbrev pub parses-symbol : (w : List ℕ) → Parses (the (S w)) (eat (S w)) (S w ∷ []) [] false
parses-symbol w = parses-the (S w) (inner-exactly (Symbol w) refl)

-- LISTS

pub separated-parses : {T : Type 0} {P : Rule T} {p : Parser T} {f e : List Terminal} (w : List ℕ) → Parses P p f e false → disjoint (S w ∷ []) e ≡ true → Parses (rule.separated (S w) P) (separated (S w) p) f ((S w ∷ e) ++ e) false
separated-parses {P = P} {p = p} {f = f} {e = e} w h d =
    parses-then h
    (λ x. parses-loop (λ xs. rule.◌>>=◌ (the (S w)) (λ _. rule.◌>>=◌ P (λ y. give (xs ++ y ∷ [])))) (next_item (S w) p) (S w ∷ []) e
    (λ xs. parses-then (parses-symbol w) (λ _. parses-then h (λ y. parses-give (xs ++ y ∷ [])) refl) (disjoint-none f)) d (x ∷ []))
    d
