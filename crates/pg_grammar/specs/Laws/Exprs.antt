-- The parsers of expressions read their rules.
use Rattle.std.proofs.Common.{◌≡◌, ℕ, zero, suc, ◌-◌, false, List, [], ◌∷◌, ◌++◌, refl, sym, inl, inr}
use Rattle.std.proofs.lemmas.List.{append-nil}
use Rattle.std.specs.Prelude.{codes}
use Rattle.pg_lex.specs.declared.token.Token.{Token}
use Rattle.pg_lex.specs.declared.token.TokenKind.TheVariants.{Symbol}
use Rattle.pg_ast.specs.declared.expr.Agg.{Agg}
use Rattle.pg_ast.specs.declared.expr.Agg.TheVariants as agg
use Rattle.pg_ast.specs.declared.expr.BinOp.{BinOp}
use Rattle.pg_ast.specs.declared.expr.BinOp.TheVariants as bin
use Rattle.pg_ast.specs.declared.counted.Scope.{Scope}
use Rattle.pg_ast.specs.declared.counted.Scope.TheVariants.{Insert, Change, Query}
use Rattle.pg_ast.specs.declared.counted.AggWord.{AggWord}
use Rattle.pg_ast.specs.declared.counted.CountedExpr.{CountedExpr}
use Rattle.pg_ast.specs.Words.Terminals.{Terminal, W, S, AName, ANumber, AText, is_among, matches, text_of}
use Rattle.pg_ast.specs.Grammar.Rule.{Rule, Then, repeat, the}
use Rattle.pg_ast.specs.Grammar.Counting.{allows}
use Rattle.pg_ast.specs.Grammar.Exprs as grammar
use Rattle.pg_ast.specs.Grammar.Names as grammar-names
use Rattle.pg_ast.specs.Words.Exprs as word
use Rattle.pg_grammar.specs.Kit.Reading.{Parser}
use Rattle.pg_grammar.specs.Read.Exprs as parser
use Rattle.pg_grammar.specs.Kit.Sets.{disjoint-sound}
use Rattle.pg_grammar.specs.Kit.Parses.{Parses, parses-the, parses-give, parses-then, parses-or, parses-loop-if, guarded-or, parses-first, parses-sized}
use Rattle.pg_grammar.specs.Kit.Choices.{BegunBy, NeverTwo, AlwaysTwo, parses-two, never-then, never-or, never-only, never-apart}
use Rattle.pg_grammar.specs.Kit.Optional.{parses-placed}
use Rattle.pg_grammar.specs.Kit.OneToken.{parses-word, parses-symbol, inner-number, inner-text}
use Rattle.pg_grammar.specs.Laws.{parses-name}

abbrev pub literal_first : List Terminal
literal_first = ANumber ∷ AText ∷ word.true_word ∷ word.false_word ∷ word.null ∷ []

abbrev pub base_first : List Terminal
base_first = AName ∷ literal_first

abbrev pub primary_first : List Terminal
primary_first = word.opening ∷ word.count ∷ word.sum_word ∷ word.min_word ∷ word.max_word ∷ base_first

abbrev pub unary_first : List Terminal
unary_first = word.minus ∷ primary_first

abbrev pub neg_first : List Terminal
neg_first = word.not_word ∷ unary_first

-- what each level goes on with
abbrev pub sum_on : List Terminal
sum_on = word.plus ∷ word.minus ∷ word.star ∷ []

abbrev pub test_on : List Terminal
test_on = word.is_word ∷ word.equals ∷ word.unequal ∷ word.less ∷ word.at_most ∷ word.greater ∷ word.at_least ∷ sum_on

abbrev pub conj_on : List Terminal
conj_on = word.and_word ∷ test_on

abbrev pub whole_on : List Terminal
whole_on = word.or_word ∷ conj_on

-- what an expression may begin with: in a query, or anywhere
abbrev pub whole_first : Scope → List Terminal
whole_first s = neg_first

-- LITERALS AND REFERENCES

parses-literal : Parses grammar.literal parser.literal literal_first [] false
unfolding parser.literal parser.number parser.text parser.constant
parses-literal =
    parses-or (parses-then (parses-the ANumber inner-number) (λ t. parses-give _) refl)
    (parses-or (parses-then (parses-the AText inner-text) (λ t. parses-give _) refl)
    (parses-or (parses-then (parses-word (codes "TRUE")) (λ t. parses-give _) refl)
    (parses-or (parses-then (parses-word (codes "FALSE")) (λ t. parses-give _) refl)
    (parses-then (parses-word (codes "NULL")) (λ t. parses-give _) refl) refl) refl) refl) refl

parses-column : Parses grammar.column parser.column (AName ∷ []) [] false
unfolding parser.column
parses-column = parses-then parses-name (λ n. parses-give _) refl

parses-property : Parses grammar.property parser.property (AName ∷ []) [] false
unfolding parser.property
parses-property = parses-then parses-name (λ v. parses-then (parses-symbol (codes ".")) (λ _. parses-then parses-name (λ n. parses-give _) refl) refl) refl

parses-base : (s : Scope) (k : ℕ) → Parses (grammar.base s k) (parser.base s k) base_first [] false
unfolding parser.base is_among
parses-base Insert k = parses-first (AName ∷ []) (parses-then parses-literal (λ e. parses-give _) refl)
parses-base Change k = parses-or (parses-then parses-column (λ e. parses-give _) refl) (parses-then parses-literal (λ e. parses-give _) refl) refl
parses-base Query k = parses-or (parses-then parses-property (λ e. parses-give _) refl) (parses-then parses-literal (λ e. parses-give _) refl) refl

-- OPERATORS

parses-comparison : Parses grammar.comparison parser.comparison parser.comparison_signs [] false
unfolding parser.comparison parser.operator
parses-comparison =
    parses-or (parses-then (parses-symbol (codes "=")) (λ t. parses-give _) refl)
    (parses-or (parses-then (parses-symbol (codes "<>")) (λ t. parses-give _) refl)
    (parses-or (parses-then (parses-symbol (codes "<")) (λ t. parses-give _) refl)
    (parses-or (parses-then (parses-symbol (codes "<=")) (λ t. parses-give _) refl)
    (parses-or (parses-then (parses-symbol (codes ">")) (λ t. parses-give _) refl)
    (parses-then (parses-symbol (codes ">=")) (λ t. parses-give _) refl) refl) refl) refl) refl) refl

parses-operator-word : (w : List ℕ) (op : BinOp) → Parses (grammar.operator (W w) op) (parser.operator (W w) op) (W w ∷ []) [] false
unfolding parser.operator
parses-operator-word w op = parses-then (parses-word w) (λ t. parses-give _) refl

parses-star : Parses (grammar.operator word.star bin.Times) (parser.operator word.star bin.Times) (word.star ∷ []) [] false
unfolding parser.operator
parses-star = parses-then (parses-symbol (codes "*")) (λ t. parses-give _) refl

parses-plus-or-minus : Parses grammar.plus_or_minus parser.plus_or_minus (word.plus ∷ word.minus ∷ []) [] false
unfolding parser.plus_or_minus parser.operator
parses-plus-or-minus =
    parses-or (parses-then (parses-symbol (codes "+")) (λ t. parses-give _) refl) (parses-then (parses-symbol (codes "-")) (λ t. parses-give _) refl) refl

parses-agg-word : Parses grammar.agg_word parser.agg_word parser.agg_words [] false
unfolding parser.agg_word parser.agg_word_of
parses-agg-word =
    parses-or (parses-then (parses-word (codes "COUNT")) (λ t. parses-give _) refl)
    (parses-or (parses-then (parses-word (codes "SUM")) (λ t. parses-give _) refl)
    (parses-or (parses-then (parses-word (codes "MIN")) (λ t. parses-give _) refl)
    (parses-then (parses-word (codes "MAX")) (λ t. parses-give _) refl) refl) refl) refl

parses-null-test : (x : CountedExpr) → Parses (grammar.null_test x) (parser.null_test x) (word.is_word ∷ []) [] false
unfolding parser.null_test
parses-null-test x =
    parses-then (parses-word (codes "IS")) (λ t.
    parses-or
    (parses-then (parses-word (codes "NOT")) (λ _. parses-then (parses-word (codes "NULL")) (λ _. parses-give _) refl) refl)
    (parses-then (parses-word (codes "NULL")) (λ _. parses-give _) refl) refl) refl

parses-of-variable : (a : AggWord) (k : ℕ) → Parses (grammar.of_variable a k) (parser.of_variable a k) (AName ∷ []) [] false
unfolding parser.of_variable
parses-of-variable a k = parses-then parses-name (λ v. parses-then (parses-symbol (codes ")")) (λ _. parses-give _) refl) refl

-- THE LEVELS

module _ (P : ℕ → Rule CountedExpr) (p : ℕ → Parser CountedExpr) (h : (k : ℕ) → Parses (P k) (p k) primary_first [] false) where
  parses-unary : (k : ℕ) → Parses (grammar.unary P k) (parser.unary p k) unary_first [] false
  unfolding parser.unary
  parses-unary zero = parses-first (word.minus ∷ []) (h zero)
  parses-unary (suc k) =
      parses-or (parses-then (parses-symbol (codes "-")) (λ t. parses-then (parses-unary k) (λ x. parses-give _) refl) refl) (h (suc k)) refl

  parses-next-factor : (x : CountedExpr) → Parses (grammar.next_factor P x) (parser.next_factor p x) (word.star ∷ []) [] false
  unfolding parser.next_factor
  parses-next-factor x = parses-then parses-star (λ t. parses-then (parses-unary (x.left - 1)) (λ y. parses-give _) refl) refl

  parses-prod : (k : ℕ) → Parses (grammar.prod P k) (parser.prod p k) unary_first (word.star ∷ []) false
  unfolding parser.prod
  parses-prod k =
      parses-then (parses-unary k) (λ x. parses-loop-if (grammar.next_factor P) (parser.next_factor p) (word.star ∷ []) [] (λ x. allows x.left) parses-next-factor refl x) refl

  parses-next-term : (x : CountedExpr) → Parses (grammar.next_term P x) (parser.next_term p x) (word.plus ∷ word.minus ∷ []) (word.star ∷ []) false
  unfolding parser.next_term
  parses-next-term x = parses-then parses-plus-or-minus (λ o. parses-then (parses-prod (x.left - 1)) (λ y. parses-give _) refl) refl

  parses-sum : (k : ℕ) → Parses (grammar.sum P k) (parser.sum p k) unary_first sum_on false
  unfolding parser.sum
  parses-sum k =
      parses-sized unary_first sum_on
      (parses-then (parses-prod k) (λ x. parses-loop-if (grammar.next_term P) (parser.next_term p) (word.plus ∷ word.minus ∷ []) (word.star ∷ []) (λ x. allows x.left) parses-next-term refl x) refl) refl refl

  parses-compared : (x : CountedExpr) → Parses (grammar.compared P x) (parser.compared p x) parser.comparison_signs sum_on false
  unfolding parser.compared
  parses-compared x = parses-then parses-comparison (λ o. parses-then (parses-sum (x.left - 1)) (λ y. parses-give _) refl) refl

  parses-test : (k : ℕ) → Parses (grammar.test P k) (parser.boolean_test p k) unary_first test_on false
  unfolding parser.boolean_test
  parses-test k =
      parses-sized unary_first test_on
      (parses-then (parses-sum k) (λ x.
      guarded-or (allows x.left) (parses-compared x) (guarded-or (allows x.left) (parses-null-test x) (parses-give x) refl) refl) refl) refl refl

  parses-neg : (k : ℕ) → Parses (grammar.neg P k) (parser.neg p k) neg_first test_on false
  unfolding parser.neg is_among
  parses-neg zero = parses-first (word.not_word ∷ []) (parses-test zero)
  parses-neg (suc k) =
      parses-sized neg_first test_on
      (parses-or (parses-then (parses-word (codes "NOT")) (λ t. parses-then (parses-neg k) (λ x. parses-give _) refl) refl) (parses-test (suc k)) refl) refl refl

  parses-next-neg : (x : CountedExpr) → Parses (grammar.next_neg P x) (parser.next_neg p x) (word.and_word ∷ []) test_on false
  unfolding parser.next_neg
  parses-next-neg x = parses-then (parses-operator-word (codes "AND") bin.And) (λ t. parses-then (parses-neg (x.left - 1)) (λ y. parses-give _) refl) refl

  parses-conj : (k : ℕ) → Parses (grammar.conj P k) (parser.conj p k) neg_first conj_on false
  unfolding parser.conj
  parses-conj k =
      parses-sized neg_first conj_on
      (parses-then (parses-neg k) (λ x. parses-loop-if (grammar.next_neg P) (parser.next_neg p) (word.and_word ∷ []) test_on (λ x. allows x.left) parses-next-neg refl x) refl) refl refl

  parses-next-conj : (x : CountedExpr) → Parses (grammar.next_conj P x) (parser.next_conj p x) (word.or_word ∷ []) conj_on false
  unfolding parser.next_conj
  parses-next-conj x = parses-then (parses-operator-word (codes "OR") bin.Or) (λ t. parses-then (parses-conj (x.left - 1)) (λ y. parses-give _) refl) refl

  parses-any-of : (k : ℕ) → Parses (grammar.any_of P k) (parser.any_of p k) neg_first whole_on false
  unfolding parser.any_of
  parses-any-of k =
      parses-sized neg_first whole_on
      (parses-then (parses-conj k) (λ x. parses-loop-if (grammar.next_conj P) (parser.next_conj p) (word.or_word ∷ []) conj_on (λ x. allows x.left) parses-next-conj refl x) refl) refl refl

  parses-paren : (k : ℕ) → Parses (grammar.paren P k) (parser.paren p k) (word.opening ∷ []) [] false
  unfolding parser.paren
  parses-paren k =
      parses-then (parses-symbol (codes "(")) (λ _. parses-then (parses-any-of k) (λ x. parses-then (parses-symbol (codes ")")) (λ _. parses-give _) refl) refl) refl

  parses-of-expr : (a : AggWord) (k : ℕ) → Parses (grammar.of_expr P a k) (parser.of_expr p a k) neg_first [] false
  unfolding parser.of_expr
  parses-of-expr a k = parses-then (parses-any-of k) (λ x. parses-then (parses-symbol (codes ")")) (λ _. parses-give _) refl) refl

-- COUNT OF A VARIABLE OR OF AN EXPRESSION: TWO TOKENS TELL

abbrev closing : Token
closing = record { kind = Symbol (codes ")"); from = 0; to = 0 }

variable-begun : (a : AggWord) (k : ℕ) → BegunBy AName (grammar.of_variable a k)
unfolding matches
variable-begun a k t m = (
  _,
  closing ∷ [],
  record {
    first = _;
    front = t ∷ [];
    back = closing ∷ [];
    parts = refl;
    begins = record { first = t; front = t ∷ []; back = []; parts = refl; begins = (refl, m); goes_on = (refl, refl) };
    goes_on = record { first = closing; front = closing ∷ []; back = []; parts = refl; begins = (refl, refl); goes_on = (refl, refl) };
  },
)

always-variable : (a : AggWord) (k : ℕ) → AlwaysTwo AName word.close (grammar.of_variable a k)
always-variable a k t u w h =
    let v = h.begins in
    let c = h.goes_on in
    rw (h.parts, v.parts, v.begins.0, v.goes_on.1, c.parts, c.begins.0) (rw (v.begins.1, c.begins.1) refl)

-- a rule's own, with no further turn
no-turn : {A : Type 0} (R : Rule A) (S : A → Rule A) → BegunBy AName R → BegunBy AName (Then R (repeat S))
no-turn R S b t m = let r = b t m in (r.0, r.1, record { first = r.0; front = t ∷ r.1; back = []; parts = sym (append-nil (t ∷ r.1)); begins = r.2; goes_on = (0, (refl, refl)) })

module _ (P : ℕ → Rule CountedExpr) (b : (k : ℕ) → BegunBy AName (P k)) where
  begun-unary : (k : ℕ) → BegunBy AName (grammar.unary P k)
  begun-unary zero t m = b zero t m
  begun-unary (suc k) t m = let r = b (suc k) t m in (r.0, r.1, inr r.2)

  begun-sum : (k : ℕ) → BegunBy AName (grammar.sum P k)
  begun-sum k = no-turn (grammar.prod P k) _ (no-turn (grammar.unary P k) _ (begun-unary k))

  begun-test : (k : ℕ) → BegunBy AName (grammar.test P k)
  begun-test k t m = let r = begun-sum k t m in (r.0, r.1, record { first = r.0; front = t ∷ r.1; back = []; parts = sym (append-nil (t ∷ r.1)); begins = r.2; goes_on = inr (inr (refl, refl)) })

  begun-neg : (k : ℕ) → BegunBy AName (grammar.neg P k)
  begun-neg zero t m = begun-test zero t m
  begun-neg (suc k) t m = let r = begun-test (suc k) t m in (r.0, r.1, inr r.2)

  begun-any-of : (k : ℕ) → BegunBy AName (grammar.any_of P k)
  begun-any-of k = no-turn (grammar.conj P k) _ (no-turn (grammar.neg P k) _ (begun-neg k))

  begun-of-expr : (a : AggWord) (k : ℕ) → BegunBy AName (grammar.of_expr P a k)
  unfolding matches
  begun-of-expr a k t m =
      let r = begun-any-of k t m in (
        _,
        r.1 ++ closing ∷ [],
        record {
          first = r.0;
          front = t ∷ r.1;
          back = closing ∷ [];
          parts = refl;
          begins = r.2;
          goes_on = record { first = closing; front = closing ∷ []; back = []; parts = refl; begins = (refl, refl); goes_on = (refl, refl) };
        },
      )

never-the : (w : List ℕ) (q : Terminal) → NeverTwo AName q (the (S w))
never-the w q = never-apart AName q (parses-symbol w) refl

module _ (P : ℕ → Rule CountedExpr) (n : (k : ℕ) → NeverTwo AName word.close (P k)) where
  never-unary : (k : ℕ) → NeverTwo AName word.close (grammar.unary P k)
  never-unary zero = n zero
  never-unary (suc k) = never-or AName word.close (never-then AName word.close (never-the (codes "-") word.close)) (n (suc k))

  never-test : (k : ℕ) → NeverTwo AName word.close (grammar.test P k)
  never-test k = never-then AName word.close (never-then AName word.close (never-then AName word.close (never-unary k)))

  never-neg : (k : ℕ) → NeverTwo AName word.close (grammar.neg P k)
  unfolding is_among
  never-neg zero = never-test zero
  never-neg (suc k) = never-or AName word.close (never-then AName word.close (never-apart AName word.close (parses-word (codes "NOT")) refl)) (never-test (suc k))

  never-of-expr : (a : AggWord) (k : ℕ) → NeverTwo AName word.close (grammar.of_expr P a k)
  never-of-expr a k = never-then AName word.close (never-then AName word.close (never-then AName word.close (never-neg k)))

module _ (P : ℕ → Rule CountedExpr) (p : ℕ → Parser CountedExpr) (h : (k : ℕ) → Parses (P k) (p k) primary_first [] false)
    (b : (k : ℕ) → BegunBy AName (P k)) (n : (k : ℕ) → NeverTwo AName word.close (P k)) where
  parses-argument : (g : Agg) (a : AggWord) (k : ℕ) → Parses (grammar.argument P g a k) (parser.argument p g a k) (AName ∷ neg_first) [] false
  unfolding parser.argument
  parses-argument agg.Count a k =
      parses-two AName word.close (parses-of-variable a k) (parses-of-expr P p h a k) (variable-begun a k) (begun-of-expr P b a k) (always-variable a k) (never-of-expr P n a k)
  parses-argument agg.Sum a k = parses-first (AName ∷ []) (parses-of-expr P p h a k)
  parses-argument agg.Min a k = parses-first (AName ∷ []) (parses-of-expr P p h a k)
  parses-argument agg.Max a k = parses-first (AName ∷ []) (parses-of-expr P p h a k)

  parses-aggregate : (k : ℕ) → Parses (grammar.aggregate P k) (parser.aggregate p k) parser.agg_words [] false
  unfolding parser.aggregate
  parses-aggregate k = parses-then parses-agg-word (λ a. parses-then (parses-symbol (codes "(")) (λ _. parses-argument a.agg a (k - 1)) refl) refl

-- PRIMARY AND WHOLE

begun-property : (k : ℕ) → BegunBy AName (grammar.base Query k)
unfolding matches
begun-property k t m = (
  _,
  point ∷ t ∷ [],
  inl (record {
    first = _;
    front = t ∷ point ∷ t ∷ [];
    back = [];
    parts = refl;
    begins = record {
      first = _;
      front = t ∷ [];
      back = point ∷ t ∷ [];
      parts = refl;
      begins = a-name;
      goes_on = record {
        first = point;
        front = point ∷ [];
        back = t ∷ [];
        parts = refl;
        begins = (refl, refl);
        goes_on = record { first = _; front = t ∷ []; back = []; parts = refl; begins = a-name; goes_on = (refl, refl) };
      };
    };
    goes_on = (refl, refl);
  }),
) where
  point : Token
  point = record { kind = Symbol (codes "."); from = 0; to = 0 }

  a-name : grammar-names.name (record { text = text_of t; at = t.from }) (t ∷ [])
  a-name = record { first = t; front = t ∷ []; back = []; parts = refl; begins = (refl, m); goes_on = (refl, refl) }

never-property : NeverTwo AName word.close grammar.property
never-property t u w h =
    let v = h.begins in
    let c = h.goes_on in
    let other : matches word.close c.first ≡ false = disjoint-sound (word.dot ∷ []) (word.close ∷ []) c.first refl c.begins.1 in
    rw (h.parts, v.parts, v.begins.0, v.goes_on.1, c.parts, c.begins.0) (rw (v.begins.1, other) refl)

never-base : (k : ℕ) → NeverTwo AName word.close (grammar.base Query k)
unfolding is_among
never-base k = never-or AName word.close (never-then AName word.close never-property) (never-then AName word.close (never-apart AName word.close parses-literal refl))

begun-primary : (depth k : ℕ) → BegunBy AName (grammar.primary Query depth k)
unfolding grammar.primary
begun-primary zero k t m = begun-property k t m
begun-primary (suc depth) k t m = let r = begun-property k t m in (r.0, r.1, inr (inr r.2))

never-primary : (depth k : ℕ) → NeverTwo AName word.close (grammar.primary Query depth k)
unfolding grammar.primary is_among
never-primary zero k = never-base k
never-primary (suc depth) k =
    never-or AName word.close (never-then AName word.close (never-the (codes "(") word.close))
    (never-or AName word.close (never-only (allows k) AName word.close (never-then AName word.close (never-apart AName word.close parses-agg-word refl))) (never-base k))

parses-primary : (s : Scope) (depth k : ℕ) → Parses (grammar.primary s depth k) (parser.primary s depth k) primary_first [] false
unfolding parser.primary grammar.primary is_among
parses-primary Insert zero k = parses-first (word.opening ∷ parser.agg_words) (parses-base Insert k)
parses-primary Change zero k = parses-first (word.opening ∷ parser.agg_words) (parses-base Change k)
parses-primary Query zero k = parses-first (word.opening ∷ parser.agg_words) (parses-base Query k)
parses-primary Insert (suc depth) k = parses-sized primary_first [] (parses-or (parses-paren _ _ (parses-primary Insert depth) k) (parses-base Insert k) refl) refl refl
parses-primary Change (suc depth) k = parses-sized primary_first [] (parses-or (parses-paren _ _ (parses-primary Change depth) k) (parses-base Change k) refl) refl refl
parses-primary Query (suc depth) k =
    parses-or (parses-paren _ _ (parses-primary Query depth) k)
    (guarded-or (allows k) (parses-aggregate _ _ (parses-primary Query depth) (begun-primary depth) (never-primary depth) k) (parses-base Query k) refl) refl

pub parses-counted-expr : (s : Scope) → Parses (grammar.counted_expr s) (parser.counted_expr s) (whole_first s) whole_on false
unfolding parser.counted_expr
parses-counted-expr s = parses-any-of _ _ (parses-primary s 64) 255

pub parses-counted-whole : (s : Scope) → Parses (grammar.counted_whole s) (parser.counted_whole s) (whole_first s) whole_on false
unfolding parser.counted_whole
parses-counted-whole s = parses-then (parses-placed (parses-counted-expr s)) (λ x. parses-give _) refl

pub parses-whole : (s : Scope) → Parses (grammar.whole s) (parser.whole s) (whole_first s) whole_on false
unfolding parser.whole
parses-whole s = parses-then (parses-counted-whole s) (λ x. parses-give x.whole) refl
