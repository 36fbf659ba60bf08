-- The parsers of label expressions read their rules.
use Rattle.std.proofs.Common.{ℕ, zero, suc, ◌-◌, false, List, [], ◌∷◌, refl}
use Rattle.std.specs.Prelude.{codes}
use Rattle.pg_ast.specs.declared.counted.CountedLabel.{CountedLabel}
use Rattle.pg_ast.specs.Words.Terminals.{Terminal, AName}
use Rattle.pg_grammar.specs.Kit.Reading.{Parser}
use Rattle.pg_ast.specs.Grammar.Rule.{Rule}
use Rattle.pg_ast.specs.Grammar.Counting.{allows}
use Rattle.pg_ast.specs.Grammar.Labels as grammar
use Rattle.pg_grammar.specs.Read.Labels as parser
use Rattle.pg_ast.specs.Words.Names as word
use Rattle.pg_grammar.specs.Kit.Parses.{Parses, parses-give, parses-then, parses-or, parses-loop-if, parses-first, parses-sized}
use Rattle.pg_grammar.specs.Kit.OneToken.{parses-symbol}
use Rattle.pg_grammar.specs.Laws.{parses-name}

-- what a label expression may begin with, without and with an operator
abbrev pub primary_first : List Terminal
primary_first = word.opening ∷ word.percent ∷ AName ∷ []

abbrev pub labels_first : List Terminal
labels_first = word.exclaim ∷ primary_first

-- what a label expression goes on with
abbrev pub labels_on : List Terminal
labels_on = word.bar ∷ word.ampersand ∷ []

parses-base : (k : ℕ) → Parses (grammar.base k) (parser.base k) (word.percent ∷ AName ∷ []) [] false
unfolding parser.base
parses-base k = parses-or (parses-then (parses-symbol (codes "%")) (λ _. parses-give _) refl) (parses-then parses-name (λ n. parses-give _) refl) refl

module _ (P : ℕ → Rule CountedLabel) (p : ℕ → Parser CountedLabel) (h : (k : ℕ) → Parses (P k) (p k) primary_first [] false) where
  parses-complement : (k : ℕ) → Parses (grammar.complement P k) (parser.complement p k) labels_first [] false
  unfolding parser.complement
  parses-complement zero = parses-first (word.exclaim ∷ []) (h zero)
  parses-complement (suc k) =
      parses-or (parses-then (parses-symbol (codes "!")) (λ _. parses-then (parses-complement k) (λ x. parses-give _) refl) refl) (h (suc k)) refl

  parses-next-complement : (x : CountedLabel) → Parses (grammar.next_complement P x) (parser.next_complement p x) (word.ampersand ∷ []) [] false
  unfolding parser.next_complement
  parses-next-complement x = parses-then (parses-symbol (codes "&")) (λ _. parses-then (parses-complement (x.left - 1)) (λ y. parses-give _) refl) refl

  parses-intersection : (k : ℕ) → Parses (grammar.intersection P k) (parser.intersection p k) labels_first (word.ampersand ∷ []) false
  parses-intersection k =
      parses-then (parses-complement k)
      (λ x. parses-loop-if (grammar.next_complement P) (parser.next_complement p) (word.ampersand ∷ []) [] (λ x. allows x.left) parses-next-complement refl x) refl

  parses-next-intersection : (x : CountedLabel) → Parses (grammar.next_intersection P x) (parser.next_intersection p x) (word.bar ∷ []) (word.ampersand ∷ []) false
  unfolding parser.next_intersection
  parses-next-intersection x = parses-then (parses-symbol (codes "|")) (λ _. parses-then (parses-intersection (x.left - 1)) (λ y. parses-give _) refl) refl

  pub parses-union : (k : ℕ) → Parses (grammar.union P k) (parser.union p k) labels_first labels_on false
  parses-union k =
      parses-sized labels_first labels_on
      (parses-then (parses-intersection k)
      (λ x. parses-loop-if (grammar.next_intersection P) (parser.next_intersection p) (word.bar ∷ []) (word.ampersand ∷ []) (λ x. allows x.left) parses-next-intersection refl x) refl) refl refl

parses-paren : (P : ℕ → Rule CountedLabel) (p : ℕ → Parser CountedLabel) → ((k : ℕ) → Parses (P k) (p k) primary_first [] false) → (k : ℕ) → Parses (grammar.paren P k) (parser.paren p k) (word.opening ∷ []) [] false
unfolding parser.paren
parses-paren P p h k = parses-then (parses-symbol (codes "(")) (λ _. parses-then (parses-union P p h k) (λ x. parses-then (parses-symbol (codes ")")) (λ _. parses-give x) refl) refl) refl

pub parses-primary : (depth k : ℕ) → Parses (grammar.primary depth k) (parser.primary depth k) primary_first [] false
unfolding parser.primary grammar.primary
parses-primary zero k = parses-first (word.opening ∷ []) (parses-base k)
parses-primary (suc depth) k = parses-or (parses-paren _ _ (parses-primary depth) k) (parses-base k) refl

pub parses-labels : Parses grammar.labels parser.labels labels_first labels_on false
unfolding parser.labels
parses-labels = parses-then (parses-union _ _ (parses-primary 64) 255) (λ x. parses-give x.label) refl
