-- The parsers of INSERT, UPDATE and DELETE read their rules.
use Rattle.std.proofs.Common.{false, true, List, [], ◌∷◌, ◌++◌, refl}
use Rattle.pg_ast.specs.declared.counted.Scope.TheVariants as scope
use Rattle.pg_ast.specs.Words.Terminals.{Terminal, AName}
use Rattle.pg_ast.specs.Grammar.Rule.{separated}
use Rattle.pg_ast.specs.Grammar.Names.{names}
use Rattle.pg_ast.specs.Grammar.Parts.{optional}
use Rattle.pg_ast.specs.Grammar.Exprs.{whole}
use Rattle.pg_ast.specs.Grammar.Changes as grammar
use Rattle.pg_ast.specs.Words.Names as word
use Rattle.pg_ast.specs.Words as keyword
use Rattle.pg_grammar.specs.Kit.Parses.{Parses, parses-give, parses-then, parses-sized}
use Rattle.pg_grammar.specs.Kit.OneToken.{parses-word, parses-symbol, separated-parses}
use Rattle.pg_grammar.specs.Laws.{parses-name, parses-names}
use Rattle.pg_grammar.specs.Laws.Exprs.{parses-whole, whole_first, whole_on}
use Rattle.pg_sql.specs.Read.Changes as parser
use Rattle.pg_sql.proofs.PartLaws.{parses-optional}

-- what a list of expressions goes on with
abbrev listed_on : List Terminal
listed_on = word.comma ∷ whole_on

parses-value-list : Parses (separated word.comma (whole scope.Insert)) parser.value_list (whole_first scope.Insert) listed_on false
parses-value-list = parses-sized (whole_first scope.Insert) listed_on (separated-parses _ (parses-whole scope.Insert) refl) refl refl

parses-tuple : Parses grammar.tuple parser.tuple (word.opening ∷ []) [] false
unfolding parser.tuple
parses-tuple = parses-then (parses-symbol _) (λ t. parses-then parses-value-list (λ vs. parses-then (parses-symbol _) (λ _. parses-give _) refl) refl) refl

parses-tuple-list : Parses (separated word.comma grammar.tuple) parser.tuple_list (word.opening ∷ []) (word.comma ∷ []) false
parses-tuple-list = separated-parses _ parses-tuple refl

parses-columns : Parses (optional names) parser.columns (word.opening ∷ []) (word.opening ∷ []) true
unfolding parser.columns
parses-columns = parses-optional parses-names

pub parses-insert : Parses grammar.insert parser.insert (keyword.insert ∷ []) (word.comma ∷ []) false
unfolding parser.insert
parses-insert =
    parses-then (parses-word _) (λ _.
    parses-then (parses-word _) (λ _.
    parses-then parses-name (λ t.
    parses-then parses-columns (λ cs.
    parses-then (parses-word _) (λ _.
    parses-then parses-tuple-list (λ ts. parses-give _) refl) refl) refl) refl) refl) refl

parses-set-item : Parses grammar.set_item parser.set_item (AName ∷ []) whole_on false
unfolding parser.set_item
parses-set-item = parses-then parses-name (λ c. parses-then (parses-symbol _) (λ _. parses-then (parses-whole scope.Change) (λ v. parses-give _) refl) refl) refl

parses-set-list : Parses (separated word.comma grammar.set_item) parser.set_list (AName ∷ []) listed_on false
parses-set-list = parses-sized (AName ∷ []) listed_on (separated-parses _ parses-set-item refl) refl refl

parses-condition : Parses grammar.condition parser.condition (keyword.where_word ∷ []) whole_on false
unfolding parser.condition
parses-condition = parses-then (parses-word _) (λ _. parses-whole scope.Change) refl

-- what a change goes on with
abbrev pub change_on : List Terminal
change_on = word.comma ∷ keyword.where_word ∷ whole_on

parses-any-condition : Parses (optional grammar.condition) parser.any_condition (keyword.where_word ∷ []) (whole_on ++ keyword.where_word ∷ []) true
unfolding parser.any_condition
parses-any-condition = parses-optional parses-condition

pub parses-update : Parses grammar.update parser.update (keyword.update ∷ []) change_on false
unfolding parser.update
parses-update =
    parses-sized (keyword.update ∷ []) change_on
    (parses-then (parses-word _) (λ _.
    parses-then parses-name (λ t.
    parses-then (parses-word _) (λ _.
    parses-then parses-set-list (λ ss.
    parses-then parses-any-condition (λ c. parses-give _) refl) refl) refl) refl) refl) refl refl

pub parses-delete : Parses grammar.delete parser.delete (keyword.delete ∷ []) change_on false
unfolding parser.delete
parses-delete =
    parses-sized (keyword.delete ∷ []) change_on
    (parses-then (parses-word _) (λ _.
    parses-then (parses-word _) (λ _.
    parses-then parses-name (λ t.
    parses-then parses-any-condition (λ c. parses-give _) refl) refl) refl) refl) refl refl
