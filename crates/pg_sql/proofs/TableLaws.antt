-- The parsers of CREATE TABLE read its rules.
use Rattle.std.proofs.Common.{false, true, [], ◌∷◌, refl, filter_map, flat_map}
use Rattle.std.specs.Prelude.{codes}
use Rattle.pg_lex.specs.declared.token.Token.{Token}
use Rattle.pg_ast.specs.declared.define.Define.{Define}
use Rattle.pg_ast.specs.declared.define.Define.TheVariants.{Table}
use Rattle.pg_ast.specs.Words.Terminals.{AName, ANumber, is_among}
use Rattle.pg_ast.specs.Grammar.Rule.{Rule, ◌>>=◌, give, the}
use Rattle.pg_ast.specs.Grammar.Names.{name}
use Rattle.pg_ast.specs.Grammar.Parts.{many, listed}
use Rattle.pg_ast.specs.Grammar.Definitions as grammar
use Rattle.pg_ast.specs.Words.Names as word
use Rattle.pg_ast.specs.Words as keyword
use Rattle.pg_grammar.specs.Kit.Parses.{Parses, parses-the, parses-give, parses-then, parses-or}
use Rattle.pg_grammar.specs.Kit.OneToken.{inner-number, parses-word, parses-symbol}
use Rattle.pg_grammar.specs.Laws.{parses-name, parses-names}
use Rattle.pg_sql.specs.Read.Tables as parser
use Rattle.pg_sql.proofs.PartLaws.{parses-more, parses-listed}

parses-varchar : Parses (the keyword.varchar >>= grammar.size) parser.varchar (keyword.varchar ∷ []) (word.opening ∷ []) false
unfolding parser.varchar
parses-varchar =
    parses-then (parses-word _) (λ t.
    parses-or
    (parses-then (parses-symbol _) (λ _. parses-then (parses-the ANumber inner-number) (λ n. parses-then (parses-symbol _) (λ _. parses-give _) refl) refl) refl)
    (parses-give _) refl) refl

parses-kind : Parses grammar.kind parser.kind (keyword.integer ∷ keyword.int ∷ keyword.boolean ∷ keyword.varchar ∷ []) (word.opening ∷ []) false
unfolding parser.kind
parses-kind =
    parses-or (parses-then (parses-word _) (λ _. parses-give _) refl)
    (parses-or (parses-then (parses-word _) (λ _. parses-give _) refl)
    (parses-or (parses-then (parses-word _) (λ _. parses-give _) refl) parses-varchar refl) refl) refl

parses-mark : Parses grammar.mark parser.mark (keyword.not_word ∷ keyword.primary ∷ []) [] false
unfolding parser.mark
parses-mark =
    parses-or
    (parses-then (parses-word _) (λ _. parses-then (parses-word _) (λ _. parses-give _) refl) refl)
    (parses-then (parses-word _) (λ _. parses-then (parses-word _) (λ _. parses-give _) refl) refl) refl

parses-marks : Parses (many grammar.mark) parser.marks (keyword.not_word ∷ keyword.primary ∷ []) (keyword.not_word ∷ keyword.primary ∷ []) true
parses-marks = parses-more parses-mark refl []

parses-item : Parses grammar.item parser.item (keyword.primary ∷ AName ∷ []) (keyword.not_word ∷ keyword.primary ∷ word.opening ∷ []) false
unfolding parser.item parser.column is_among
parses-item =
    parses-or
    (parses-then (parses-word (codes "PRIMARY")) (λ _. parses-then (parses-word (codes "KEY")) (λ _. parses-then parses-names (λ ns. parses-give _) refl) refl) refl)
    (parses-then parses-name (λ n. parses-then parses-kind (λ k. parses-then parses-marks (λ ms. parses-give _) refl) refl) refl) refl

parses-items : Parses (listed grammar.item) parser.items (word.opening ∷ []) [] false
unfolding parser.items
parses-items = parses-listed parses-item refl refl

-- CREATE TABLE behind its first token
abbrev pub table_behind : Token → Rule Define
table_behind t = do
  _ ← the keyword.table
  n ← name
  is ← listed grammar.item
  give (Table (record { name = n; columns = filter_map grammar.column_of is; keys = flat_map grammar.keys_of is; at = t.from }))

pub parses-table : (t : Token) → Parses (table_behind t) (parser.table t) (keyword.table ∷ []) [] false
unfolding parser.table
parses-table t = parses-then (parses-word _) (λ _. parses-then parses-name (λ n. parses-then parses-items (λ is. parses-give _) refl) refl) refl
