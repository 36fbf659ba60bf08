-- The parsers of names read their rules.
pub mod Exprs
pub mod Labels
use Rattle.std.proofs.Common.{false, [], ◌∷◌, refl}
use Rattle.pg_ast.specs.Words.Terminals.{AName}
use Rattle.pg_ast.specs.Grammar.Names as grammar
use Rattle.pg_grammar.specs.Read as parser
use Rattle.pg_ast.specs.Words.Names as word
use Rattle.pg_grammar.specs.Kit.Parses.{Parses, parses-the, parses-give, parses-then}
use Rattle.pg_grammar.specs.Kit.OneToken.{inner-name, parses-symbol, separated-parses}

pub parses-name : Parses grammar.name parser.name (AName ∷ []) [] false
unfolding parser.name
parses-name = parses-then (parses-the AName inner-name) (λ t. parses-give _) refl

pub parses-names : Parses grammar.names parser.names (word.opening ∷ []) [] false
unfolding parser.names
parses-names =
    parses-then (parses-symbol _) (λ _.
    parses-then (separated-parses _ parses-name refl) (λ ns.
    parses-then (parses-symbol _) (λ _. parses-give ns) refl) refl) refl
