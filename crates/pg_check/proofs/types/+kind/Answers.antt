use Rattle.std.proofs.Common.{ap, sym, ◌∙◌, Some}
use Rattle.pg_ast.specs.Trees.{tree_of, is_unary, is_binary}
use Rattle.pg_meaning.specs.Typing.{kind_of}
use Rattle.pg_check.proofs.types.+kind.Goals as goal

pub returns-in-Unary : goal.returns-in-Unary
returns-in-Unary g t c = ap Some c.unary_kind.ensures ∙ sym (ap (kind_of (g.K.NameKinds.names c.args.kinds.now)) (is_unary _ _ _ _ c.in-Unary.is))

pub returns-in-Binary : goal.returns-in-Binary
returns-in-Binary g t c = ap Some c.binary_kind.ensures ∙ sym (ap (kind_of (g.K.NameKinds.names c.args.kinds.now)) (is_binary _ _ _ _ _ c.in-Binary.is))
