use Rattle.std.proofs.Common.{ap, sym}
use Rattle.pg_meaning.specs.CExprs.{is_unary, is_binary, is_agg}
use Rattle.pg_write.specs.KeyOfCondition as spec
use Rattle.pg_write.proofs.keyed.is_column.Goals as goal

pub returns-in-Unary : goal.returns-in-Unary
returns-in-Unary c = sym (ap (spec.is_column c.args.column) (is_unary _ _ _ c.in-Unary.is))

pub returns-in-Binary : goal.returns-in-Binary
returns-in-Binary c = sym (ap (spec.is_column c.args.column) (is_binary _ _ _ _ c.in-Binary.is))

pub returns-in-Agg : goal.returns-in-Agg
returns-in-Agg c = sym (ap (spec.is_column c.args.column) (is_agg _ _ _ c.in-Agg.is))
