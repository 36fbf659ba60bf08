use Rattle.std.proofs.Common.{ap, sym}
use Rattle.pg_ast.specs.Trees.{is_agg}
use Rattle.pg_rules.specs.Changes.InsertJudgement.{resolved}
use Rattle.pg_write.proofs.change.checked.+resolved.Goals as goal

pub returns-in-Agg : goal.returns-in-Agg
returns-in-Agg t c = sym (ap (resolved c.args.columns.now) (is_agg _ _ _ _ c.in-Agg.is))
