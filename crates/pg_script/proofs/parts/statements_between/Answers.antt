use Rattle.std.proofs.Common.{List, ℕ, subst}
use Rattle.std.proofs.lemmas.Result.{IfOk-weaker}
use Rattle.pg_script.specs.Passes.Spans.{HasSpans}
use Rattle.pg_script.proofs.Passes.Parts.{statements_found}
use Rattle.pg_script.proofs.parts.statements_between.Goals as goal

pub returns : goal.returns
returns c =
    IfOk-weaker c.statements.result _ _ (λ spans h. statements_found c.args.bytes.now c.args.from c.args.to spans c.requires.low c.requires.high (subst (λ (t : List ℕ). HasSpans c.args.from t spans) c.between.ensures h)) c.statements.ensures
