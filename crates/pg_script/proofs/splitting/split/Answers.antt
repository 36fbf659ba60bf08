use Rattle.std.proofs.Common.{sym, subst}
use Rattle.pg_script.specs.Script.{IsNoScript}
use Rattle.pg_script.proofs.Passes.Inputs.{not_text}
use Rattle.pg_script.proofs.splitting.split.Goals as goal

pub returns-in-Err-clause-fault : goal.returns-in-Err-clause-fault
returns-in-Err-clause-fault c =
    subst (IsNoScript c.args.input.now) (sym c.bad.ensures) (not_text c.args.input.now _ c.valid_up_to.result c.if-input-gt-MOST_BYTES.false c.valid_up_to.ensures c.in-Err.ensures.cases.1)
