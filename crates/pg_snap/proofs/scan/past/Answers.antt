use Rattle.std.proofs.Common.{[]}
use Rattle.std.specs.Option.{option_copied, unwrap_or}
use Rattle.pg_snap.proofs.StepLaws.{past_equal, past_other, past_none}
use Rattle.pg_snap.proofs.scan.past.Goals as goal

pub returns-in-Equal : goal.returns-in-Equal
returns-in-Equal c = past_equal (unwrap_or (option_copied c.args.rows) []) c.args.at c.in-Some.stored.now c.args.key.now.values c.in-Some.ensures.value c.in-Equal.ensures

pub returns-in_default : goal.returns-in_default
returns-in_default c = past_other (unwrap_or (option_copied c.args.rows) []) c.args.at c.in-Some.stored.now c.args.key.now.values c.order_keys.result c.in-Some.ensures.value c.order_keys.ensures c.in_default.not-Equal

pub returns-in-None : goal.returns-in-None
returns-in-None c = past_none (unwrap_or (option_copied c.args.rows) []) c.args.at c.args.key.now.values c.in-None.ensures.value
