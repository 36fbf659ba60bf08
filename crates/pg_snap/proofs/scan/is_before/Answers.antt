use Rattle.std.proofs.Common.{[]}
use Rattle.std.specs.Option.{option_copied, unwrap_or}
use Rattle.pg_snap.proofs.StepLaws.{before_less, before_not, before_none}
use Rattle.pg_snap.proofs.scan.is_before.Goals as goal

pub returns-in-Less : goal.returns-in-Less
returns-in-Less c = before_less (unwrap_or (option_copied c.args.rows) []) c.args.at c.in-Some.stored.now c.args.key.now.values c.in-Some.ensures.value c.in-Less.ensures

pub returns-in_default : goal.returns-in_default
returns-in_default c = before_not (unwrap_or (option_copied c.args.rows) []) c.args.at c.in-Some.stored.now c.args.key.now.values c.order_keys.result c.in-Some.ensures.value c.order_keys.ensures c.in_default.not-Less

pub returns-in-None : goal.returns-in-None
returns-in-None c = before_none (unwrap_or (option_copied c.args.rows) []) c.args.at c.args.key.now.values c.in-None.ensures.value
