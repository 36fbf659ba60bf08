use Rattle.std.proofs.Common.{rules}
use Rattle.pg_value.proofs.Texts.{pushed, then_goes_on}
use Rattle.pg_value.proofs.text.push_between.Goals as goal

pub returns-in_err-push-clause-more : goal.returns-in_err-push-clause-more
returns-in_err-push-clause-more c = pushed _ _ _ c.args.quote (search rules) c.push.ensures.bytes

pub returns-in_err-push_doubled-clause-more : goal.returns-in_err-push_doubled-clause-more
returns-in_err-push_doubled-clause-more c = then_goes_on _ _ _ (pushed _ _ _ c.args.quote (search rules) c.push.ensures.bytes) c.push_doubled.ensures.more

pub returns-clause-more : goal.returns-clause-more
returns-clause-more c = then_goes_on _ _ _ (then_goes_on _ _ _ (pushed _ _ _ c.args.quote (search rules) c.push.ensures.bytes) c.push_doubled.ensures.more) (pushed _ _ _ c.args.quote (search rules) c.push-2.ensures.bytes)
