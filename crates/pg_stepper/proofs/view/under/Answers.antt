use Rattle.std.proofs.Common.{ap, sym, ◌∙◌}
use Rattle.pg_run.specs.Runs.{RunOf}
use Rattle.pg_stepper.proofs.Views.{under_none, under_own}
use Rattle.pg_stepper.proofs.view.under.Goals as goal

pub returns-then-len-eq0 : goal.returns-then-len-eq0
returns-then-len-eq0 c = under_none c.args.bare c.args.writes.now.list (sym c.len.ensures.length ∙ c.if-len-eq0.true)

pub returns : goal.returns
returns c = under_own c.args.bare c.put_own.new.self c.in_ok-own.field-0 c.args.writes.now.list c.requires.own (ap (λ (r : RunOf). r.writes) c.in_ok-own.ensures) c.put_own.ensures
