use Rattle.std.proofs.Common.{◌≡◌}
use Rattle.std.proofs.lemmas.Result.{IfOk-weaker}
use Rattle.std.specs.declared.option.Option.TheVariants.{Some}
use Rattle.pg_core.specs.State.{Takes, committed}
use Rattle.pg_core.specs.declared.event.Event.TheVariants as events
use Rattle.pg_core.proofs.Replays.{commit_takes}
use Rattle.pg_core.proofs.events.Replayed.commit.Goals as goal

pub returns : goal.returns
returns g c =
    IfOk-weaker c.commit_reply.result (λ reply. committed c.commit.result ≡ Some reply) (λ reply. Takes c.args.self.now (events.Commit c.args.seat c.args.from c.args.writes) reply c.commit.new.self)
    (λ reply h. commit_takes _ _ _ c.args.seat c.args.from c.args.writes c.commit.result reply c.self.view_is c.requires c.commit.ensures h) c.commit_reply.ensures
