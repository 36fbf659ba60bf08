use Rattle.std.proofs.Common.{ap, ◌∙◌}
use Rattle.std.specs.Prelude.{◌++◌, ◌∷◌, []}
use Rattle.pg_core.proofs.Good.{commit_good}
use Rattle.pg_core.proofs.versions.Versions.commit.Goals as goal

pub invariant_of-self-2 : goal.invariant_of-self-2
invariant_of-self-2 g c = (
  c.push.ensures.limit ∙ (c.in_ok-reserve.ensures.limit ∙ c.self.invariant.0),
  c.self.invariant.1,
  commit_good g.B.Base.base g.R.Run.run _ _ c.args.commit c.in_ok-run.run' _ _ _ _ _ c.len-at.result c.self.view_is c.self.invariant.2 c.requires.taken c.requires.fit c.requires.in_order c.in_ok-run.ensures c.in_ok-grown.ensures
      (c.push.ensures.list ∙ ap (λ l. l ++ c.args.commit ∷ []) c.in_ok-reserve.ensures.list) c.len-at.ensures c.install_new.ensures,
)
