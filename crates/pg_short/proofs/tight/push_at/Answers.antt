use Rattle.pg_short.proofs.FoundRounds.{on_ok}
use Rattle.pg_short.proofs.TightSteps.{set_at}
use Rattle.pg_short.proofs.tight.push_at.Goals as goal

pub returns : goal.returns
returns c = on_ok c.push_number.result _ _ (λ h. set_at c.args.lists.now.items c.args.place c.args.number c.index_mut.result.now c.push_number.new.list c.requires c.index_mut.ensures.value h) c.push_number.ensures
