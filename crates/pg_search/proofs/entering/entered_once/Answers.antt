use Rattle.pg_auto.specs.Autos.{stage_view}
use Rattle.pg_search.proofs.OneRound.{enter_once}
use Rattle.pg_search.proofs.entering.entered_once.Goals as goal

pub returns : goal.returns
returns c = λ hops r s.
    enter_once c.args.numbers.now c.name_all.new.numbers c.args.state.now (stage_view c.args.stage.now) c.args.walk c.next_of.result c.in_ok-singles.singles hops c.args.seen.items c.requires.grouped c.requires.walk c.requires.within r c.next_of.ensures s c.in_ok-singles.ensures
