use Rattle.std.proofs.Common.{List, map, reverse, ap, subst, ◌∙◌}
use Rattle.std.specs.Prelude.{IfOk}
use Rattle.pg_meaning.specs.Walks.{Hop}
use Rattle.pg_search.specs.Hops.{hop_view}
use Rattle.pg_short.specs.Rounds.{hops_in}
use Rattle.pg_short.specs.Rests.{IsFarther}
use Rattle.pg_short.proofs.Tracing.{map_reverse}
use Rattle.pg_short.proofs.rests.step_back.Goals as goal

pub returns : goal.returns
returns c = subst (λ (hs : List Hop). IfOk c.step_all.result (λ k. IsFarther c.args.numbers.now c.args.walk hs k c.step_all.new.numbers))
    (ap hops_in c.reverse.ensures.items ∙ map_reverse hop_view c.in_ok-back.back.items ∙ ap (λ hops. reverse (hops_in hops)) c.in_ok-back.ensures) c.step_all.ensures
