use Rattle.std.proofs.Common.{List, map, ap, subst, ◌∙◌}
use Rattle.std.specs.Prelude.{IfOk}
use Rattle.pg_expr.specs.Mentions.{mention_view}
use Rattle.pg_meaning.specs.Fits.{Mention}
use Rattle.pg_short.specs.Rests.{IsNamedOn}
use Rattle.pg_short.proofs.Tracing.{map_reverse}
use Rattle.pg_short.proofs.rests.name_back.Goals as goal

pub returns : goal.returns
returns c = subst (λ (ms : List Mention). IfOk c.name_all.result (λ k. IsNamedOn c.args.numbers.now c.args.names ms k c.name_all.new.numbers))
    (ap (map mention_view) (c.as_slice.ensures.value ∙ c.reverse.ensures.items) ∙ map_reverse mention_view c.args.seen.items) c.name_all.ensures
