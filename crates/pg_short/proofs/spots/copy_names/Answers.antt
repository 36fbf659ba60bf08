use Rattle.std.proofs.Common.{◌++◌, [], ◌∷◌, List, ap, ◌∙◌}
use Rattle.pg_meaning.specs.Fits.{Mention}
use Rattle.pg_short.specs.Steps.{named_view}
use Rattle.pg_short.proofs.Lists.{map_one_more}
use Rattle.pg_short.proofs.spots.copy_names.Goals as goal

pub loop-name-preserved : goal.loop-name-preserved
loop-name-preserved c =
    c.in_ok-push_copy.ensures ∙ ap (λ (ms : List Mention). ms ++ named_view c.name-item.result ∷ []) c.loop-name.invariant
    ∙ map_one_more named_view c.args.names.now c.loop-name.name-index c.name-item.result c.loop-name-test.true c.name-item.is
