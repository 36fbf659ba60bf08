use Rattle.std.proofs.Common.{◌∙◌, ap, false, ◌++◌}
use Rattle.std.specs.List.{flat_map}
use Rattle.pg_rules.specs.Places.{least}
use Rattle.pg_rules.specs.Queries.Collections.{inner, outer}
use Rattle.pg_check.specs.Gathered.{seen_in}
use Rattle.pg_check.specs.UsePlaces.{unknown}
use Rattle.pg_check.proofs.Judging.{over_both}
use Rattle.pg_check.proofs.UseLaws.{unknown_same}
use Rattle.pg_check.proofs.judge.unknown.Goals as goal

pub returns : goal.returns
returns c = λ q are known.
    over_both (λ x. flat_map (unknown c.args.variables.now) (seen_in false x)) q c.args.inner.now c.args.outer.now c.in_ok-first.first c.in_ok-second.second c.sooner.result are c.in_ok-first.ensures c.in_ok-second.ensures c.sooner.ensures
    ∙ ap (λ k. least (flat_map (λ x. flat_map (unknown k) (seen_in false x)) (inner q ++ outer q))) known
    ∙ ap least (unknown_same q)
