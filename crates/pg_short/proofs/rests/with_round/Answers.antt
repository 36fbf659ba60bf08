use Rattle.std.proofs.Common.{◌≡◌, List, reverse, ap, subst}
use Rattle.pg_meaning.specs.Fits.{Mention}
use Rattle.pg_short.specs.Walks.{round_view}
use Rattle.pg_short.specs.Rests.{IsNamedOn}
use Rattle.pg_short.proofs.NumberedRests.{round_in_front}
use Rattle.pg_short.proofs.rests.with_round.Goals as goal

pub returns : goal.returns
returns c =
    let n = c.args.numbers.now in
    let singles = subst (λ (ms : List Mention). IsNamedOn c.step_back.new.numbers c.args.rest.singles (reverse ms) c.in_ok-singles.singles c.name_back.new.numbers) c.in_ok-seen.ensures c.in_ok-singles.ensures in
    let groups = subst (λ (ms : List Mention). IsNamedOn c.name_back.new.numbers c.args.rest.groups (reverse ms) c.in_ok-groups.groups c.name_back-2.new.numbers) c.in_ok-seen-2.ensures c.in_ok-groups.ensures in
    round_in_front n c.step_back.new.numbers c.name_back.new.numbers c.name_back-2.new.numbers c.args.rest c.args.place c.in_ok-walk.walk c.in_ok-singles.singles c.in_ok-groups.groups (round_view c.args.round.now) c.requires c.in_ok-walk.ensures singles groups
