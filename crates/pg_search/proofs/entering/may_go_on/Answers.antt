use Rattle.std.proofs.Common.{◌&&◌, sym, ◌∙◌}
use Rattle.std.proofs.lemmas.List.{length-map}
use Rattle.pg_auto.specs.Autos.{leg_view, stage_view}
use Rattle.pg_auto.specs.Tests.{permits}
use Rattle.pg_search.specs.Numbers.{hops_at}
use Rattle.pg_search.proofs.OneRound.{go_on}
use Rattle.pg_search.proofs.entering.may_go_on.Goals as goal

pub returns : goal.returns
returns c = λ hops r s fine agreed.
    let n = c.args.numbers.now in
    let stage = stage_view c.args.stage.now in
    let permitted = c.follows-permitted.ensures (hops_at n c.args.state.now.walk) hops r.stands (r.long ∙ length-map c.args.stage.now.legs leg_view ∙ sym c.len.ensures) fine in
    c.all.ensures
    ∙ (λ i. c.agree-agreed.ensures i && (permitted i && c.fits_singles-fit.ensures i))
    ∙ go_on n c.are_numbers.ensures c.args.seen.now _ s c.args.state.now.singles agreed stage c.args.stage.now.grouped (permits c.args.mode n.start _) (λ i. c.args.stage.now.grouped)
