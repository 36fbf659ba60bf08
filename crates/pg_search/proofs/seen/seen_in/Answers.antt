use Rattle.std.proofs.Common.{◌++◌, List, length, map, ap, sym, subst, ◌∙◌}
use Rattle.std.specs.Option.{option_copied}
use Rattle.pg_auto.specs.declared.auto.Leg.{Leg}
use Rattle.pg_auto.specs.Autos.{leg_view}
use Rattle.pg_meaning.specs.Fits.{node_mention, seen_on_legs}
use Rattle.pg_search.specs.Numbers.{elem_at}
use Rattle.pg_search.specs.Seen.{node_mention_no}
use Rattle.pg_search.specs.Steps.{AreSeen}
use Rattle.pg_search.proofs.Naming.{node_seen}
use Rattle.pg_search.proofs.seen.seen_in.Goals as goal

pub returns : goal.returns
returns c = λ base hops stands long.
    let n = c.args.numbers.now in
    let node = option_copied c.args.stage.now.node in
    let first = subst (λ ms. AreSeen n ms (node_mention node (elem_at n c.args.at))) (sym (c.in_ok-push_node_mention.ensures ∙ ap (λ ms. ms ++ node_mention_no node c.args.at) c.new-seen.ensures.items)) (node_seen n node c.args.at c.requires.at) in
    subst (λ (legs : List Leg). AreSeen n c.push_on_legs.new.out.items (node_mention node (elem_at n c.args.at) ++ seen_on_legs (map leg_view legs) hops)) c.as_slice.ensures
    (c.in_ok-push_on_legs.ensures (node_mention node (elem_at n c.args.at)) base hops first stands (long ∙ ap length (sym c.as_slice.ensures)))
