use Rattle.std.proofs.Common.{◌≡◌, ◌-◌, ◌+◌, List, map, take, length, arith, ap, sym, ◌∙◌, ◌++◌}
use Rattle.std.proofs.lemmas.List.{length-map}
use Rattle.pg_meaning.specs.Walks.{Hop}
use Rattle.pg_meaning.specs.Fits.{Mention, seen_on_legs}
use Rattle.pg_auto.specs.Autos.{leg_view}
use Rattle.pg_search.specs.Numbers.{hops_at}
use Rattle.pg_search.specs.Seen.{leg_nos}
use Rattle.pg_search.specs.Steps.{AreSeen}
use Rattle.pg_search.proofs.Naming.{on_legs, on_ok, split_end, map_push}
use Rattle.pg_search.proofs.seen.+push_on_legs.Goals as goal

pub returns-in_ok-push_on_legs-in-Some : goal.returns-in_ok-push_on_legs-in-Some
returns-in_ok-push_on_legs-in-Some t c =
    let n = c.args.numbers.now in
    let legs = c.args.legs.now in
    let i = length legs - 1 in
    let link = c.in-Some.link.now in
    let long : length legs ≡ i + 1 = omega arith in
    let split = ap (map leg_view) (split_end legs c.index-legs-count.result i long c.index-legs-count.is) ∙ map_push leg_view (take i legs) c.index-legs-count.result in
    on_ok c.push_leg.result (c.push_leg.new.out.items ≡ c.push_on_legs.new.out.items ++ leg_nos (leg_view c.index-legs-count.result) (link.first, link.second))
    ((seen : List Mention) (base hops : List Hop) → AreSeen n c.args.out.now.items seen → hops_at n c.args.walk ≡ base ++ hops → length hops ≡ length legs → AreSeen n c.push_leg.new.out.items (seen ++ seen_on_legs (map leg_view legs) hops))
    (λ e seen base hops was st l. on_legs n c.are_numbers.ensures (map leg_view legs) (map leg_view (take i legs)) (leg_view c.index-legs-count.result) split c.args.walk link c.in-Some.ensures.some.1
    c.args.out.now.items c.push_on_legs.new.out.items c.push_leg.new.out.items
    (λ seen base hops was st l. c.in_ok-push_on_legs-in-Some.ensures seen base hops was st (l ∙ length-map (take i legs) leg_view))
    e seen base hops was st (l ∙ sym (length-map legs leg_view)))
    c.push_leg.ensures
