use Rattle.std.proofs.Common.{◌≡◌, ℕ, List, map, reverse, ap, sym, ◌∙◌}
use Rattle.pg_meaning.specs.Bindings.{path_binding}
use Rattle.pg_auto.specs.States.{binding_of}
use Rattle.pg_search.specs.Chains.{list_at}
use Rattle.pg_search.specs.Numbers.{hop_of, mention_of}
use Rattle.pg_short.proofs.Tracing.{map_reverse}
use Rattle.pg_short.proofs.back.binding_back.Goals as goal

pub returns-clause-given : goal.returns-clause-given
returns-clause-given c =
    let n = c.args.numbers.now in
    let rest = c.args.rest.now in
    let hops = ap (map (hop_of n)) (c.deref.ensures.value ∙ c.reverse.ensures.items ∙ ap reverse (c.in_ok-hops.ensures ∙ ap (λ (ws : List (List (ℕ × ℕ))). list_at ws rest.walk) c.walks.ensures)) ∙ map_reverse (hop_of n) (list_at n.walks rest.walk) in
    let singles = ap (map (mention_of n)) (c.deref-2.ensures.value ∙ c.reverse-2.ensures.items ∙ ap reverse (c.in_ok-singles.ensures ∙ ap (λ (ws : List (List (ℕ × ℕ))). list_at ws rest.singles) c.names.ensures)) ∙ map_reverse (mention_of n) (list_at n.names rest.singles) in
    let groups = ap (map (mention_of n)) (c.deref-3.ensures.value ∙ c.reverse-3.ensures.items ∙ ap reverse (c.in_ok-groups.ensures ∙ ap (λ (ws : List (List (ℕ × ℕ))). list_at ws rest.groups) c.names-2.ensures)) ∙ map_reverse (mention_of n) (list_at n.names rest.groups) in
    let vertices = c.in_ok-vertices.ensures.same in
    (λ i. record { vertices = vertices i; edges = c.in_ok-binding.binding.edges; vars = c.in_ok-binding.binding.vars })
    ∙ c.in_ok-binding.ensures
    ∙ (λ i. path_binding (binding_of n.start c.args.vars.now (record { hops = hops i; singles = singles i; groups = groups i })))
