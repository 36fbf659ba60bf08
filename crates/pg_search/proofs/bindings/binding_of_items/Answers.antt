use Rattle.std.proofs.Common.{◌∷◌, map, ap, ◌∙◌}
use Rattle.std.specs.Option.{unwrap_or}
use Rattle.pg_search.specs.Found.{to_of}
use Rattle.pg_search.proofs.Finding.{lists_are, tos_are, edges_are}
use Rattle.pg_search.proofs.bindings.binding_of_items.Goals as goal

pub returns : goal.returns
returns c =
    let n = c.args.numbers.now in
    let hops = c.args.hops.now in
    let start = ap (λ o. unwrap_or o n.start) c.are_numbers.ensures.first in
    let vertices = c.in_ok-vertices.ensures ∙ (λ i. start i ∷ tos_are n hops i) in
    let edges = c.in_ok-edges.ensures ∙ edges_are n hops in
    let vars = c.in_ok-vars.ensures ∙ lists_are n c.args.singles.now c.args.groups.now c.args.vars.now in
    λ i. record { vertices = vertices i; edges = edges i; vars = vars i }
