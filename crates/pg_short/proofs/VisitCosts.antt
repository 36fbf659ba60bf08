-- The rounds over legs from a vertex cost at most a visit to it from which as many edges are followed.
use Rattle.std.proofs.Common.{◌≡◌, ◌≤◌, ◌+◌, ℕ, zero, suc, Bool, true, false, cond, List, [], ◌∷◌, length, map, Contains, refl, arith, ap, sym, ◌∙◌}
use Rattle.std.specs.Prelude.{filter, flat_map, sum_by}
use Rattle.pg_value.specs.declared.value.Dir.{Dir}
use Rattle.pg_value.specs.declared.value.Dir.TheVariants.{Out, In}
use Rattle.pg_value.specs.declared.row.Key.{Key}
use Rattle.pg_value.specs.declared.shape.ElemId.{ElemId}
use Rattle.pg_value.specs.declared.shape.EdgeNo.{EdgeNo}
use Rattle.pg_value.specs.declared.shape.TableSet.{TableSet}
use Rattle.pg_value.specs.declared.shape.Shapes.{Shapes}
use Rattle.pg_value.specs.declared.shape.GraphShape.{GraphShape}
use Rattle.pg_value.specs.Tables.{Tables}
use Rattle.pg_ast.specs.declared.pattern.Arrow.{Arrow}
use Rattle.pg_ast.specs.declared.pattern.Arrow.TheVariants.{Right, Left, Either}
use Rattle.pg_meaning.specs.Walks.{Hop, graph_of}
use Rattle.pg_meaning.specs.Reads.{neighbours_of}
use Rattle.std.proofs.lemmas.List.Sums.{sum_by-append}
use Rattle.pg_meaning.specs.Rounds.{Leg}
use Rattle.pg_auto.specs.Tests.{leg_admits}
use Rattle.pg_auto.specs.Successors.{led_to, is_read}
use Rattle.pg_search.specs.Hops.{led_cost, over_cost, hops_of}
use Rattle.pg_short.specs.Costs.{Costs, edge_cost, vertex_cost, neighbours, visit_cost, leg_cost, legs_cost}
use Rattle.pg_short.proofs.Sums.{sum_below, sum_map, sum_flat, sum_kept}

led_within : (cost : EdgeNo → Dir → Key → ℕ) (arrow : Arrow) (key : Key) (e : EdgeNo) → led_cost cost arrow key e ≤ cost e Out key + cost e In key
led_within cost Right key e = omega arith
led_within cost Left key e = omega arith
led_within cost Either key e = omega arith

pub if_within : (b : Bool) (n m : ℕ) → n ≤ m → cond b n 0 ≤ m
if_within true n m l = l
if_within false n m l = omega arith

led_fewer : (shapes : Shapes) (tables : Tables) (f : Hop → ℕ) (arrow : Arrow) (v : ElemId) (e : EdgeNo) → sum_by f (led_to shapes tables arrow v e) ≤ sum_by f (led_to shapes tables Either v e)
led_fewer shapes tables f Right v e = let a = sum_by-append f (neighbours_of shapes tables e Out v) (neighbours_of shapes tables e In v) in omega arith
led_fewer shapes tables f Left v e = let a = sum_by-append f (neighbours_of shapes tables e Out v) (neighbours_of shapes tables e In v) in omega arith
led_fewer shapes tables f Either v e = omega arith

module _ (costs : Costs) (graph : GraphShape) where
  leg_within : (leg : Leg) (v : ElemId) → leg_cost costs.hop costs.shapes graph leg v ≤ sum_by (edge_cost costs v.key) graph.edges
  leg_within leg v = sum_below (over_cost costs.hop costs.shapes leg.arrow leg.edge.tables v.key) (edge_cost costs v.key) graph.edges
      (λ e c. if_within (is_read costs.shapes leg.edge.tables e) (led_cost costs.hop leg.arrow v.key e) (edge_cost costs v.key e) (led_within costs.hop leg.arrow v.key e))

  -- where a leg leads are neighbours
  hops_within : (f : ElemId → ℕ) (leg : Leg) (v : ElemId) → sum_by (λ hop. f hop.to) (hops_of costs.shapes graph costs.tables leg v) ≤ sum_by f (neighbours costs graph v)
  hops_within f leg v =
      let h = λ (hop : Hop). f hop.to in
      let test = is_read costs.shapes leg.edge.tables in
      let led = λ (e : EdgeNo). led_to costs.shapes costs.tables leg.arrow v e in
      let all = λ (e : EdgeNo). led_to costs.shapes costs.tables Either v e in
      let a = sum_kept h (leg_admits (graph_of costs.shapes graph costs.tables) leg) (flat_map led (filter test graph.edges)) in
      let b = sum_flat h led (filter test graph.edges) in
      let c = sum_kept (λ (e : EdgeNo). sum_by h (led e)) test graph.edges in
      let d = sum_below (λ (e : EdgeNo). sum_by h (led e)) (λ (e : EdgeNo). sum_by h (all e)) graph.edges (λ e i. led_fewer costs.shapes costs.tables h leg.arrow v e) in
      let e = sum_flat h all graph.edges in
      let k = sum_map f (λ (hop : Hop). hop.to) (flat_map all graph.edges) in
      omega arith

  pub legs_within : (g : ℕ) (legs : List Leg) (v : ElemId) → length legs ≤ g → legs_cost costs.hop costs.shapes costs.tables graph legs v ≤ visit_cost costs graph g v
  legs_within g [] v l = omega arith
  legs_within zero (leg ∷ legs) v l = absurd (omega arith)
  legs_within (suc g) (leg ∷ legs) v l =
      let a = leg_within leg v in
      let b = sum_below (λ (hop : Hop). legs_cost costs.hop costs.shapes costs.tables graph legs hop.to) (λ (hop : Hop). visit_cost costs graph g hop.to) (hops_of costs.shapes graph costs.tables leg v)
      (λ hop c. legs_within g legs hop.to (omega arith)) in
      let d = hops_within (visit_cost costs graph g) leg v in
      omega arith
