use Rattle.std.proofs.Common.{ap, arith, length, ℕ, List}
use Rattle.std.proofs.lemmas.List.Elements.{All-rest}
use Rattle.pg_rules.specs.Catalog.{IsSmallGraph}
use Rattle.pg_rules.specs.declared.entry.GraphEntry.{GraphEntry}
use Rattle.pg_catalog.specs.GraphLookUps.{edges_before}
use Rattle.pg_catalog.proofs.EdgeNumbers.{counted_on}
use Rattle.pg_catalog.proofs.graph.look_up.edges_before.Goals as goal

pub loop-entry-preserved : goal.loop-entry-preserved
loop-entry-preserved c =
    let steps = c.in-Some.ensures.steps in
    let longer = ap length steps in
    record {
      count = counted_on c.loop-entry.count c.counted-count.result c.loop-entry.left c.saturating_sub-left.result (edges_before c.args.graph c.args.graphs.now.entries) c.as_slice.result.now c.loop-entry.entry-iterator c.next.new.self (c.in-Some.field-0-0.now, c.in-Some.entry.now) steps c.counted-count.ensures.count c.as_slice.ensures c.saturating_sub-left.ensures c.loop-entry.invariant.count;
      few = omega (arith, longer, c.loop-entry.invariant.few, c.counted-count.ensures.few);
      small = All-rest (λ (g : List ℕ × GraphEntry). IsSmallGraph g.1) (c.in-Some.field-0-0.now, c.in-Some.entry.now) c.next.new.self c.loop-entry.entry-iterator steps c.loop-entry.invariant.small;
    }
