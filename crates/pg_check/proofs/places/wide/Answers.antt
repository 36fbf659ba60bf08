use Rattle.std.proofs.Common.{◌∙◌, ap}
use Rattle.pg_rules.specs.Catalog.GraphLookUps.{graph_numbered}
use Rattle.pg_check.specs.Judgement.{AreOf, trees}
use Rattle.pg_check.proofs.places.wide.Goals as goal

pub returns : goal.returns
returns c = let q = c.args.query.now in
    let are : AreOf q c.deref.result.now c.deref-2.result.now = record { inner_are = ap trees c.deref.ensures.value ∙ c.requires.exprs.inner_are; outer_are = ap trees c.deref-2.ensures.value ∙ c.requires.exprs.outer_are } in
    c.wide.ensures (graph_numbered c.args.catalog.now.1 c.args.graph) q c.in_ok-kinds.ensures are
