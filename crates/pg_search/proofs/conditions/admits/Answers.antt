use Rattle.std.proofs.Common.{◌&&◌, ap, sym, ◌∙◌}
use Rattle.pg_meaning.specs.Fits.{scope_of, mention}
use Rattle.pg_meaning.specs.Walks.{graph_of}
use Rattle.pg_auto.specs.Tests.{meets}
use Rattle.pg_search.proofs.conditions.admits.Goals as goal

pub returns-then-has_table : goal.returns-then-has_table
returns-then-has_table g c = λ graph.
    c.meets_alone.ensures graph
    ∙ sym (ap (λ b. b && meets c.args.filler.now.cond (scope_of (graph_of (g.V.View.shapes c.args.view.now) graph (g.V.View.tables c.args.view.now)) (mention c.args.filler.now c.args.elem.now))) (sym c.has_table.ensures ∙ c.if-has_table.true))
