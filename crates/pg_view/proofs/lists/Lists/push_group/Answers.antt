use Rattle.std.proofs.Common.{◌+◌, ◌*◌, ◌≤◌, length, subst}
use Rattle.pg_view.specs.Lists.{row_cost}
use Rattle.pg_view.proofs.ViewLaws.{group_within, search_within}
use Rattle.pg_view.proofs.lists.Lists.push_group.Goals as goal

pub returns-in-Some-clause-cost : goal.returns-in-Some-clause-cost
returns-in-Some-clause-cost g c =
    group_within c.args.self.now c.args.dir c.args.vertex.now c.args.shape.now c.args.ends.now c.in-Some.group.now c.args.steps.now c.group.new.steps c.push_all_standing.new.steps c.requires c.in-Some.ensures.value c.in-Some.ensures.cost
    (subst (λ n. c.push_all_standing.new.steps ≤ c.group.new.steps + n) (λ i. length (c.as_slice-edges.ensures i) * (1 + row_cost c.args.self.now (c.other_table.ensures i))) c.push_all_standing.ensures.cost)

pub returns-in-None-clause-cost : goal.returns-in-None-clause-cost
returns-in-None-clause-cost g c = search_within c.args.self.now c.args.dir c.args.vertex.now c.args.shape.now c.args.ends.now c.args.steps.now c.group.new.steps c.requires c.in-None.ensures.cost
