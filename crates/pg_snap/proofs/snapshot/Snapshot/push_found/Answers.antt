use Rattle.std.proofs.Common.{◌≡◌, ◌≤◌, ◌+◌, ◌*◌, ◌++◌, length, ap, subst, ◌∙◌, arith, OnOk}
use Rattle.std.proofs.lemmas.List.{length-map}
use Rattle.pg_snap.specs.Costs.{find_cost}
use Rattle.pg_snap.specs.Snapshots.{tables_of}
use Rattle.pg_view.specs.Neighbours.{other_table}
use Rattle.pg_snap.specs.Under.{plain, plains, all_standing}
use Rattle.pg_snap.proofs.SideLaws.{standing_is, reached_short, found_cost}
use Rattle.pg_snap.proofs.snapshot.Snapshot.push_found.Goals as goal

pub returns-clause-ok : goal.returns-clause-ok
returns-clause-ok g c =
    let s = c.args.self.now in
    let shape = c.args.shape.now in
    subst (λ xs. OnOk c.push_all_standing.result (c.push_all_standing.new.out ≡ c.args.out.now ++ xs))
    ((λ i. all_standing (tables_of s) shape.table (c.other_table.ensures i) (plains (c.as_slice.ensures.value i)))
    ∙ ap (all_standing (tables_of s) shape.table (other_table shape c.args.dir)) c.in_ok-all.ensures.value
    ∙ standing_is s c.args.edge shape c.args.dir c.args.vertex.now c.fits.ensures.made c.requires)
    c.push_all_standing.ensures.ok

pub returns-clause-cost : goal.returns-clause-cost
returns-clause-cost g c =
    let s = c.args.self.now in
    let shape = c.args.shape.now in
    let a = length-map c.in_ok-all.all.items plain in
    let b = ap length c.in_ok-all.ensures.value in
    let d = reached_short s c.args.edge shape c.args.dir c.args.vertex.now.values in
    found_cost s c.args.edge shape c.args.dir c.args.vertex.now (length c.in_ok-all.all.items) c.args.steps.now c.reached.new.steps c.push_all_standing.new.steps (omega (arith, a, b, d)) c.in_ok-all.ensures.cost
    (subst (λ n. c.push_all_standing.new.steps ≤ c.reached.new.steps + n) (λ i. length (c.as_slice.ensures.value i) * (1 + find_cost s (c.other_table.ensures i))) c.push_all_standing.ensures.cost)
