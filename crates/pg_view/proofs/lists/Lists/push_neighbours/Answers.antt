use Rattle.std.proofs.Common.{◌≡◌, ◌++◌, ap, sym, subst, ◌∙◌, OnOk}
use Rattle.std.specs.Prelude.{slice_get}
use Rattle.pg_value.specs.Tables.{stored_at}
use Rattle.pg_view.proofs.ViewLaws.{nothing_behind}
use Rattle.pg_view.proofs.HopLaws.{neighbours_found, neighbours_none}
use Rattle.pg_view.proofs.lists.Lists.push_neighbours.Goals as goal

pub returns-in-Some-stored-clause-ok : goal.returns-in-Some-stored-clause-ok
returns-in-Some-stored-clause-ok g c =
    let v = c.args.self.now in
    let key = c.args.vertex.now in
    let stands = sym (ap (λ w. slice_get w.shapes.edges c.args.edge.0) c.self.view_is) ∙ sym c.in-Some.ensures.value in
    let found = c.in-Some-stored.ensures.value ∙ ap (λ t. stored_at (t.0, key.values) v.tables) c.end_table.ensures in
    subst (λ xs. OnOk c.push_found.result (c.push_found.new.out ≡ c.args.out.now ++ xs)) (neighbours_found v.tables v.shapes c.in-Some.shape.now c.args.edge c.args.dir key c.in-Some-stored.field-0.now stands found) c.push_found.ensures.ok

pub returns-in-None-stored-clause-ok : goal.returns-in-None-stored-clause-ok
returns-in-None-stored-clause-ok g c =
    let v = c.args.self.now in
    let key = c.args.vertex.now in
    let stands = sym (ap (λ w. slice_get w.shapes.edges c.args.edge.0) c.self.view_is) ∙ sym c.in-Some.ensures.value in
    let found = c.in-None-stored.ensures.value ∙ ap (λ t. stored_at (t.0, key.values) v.tables) c.end_table.ensures in
    sym (nothing_behind c.args.out.now) ∙ ap (λ xs. c.args.out.now ++ xs) (neighbours_none v.tables v.shapes c.in-Some.shape.now c.args.edge c.args.dir key stands found)
