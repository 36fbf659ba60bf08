use Rattle.std.proofs.Common.{◌≡◌, ◌++◌, Some, None, ap, sym, subst, ◌∙◌, OnOk}
use Rattle.std.specs.Prelude.{slice_get}
use Rattle.pg_value.specs.declared.shape.Shapes.{Shapes}
use Rattle.pg_meaning.specs.Reads.{row_at}
use Rattle.pg_view.specs.Neighbours.{end_table}
use Rattle.pg_snap.specs.Bases.{BaseOf}
use Rattle.pg_snap.specs.Snapshots.{tables_of}
use Rattle.pg_snap.proofs.HopLaws.{neighbours_found, neighbours_none}
use Rattle.pg_snap.proofs.RowLaws.{stands}
use Rattle.pg_snap.proofs.StepLaws.{nothing_behind}
use Rattle.pg_snap.proofs.snapshot.Snapshot.push_neighbours.Goals as goal

pub returns-in-Some-found-clause-ok : goal.returns-in-Some-found-clause-ok
returns-in-Some-found-clause-ok g c =
    let s = c.args.self.now in
    let key = c.args.vertex.now in
    let shape = c.in-Some.shape.now in
    let known : slice_get s.base.shapes.edges c.args.edge.0 ≡ Some shape = sym (c.in-Some.ensures.value ∙ ap (λ (x : Shapes). slice_get x.edges c.args.edge.0) (c.shapes.ensures ∙ ap (λ (b : BaseOf). b.shapes) c.base.ensures)) in
    let found = stands (tables_of s) (end_table shape c.args.dir) key (Some c.in-Some-found.field-0.now) (c.in-Some-found.ensures.value ∙ ap (λ t. row_at (tables_of s) t key) c.end_table.ensures) in
    subst (λ xs. OnOk c.push_found.result (c.push_found.new.out ≡ c.args.out.now ++ xs)) (neighbours_found (tables_of s) s.base.shapes shape c.args.edge c.args.dir key known found) c.push_found.ensures.ok

pub returns-in-None-found-clause-ok : goal.returns-in-None-found-clause-ok
returns-in-None-found-clause-ok g c =
    let s = c.args.self.now in
    let key = c.args.vertex.now in
    let shape = c.in-Some.shape.now in
    let known : slice_get s.base.shapes.edges c.args.edge.0 ≡ Some shape = sym (c.in-Some.ensures.value ∙ ap (λ (x : Shapes). slice_get x.edges c.args.edge.0) (c.shapes.ensures ∙ ap (λ (b : BaseOf). b.shapes) c.base.ensures)) in
    let found = stands (tables_of s) (end_table shape c.args.dir) key None (c.in-None-found.ensures.value ∙ ap (λ t. row_at (tables_of s) t key) c.end_table.ensures) in
    sym (nothing_behind c.args.out.now) ∙ ap (λ xs. c.args.out.now ++ xs) (neighbours_none (tables_of s) s.base.shapes shape c.args.edge c.args.dir key known found)
