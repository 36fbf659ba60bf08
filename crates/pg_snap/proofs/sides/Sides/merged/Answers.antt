use Rattle.std.proofs.Common.{List, length, get_or, ap, ◌∙◌, arith}
use Rattle.std.specs.Prelude.{slice_get}
use Rattle.pg_value.specs.Log.{put}
use Rattle.pg_view.specs.Lists.{joined}
use Rattle.pg_snap.specs.declared.sides.BothSides.{BothSides}
use Rattle.pg_snap.specs.Bases.{ends_held}
use Rattle.pg_snap.specs.Sides.{AreBothSides}
use Rattle.pg_snap.proofs.Growing.{zipped, zip_length, zip_at, get_within}
use Rattle.pg_snap.proofs.sides.Sides.merged.Goals as goal

pub index-requires : goal.index-requires
index-requires g c =
    let v = ap length c.self.view_is in
    let z = zip_length (λ shape both. AreBothSides (ends_held (joined c.args.rows.now) shape) both) c.args.shapes.now c.args.self.now c.requires.sides in
    let o = c.self.inside.tables.ok in
    let t = c.shapes-test.true in
    omega (arith, v, z, t)

pub merged-requires-clause-shape : goal.merged-requires-clause-shape
merged-requires-clause-shape g c = (λ i. slice_get (c.requires.shapes i) (c.in_ok-edge_no.ensures i)) ∙ get_within c.args.shapes.now c.shapes.at c.index-shapes-at.result c.shapes-test.true c.index-shapes-at.is

pub merged-requires-clause-sides : goal.merged-requires-clause-sides
merged-requires-clause-sides g c =
    zip_at (λ shape both. AreBothSides (ends_held (joined c.args.rows.now) shape) both) c.args.shapes.now c.args.self.now c.shapes.at c.index-shapes-at.result c.index.result.now c.requires.sides c.shapes-test.true c.index-shapes-at.is
    (c.index.ensures ∙ ap (λ (xs : List BothSides). get_or xs c.shapes.at c.index.result.now) c.self.view_is)

pub shapes-preserved : goal.shapes-preserved
shapes-preserved g c =
    zipped (λ shape both. AreBothSides (ends_held (put (joined c.args.rows.now) c.args.run.now.writes) shape) both) c.args.shapes.now c.shapes.tables.items c.push.new.self.items c.shapes.at c.index-shapes-at.result c.in_ok-both.both
    c.shapes-test.true c.index-shapes-at.is c.shapes.invariant c.in_ok-both.ensures c.in_ok-push.ensures.items
