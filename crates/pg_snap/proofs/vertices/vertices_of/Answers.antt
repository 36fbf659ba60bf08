use Rattle.std.proofs.Common.{subst, sym, ◌∙◌}
use Rattle.pg_keyed.specs.Keyed.{put}
use Rattle.pg_value.specs.Order.{key_cmp}
use Rattle.pg_snap.specs.Sides.{vertex_key, with_edges, AreSides}
use Rattle.pg_snap.proofs.VertexLaws.{gathered_all, as_many}
use Rattle.pg_snap.proofs.StepLaws.{if_ok}
use Rattle.pg_snap.proofs.vertices.vertices_of.Goals as goal

pub gathered-requires : goal.gathered-requires
gathered-requires g c = as_many c.args.dir c.in_ok-groups.groups c.args.ends.now c.in_ok-groups.ensures

pub returns : goal.returns
returns g c =
    if_ok c.merged.result _ _
    (λ merged e. subst (AreSides c.args.dir c.args.ends.now) (sym (e ∙ (λ i. put vertex_key vertex_key with_edges key_cmp ((c.in_ok-empty.ensures ∙ c.new.ensures.items) i) ((c.as_slice.ensures.value ∙ c.in_ok-changes.ensures.value) i))))
    (gathered_all c.args.dir c.in_ok-groups.groups c.args.ends.now c.in_ok-vertices.vertices c.in_ok-groups.ensures c.in_ok-vertices.ensures c.in_ok-changes.ensures.in_order))
    c.merged.ensures
