use Rattle.std.proofs.Common.{◌++◌, ap, ◌∙◌}
use Rattle.pg_snap.specs.Kept.{oldest_first}
use Rattle.pg_snap.proofs.KeptLaws.{covers, is_of_parts, made_for, version_of}
use Rattle.pg_snap.proofs.kept.snapshot_of.Goals as goal

pub new-requires-2-clause-shapes : goal.new-requires-2-clause-shapes
new-requires-2-clause-shapes c =
    let all = c.in_ok-push_all.ensures ∙ ap (λ rs. c.in_ok-buf.buf ++ oldest_first rs) c.as_slice.ensures in
    made_for c.args.parts.now c.in_ok-buf.buf c.push_all.new.buf c.in_ok-share.field-0 c.requires c.in_ok-buf.ensures all c.in_ok-share.ensures

pub new-requires-2-clause-cover : goal.new-requires-2-clause-cover
new-requires-2-clause-cover c =
    let all = c.in_ok-push_all.ensures ∙ ap (λ rs. c.in_ok-buf.buf ++ oldest_first rs) c.as_slice.ensures in
    covers c.args.parts.now c.in_ok-buf.buf c.push_all.new.buf c.in_ok-share.field-0 c.requires c.in_ok-buf.ensures all c.in_ok-share.ensures

pub returns-clause-parts : goal.returns-clause-parts
returns-clause-parts c =
    let all = c.in_ok-push_all.ensures ∙ ap (λ rs. c.in_ok-buf.buf ++ oldest_first rs) c.as_slice.ensures in
    is_of_parts c.args.parts.now c.in_ok-buf.buf c.push_all.new.buf c.in_ok-share.field-0 c.new-2.result c.in_ok-buf.ensures all c.in_ok-share.ensures c.new-2.ensures

pub returns-clause-version : goal.returns-clause-version
returns-clause-version c =
    let all = c.in_ok-push_all.ensures ∙ ap (λ rs. c.in_ok-buf.buf ++ oldest_first rs) c.as_slice.ensures in
    version_of c.args.parts.now c.new-2.result (is_of_parts c.args.parts.now c.in_ok-buf.buf c.push_all.new.buf c.in_ok-share.field-0 c.new-2.result c.in_ok-buf.ensures all c.in_ok-share.ensures c.new-2.ensures)
