use Rattle.std.proofs.Common.{◌≡◌, cond, ap, sym, ◌∙◌}
use Rattle.std.specs.Prelude.{Some}
use Rattle.std.specs.Option.{option_copied}
use Rattle.std.proofs.lemmas.Result.{on_ok_weaker}
use Rattle.indexmap.specs.IndexMap.{get}
use Rattle.pg_value.specs.declared.shape.ElemId.{ElemId}
use Rattle.pg_value.specs.Graph.{same_elem}
use Rattle.pg_join.specs.Ends.{is_known}
use Rattle.pg_join.specs.Selecting.{end_of}
use Rattle.pg_join.proofs.Lengths.{least_known, least_put_new}
use Rattle.pg_join.proofs.selecting.note_length.Goals as goal

pub returns-then-is_known : goal.returns-then-is_known
returns-then-is_known c = λ all known.
    let end = c.in-Some.end.now in
    let is : end_of c.args.binding.now ≡ Some end = sym c.end_of.ensures ∙ ap option_copied c.in-Some.is in
    least_known all c.args.binding.now end is (λ e. get same_elem c.args.least.now e) known
    (ap (is_known (get same_elem c.args.least.now end)) (sym c.len-length.ensures) ∙ sym c.is_known.ensures ∙ c.if-is_known.true)

pub returns : goal.returns
returns c =
    let end = c.in-Some.end.now in
    let is : end_of c.args.binding.now ≡ Some end = sym c.end_of.ensures ∙ ap option_copied c.in-Some.is in
    let old = λ (e : ElemId). get same_elem c.args.least.now e in
    let new = λ (e : ElemId). get same_elem c.put_length.new.least e in
    let no = ap (is_known (get same_elem c.args.least.now end)) (sym c.len-length.ensures) ∙ sym c.is_known.ensures ∙ c.if-is_known.false in
    on_ok_weaker c.put_length.result
    (λ put all known. least_put_new all c.args.binding.now end is old known new no
    (λ e. put e ∙ (λ i. cond (same_elem (c.in_ok-end.ensures i) e) (Some (c.len-length.ensures i)) (get same_elem c.args.least.now e))))
    c.put_length.ensures
