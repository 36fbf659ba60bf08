use Rattle.std.proofs.Common.{ap, ◌∙◌, subst, sym}
use Rattle.std.specs.Prelude.{Result, Ok, Err, IfOk}
use Rattle.pg_adj.specs.Gather.{plains, gather}
use Rattle.pg_adj.specs.Groups.{AreGroups}
use Rattle.pg_adj.proofs.Gathering.{are_groups}
use Rattle.pg_adj.proofs.group.groups.Goals as goal

if_ok : {X E : Type 0} (r : Result X E) (P Q : X → Type 0) → ((x : X) → P x → Q x) → IfOk r P → IfOk r Q
if_ok (Ok x) P Q f h = f x h
if_ok (Err e) P Q f h = tt

pub returns : goal.returns
returns c =
    let seen = c.in_ok-seen.seen.items in
    if_ok c.gather.result _ (λ groups. AreGroups c.args.dir c.args.ends.now groups.items)
    (λ groups e. subst (AreGroups c.args.dir c.args.ends.now) (sym (e ∙ ap (λ xs. gather (plains xs)) c.as_slice.ensures.value)) (are_groups c.args.dir c.args.ends.now seen c.in_ok-seen.ensures))
    c.gather.ensures
