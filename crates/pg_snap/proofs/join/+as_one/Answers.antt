use Rattle.std.proofs.Common.{◌≡◌, ◌∷◌, sym, subst, ap, ◌∙◌}
use Rattle.pg_snap.specs.Joins.{IsOne}
use Rattle.pg_snap.proofs.JoinLaws.{two_are_one, more_are_one, empty_of, whole}
use Rattle.pg_snap.proofs.StepLaws.{if_ok, behind}
use Rattle.pg_snap.proofs.join.+as_one.Goals as goal

pub returns-in-empty : goal.returns-in-empty
returns-in-empty t c =
    if_ok c.merge.result _ _ (λ run e. subst (λ more. IsOne c.args.older.now (c.args.next.now ∷ more) run) (empty_of c.args.more.now c.in-empty.len_below) (two_are_one c.args.older.now c.args.next.now run c.well_made.ensures.in_order c.well_made-2.ensures.in_order e)) c.merge.ensures

pub returns-in_ok-newest-in-len1-up : goal.returns-in_ok-newest-in-len1-up
returns-in_ok-newest-in-len1-up t c =
    let n = c.in_ok-newest-in-len1-up in
    let more = c.args.more.now in
    let all : c.get.result.now ∷ behind more ≡ more = ap (λ r. r ∷ behind more) c.get.ensures ∙ sym (whole more c.newer-item.result c.in-len1-up.len_at_least c.newer-item.is) in
    let one = subst (λ rs. IsOne c.args.next.now rs n.newest) all n.ensures in
    if_ok c.merge-in-len1-up.result _ _ (λ run e. more_are_one c.args.older.now c.args.next.now n.newest run more c.well_made.ensures.in_order c.well_made-in-len1-up.ensures.in_order one e) c.merge-in-len1-up.ensures
