use Rattle.std.proofs.Common.{◌∷◌, map, sym, subst}
use Rattle.pg_run.specs.Kept.{kept_run}
use Rattle.pg_core.specs.Versions.{Follows}
use Rattle.pg_snap.specs.Kept.{IsJoined}
use Rattle.pg_snap.proofs.KeptLaws.{behind, none_left, split_first, joined_two, joined_all}
use Rattle.pg_snap.proofs.kept.+joined.Goals as goal

pub returns-in-empty : goal.returns-in-empty
returns-in-empty t c =
    let e = none_left c.args.older.now c.in-empty.len_below in
    subst (λ rs. IsJoined (kept_run c.args.newest.now) (kept_run c.args.next.now ∷ map kept_run rs) c.in_ok-both.both) (sym e)
    (joined_two c.args.newest.now c.args.next.now c.in_ok-both.both (subst (λ rs. Follows (kept_run c.args.newest.now) (kept_run c.args.next.now ∷ map kept_run rs)) e c.requires)
    c.well_made.ensures.in_order c.well_made-2.ensures.in_order c.in_ok-both.ensures)

pub returns-in-len1-up : goal.returns-in-len1-up
returns-in-len1-up t c =
    joined_all c.args.newest.now c.args.next.now c.in_ok-both.both c.next-item.result c.get.result.now c.args.older.now (behind c.args.older.now)
    (split_first c.args.older.now c.next-item.result c.in-len1-up.len_at_least c.next-item.is) c.requires c.well_made.ensures.in_order c.well_made-2.ensures.in_order c.in_ok-both.ensures c.get.ensures c.joined.result c.joined.ensures
