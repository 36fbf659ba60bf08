use Rattle.pg_snap.proofs.KeptLaws.{asks_joined, joined_follows}
use Rattle.pg_snap.specs.Kept.{kept_base}
use Rattle.pg_snap.proofs.kept.under.Goals as goal

pub joined-requires : goal.joined-requires
joined-requires c = asks_joined c.args.newest.now.last (kept_base c.args.old.now) c.args.newest.now c.next-item.result c.get.result.now c.args.older.now c.in-len1-up.len_at_least c.next-item.is c.get.ensures c.requires

pub merged-requires-in-len1-up-clause-follows : goal.merged-requires-in-len1-up-clause-follows
merged-requires-in-len1-up-clause-follows c =
    joined_follows c.args.newest.now.last (kept_base c.args.old.now) c.args.newest.now c.next-item.result c.get.result.now c.in_ok-run-in-len1-up.run' c.args.older.now c.in-len1-up.len_at_least c.next-item.is c.get.ensures c.requires c.in_ok-run-in-len1-up.ensures
