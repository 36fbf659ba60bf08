use Rattle.std.proofs.Common.{[], refl, sym}
use Rattle.std.specs.Option.{option_copied, unwrap_or}
use Rattle.pg_snap.proofs.ScanLaws.{drop_at, drop_end}
use Rattle.pg_snap.proofs.scan.next_row.Goals as goal

pub returns-in-Some : goal.returns-in-Some
returns-in-Some c = (c.in-Some.stored.now, drop_at (unwrap_or (option_copied c.args.rows) []) c.args.at.now c.in-Some.stored.now (sym c.in-Some.ensures.value), refl, refl)

pub returns-in-None : goal.returns-in-None
returns-in-None c = let e = drop_end (unwrap_or (option_copied c.args.rows) []) c.args.at.now (sym c.in-None.ensures.value) in (e, e)
