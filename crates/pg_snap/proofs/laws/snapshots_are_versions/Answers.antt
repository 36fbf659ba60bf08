use Rattle.pg_snap.proofs.VersionLaws.{snapshots_are_versions}
use Rattle.pg_snap.proofs.laws.snapshots_are_versions.Goals as goal

pub returns : goal.returns
returns c = snapshots_are_versions
