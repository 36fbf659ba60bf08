use Rattle.pg_rules.proofs.Accepted.Changes.{accepted_changes_are_sound}
use Rattle.pg_rules.proofs.laws.accepted_changes_are_sound.Goals as goal

pub returns : goal.returns
returns c = accepted_changes_are_sound
