use Rattle.pg_rules.proofs.ChangeLaws.{same_judgement, same_effect}
use Rattle.pg_rules.proofs.laws.inserts_as_changes.Goals as goal

pub returns : goal.returns
returns c = record { judgement = same_judgement; effect = same_effect }
