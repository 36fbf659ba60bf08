use Rattle.pg_auto.proofs.Steps.Follows.{tests_tell}
use Rattle.pg_auto.proofs.laws.tests_tell.Goals as goal

pub returns : goal.returns
returns c = tests_tell
