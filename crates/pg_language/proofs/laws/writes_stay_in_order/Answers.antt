use Rattle.pg_language.proofs.Keeps.{writes_stay_in_order}
use Rattle.pg_language.proofs.laws.writes_stay_in_order.Goals as goal

pub returns : goal.returns
returns c = writes_stay_in_order
