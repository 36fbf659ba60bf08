use Rattle.pg_session.proofs.OneText.{stepped_runs_are_one}
use Rattle.pg_session.proofs.laws.stepped_runs_are_one.Goals as goal

pub returns : goal.returns
returns g c = stepped_runs_are_one g.L.Language.judges
