use Rattle.pg_session.proofs.LogFits.{legal_logs_fit}
use Rattle.pg_session.proofs.laws.legal_logs_fit.Goals as goal

pub returns : goal.returns
returns g c = legal_logs_fit g.L.Language.judges
