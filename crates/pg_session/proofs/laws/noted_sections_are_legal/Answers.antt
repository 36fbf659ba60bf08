use Rattle.pg_session.proofs.Noted.{noted_sections_are_legal}
use Rattle.pg_session.proofs.laws.noted_sections_are_legal.Goals as goal

pub returns : goal.returns
returns g c = noted_sections_are_legal g.L.Language.judges
