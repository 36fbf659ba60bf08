use Rattle.pg_rules.specs.Catalog.LookUps.{nothing}
use Rattle.pg_language.proofs.laws.logs_fit.Goals as goal

pub returns : goal.returns
returns c = λ limit script t legal. c.legal_logs_fit.ensures nothing limit script t (c.language_is_fitting.ensures script) legal
