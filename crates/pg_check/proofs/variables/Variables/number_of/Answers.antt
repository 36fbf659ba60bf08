use Rattle.std.proofs.Common.{◌∙◌, ap}
use Rattle.std.specs.Option.{unwrap_or}
use Rattle.pg_check.proofs.NumberLaws.{number_is}
use Rattle.pg_check.proofs.variables.Variables.number_of.Goals as goal

pub returns-in-Some : goal.returns-in-Some
returns-in-Some c = ap (λ o. unwrap_or o 0) (c.in-Some.ensures.place ∙ number_is c.args.self.now c.args.name.now c.requires)

pub returns-in-None : goal.returns-in-None
returns-in-None c = ap (λ o. unwrap_or o 0) (c.in-None.ensures.place ∙ number_is c.args.self.now c.args.name.now c.requires)
