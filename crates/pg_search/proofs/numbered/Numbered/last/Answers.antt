use Rattle.pg_search.proofs.Numbers.{last_within, last_stands}
use Rattle.pg_search.proofs.numbered.Numbered.last.Goals as goal

pub returns-in-Some-clause-within : goal.returns-in-Some-clause-within
returns-in-Some-clause-within c = last_within c.args.self.now c.are_numbers.ensures c.args.walk c.in-Some.link.now c.in-Some.ensures.some.1

pub returns-in-Some-clause-stands : goal.returns-in-Some-clause-stands
returns-in-Some-clause-stands c = last_stands c.args.self.now c.args.walk c.in-Some.link.now c.in-Some.ensures.some.1
