use Rattle.pg_search.proofs.Numbers.{same_hops, same_mentions}
use Rattle.pg_search.proofs.numbered.Numbered.are_apart.Goals as goal

pub returns : goal.returns
returns c = record { hops = same_hops c.args.self.now c.are_numbers.ensures; mentions = same_mentions c.args.self.now c.are_numbers.ensures }
