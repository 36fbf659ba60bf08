use Rattle.std.proofs.Common.{arith, map}
use Rattle.std.proofs.lemmas.Grind.{common_steps}
use Rattle.pg_catalog.proofs.NameSets.{seen_all}
use Rattle.pg_catalog.proofs.name_set.repeated_name.Goals as goal

pub returns : goal.returns
returns g c = let e = seen_all (map g.T.Named.named c.args.items.now) in grind (arith, common_steps)
