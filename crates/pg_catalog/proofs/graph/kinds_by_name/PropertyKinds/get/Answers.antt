use Rattle.std.proofs.Common.{arith, ℕ, List, Bor}
use Rattle.std.proofs.lemmas.Grind.{common_steps}
use Rattle.pg_catalog.proofs.NameSets.{lookup_mapped}
use Rattle.pg_catalog.proofs.graph.kinds_by_name.PropertyKinds.get.Goals as goal

pub returns-in-Some : goal.returns-in-Some
returns-in-Some c = let e = lookup_mapped (λ (k : Bor (List ℕ)). k.now) c.args.name.now c.self.inside.kinds.entries in let v = c.self.view_is in grind (arith, common_steps)

pub returns-in-None : goal.returns-in-None
returns-in-None c = let e = lookup_mapped (λ (k : Bor (List ℕ)). k.now) c.args.name.now c.self.inside.kinds.entries in let v = c.self.view_is in grind (arith, common_steps)
