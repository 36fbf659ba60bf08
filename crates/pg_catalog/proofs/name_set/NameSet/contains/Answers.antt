use Rattle.std.proofs.Common.{arith, ℕ, List, Bor}
use Rattle.std.proofs.lemmas.Grind.{common_steps}
use Rattle.pg_catalog.proofs.NameSets.{any_mapped}
use Rattle.pg_catalog.proofs.name_set.NameSet.contains.Goals as goal

pub returns : goal.returns
returns c = let e = any_mapped (λ (k : Bor (List ℕ)). k.now) c.args.text.now c.self.inside.texts.keys in let v = c.self.view_is in grind (arith, common_steps)
