use Rattle.std.proofs.Common.{arith, ℕ, List, Bor}
use Rattle.std.proofs.lemmas.Grind.{common_steps}
use Rattle.pg_catalog.proofs.NameSets.{any_mapped_by}
use Rattle.pg_catalog.specs.PropertyRows.{pair_eq}
use Rattle.pg_catalog.proofs.graph.label_agreement.LabelledNames.has.Goals as goal

pub returns : goal.returns
returns c = let e = any_mapped_by (λ (k : Bor (List ℕ) × Bor (List ℕ)). (k.0.now, k.1.now)) pair_eq (c.args.label.now, c.args.name.now) c.self.inside.pairs.keys in let v = c.self.view_is in grind (arith, common_steps)
