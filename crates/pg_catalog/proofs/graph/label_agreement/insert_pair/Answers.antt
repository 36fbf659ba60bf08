use Rattle.std.proofs.Common.{◌∙◌, map, ap, ℕ, List, Bor}
use Rattle.pg_catalog.proofs.NameSets.{mapped_add_by}
use Rattle.pg_catalog.specs.PropertyRows.{pair_eq}
use Rattle.pg_catalog.proofs.graph.label_agreement.insert_pair.Goals as goal

pub returns-in-Ok : goal.returns-in-Ok
returns-in-Ok c = ap (map (λ (k : Bor (List ℕ) × Bor (List ℕ)). (k.0.now, k.1.now))) c.in-Ok.ensures.keys ∙ mapped_add_by (λ k. (k.0.now, k.1.now)) pair_eq c.args.pairs.now.keys (c.args.label, c.args.name)
