use Rattle.std.proofs.Common.{◌∙◌, arith, map, ap, ℕ, List, Bor}
use Rattle.std.proofs.lemmas.Grind.{common_steps}
use Rattle.pg_catalog.proofs.NameSets.{any_mapped, mapped_add}
use Rattle.pg_catalog.proofs.name_set.insert_text.Goals as goal

pub returns-in-Ok-clause-again : goal.returns-in-Ok-clause-again
returns-in-Ok-clause-again c = let e = any_mapped (λ (k : Bor (List ℕ)). k.now) c.args.text.now c.args.texts.now.keys in grind (arith, common_steps)

pub returns-in-Ok-clause-added : goal.returns-in-Ok-clause-added
returns-in-Ok-clause-added c = ap (map (λ (k : Bor (List ℕ)). k.now)) c.in-Ok.ensures.keys ∙ mapped_add (λ k. k.now) c.args.texts.now.keys c.args.text
