use Rattle.std.proofs.Common.{◌∙◌, ap, map, ℕ, List, Bor, Bool}
use Rattle.pg_check.specs.Clashes.{inner_entry, place_eq}
use Rattle.pg_check.proofs.Maps.{insert_seen}
use Rattle.pg_check.proofs.clashes.insert_inner.Goals as goal

pub returns-in-Ok : goal.returns-in-Ok
returns-in-Ok c = ap (map inner_entry) c.in-Ok.ensures.entries ∙ insert_seen (λ (k : Bor (List ℕ) × ℕ). (k.0.now, k.1)) (λ (b : Bool). b) place_eq (c.args.name, c.args.path) c.args.one c.args.inner.now.entries
