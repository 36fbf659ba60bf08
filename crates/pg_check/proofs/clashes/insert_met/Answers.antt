use Rattle.std.proofs.Common.{◌∙◌, ap, map, ℕ, List, Bor}
use Rattle.std.specs.Str.{bytes_eq}
use Rattle.pg_check.specs.Clashes.{met_entry, met_view}
use Rattle.pg_check.proofs.Maps.{insert_seen}
use Rattle.pg_check.proofs.clashes.insert_met.Goals as goal

pub returns-in-Ok : goal.returns-in-Ok
returns-in-Ok c = ap (map met_entry) c.in-Ok.ensures.entries ∙ insert_seen (λ (k : Bor (List ℕ)). k.now) met_view bytes_eq c.args.name c.args.one c.args.met.now.entries
