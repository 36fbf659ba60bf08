use Rattle.std.proofs.Common.{◌∙◌, ap, sym, ℕ, List, Bor}
use Rattle.std.specs.Prelude.{option_map}
use Rattle.std.specs.Map.{lookup}
use Rattle.std.specs.Str.{bytes_eq}
use Rattle.pg_check.specs.Clashes.{met_view}
use Rattle.pg_check.proofs.Maps.{lookup_seen}
use Rattle.pg_check.proofs.clashes.Mets.get.Goals as goal

pub returns-in-Some : goal.returns-in-Some
returns-in-Some c =
    let entries = c.self.inside.met.entries in
    ap (option_map met_view) c.in-Some.ensures.value
    ∙ ap (λ t. option_map met_view (lookup (λ (k : Bor (List ℕ)). bytes_eq t k.now) entries)) c.as_str.ensures.bytes
    ∙ sym (lookup_seen (λ (k : Bor (List ℕ)). k.now) met_view (bytes_eq c.args.name.now.text) entries)
    ∙ ap (lookup (bytes_eq c.args.name.now.text)) c.self.view_is

pub returns-in-None : goal.returns-in-None
returns-in-None c =
    let entries = c.self.inside.met.entries in
    ap (option_map met_view) c.in-None.ensures.value
    ∙ ap (λ t. option_map met_view (lookup (λ (k : Bor (List ℕ)). bytes_eq t k.now) entries)) c.as_str.ensures.bytes
    ∙ sym (lookup_seen (λ (k : Bor (List ℕ)). k.now) met_view (bytes_eq c.args.name.now.text) entries)
    ∙ ap (lookup (bytes_eq c.args.name.now.text)) c.self.view_is
