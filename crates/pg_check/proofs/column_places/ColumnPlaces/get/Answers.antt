use Rattle.std.proofs.Common.{◌∙◌, ap, sym, ℕ, List, Bor, Option}
use Rattle.std.specs.Map.{lookup}
use Rattle.std.specs.Str.{bytes_eq}
use Rattle.pg_check.proofs.Maps.{lookup_seen, option_same}
use Rattle.pg_check.proofs.column_places.ColumnPlaces.get.Goals as goal

pub returns : goal.returns
returns c = let entries = c.self.inside.places.entries in
    c.get.ensures.value
    ∙ ap (λ t. lookup (λ (k : Bor (List ℕ)). bytes_eq t k.now) entries) c.as_str.ensures.bytes
    ∙ sym (option_same (lookup (λ (k : Bor (List ℕ)). bytes_eq c.args.name.now.text k.now) entries))
    ∙ sym (lookup_seen (λ (k : Bor (List ℕ)). k.now) (λ (v : List (Option ℕ)). v) (bytes_eq c.args.name.now.text) entries)
    ∙ ap (lookup (bytes_eq c.args.name.now.text)) c.self.view_is
