use Rattle.std.proofs.Common.{◌∙◌, map, ap, sym, ℕ, List, Bor}
use Rattle.pg_catalog.proofs.NameSets.{lookup_mapped, absent_behind, mapped_push, none_of}
use Rattle.std.specs.Str.{bytes_eq}
use Rattle.std.specs.Map.{lookup}
use Rattle.pg_value.specs.declared.value.Kind.{Kind}
use Rattle.pg_catalog.proofs.graph.kinds_by_name.insert_kind.Goals as goal

pub returns-in-Ok : goal.returns-in-Ok
returns-in-Ok c =
    let entries = c.args.kinds.now.entries in
    let f : Bor (List ℕ) × Kind → List ℕ × Kind = λ e. (e.0.now, e.1) in
    let n = sym (lookup_mapped (λ (k : Bor (List ℕ)). k.now) c.args.name.now entries) ∙ none_of (lookup (bytes_eq c.args.name.now) (map f entries)) c.requires in
    ap (map f) (c.in-Ok.ensures.entries ∙ absent_behind (λ (a : Bor (List ℕ)) (b : Bor (List ℕ)). bytes_eq a.now b.now) c.args.name c.args.kind entries n)
    ∙ mapped_push f entries (c.args.name, c.args.kind)
