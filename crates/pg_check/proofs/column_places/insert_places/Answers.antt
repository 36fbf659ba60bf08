use Rattle.std.proofs.Common.{◌∙◌, ap, map, ℕ, List, Bor, Option}
use Rattle.std.specs.Str.{bytes_eq}
use Rattle.pg_check.proofs.Maps.{absent_seen, absent_behind}
use Rattle.pg_check.proofs.Loops.{mapped_push}
use Rattle.pg_check.proofs.column_places.insert_places.Goals as goal

pub returns-in-Ok : goal.returns-in-Ok
returns-in-Ok c = let entries = c.args.places.now.entries in
    let f : Bor (List ℕ) × List (Option ℕ) → List ℕ × List (Option ℕ) = λ e. (e.0.now, e.1) in
    let n = absent_seen (λ (k : Bor (List ℕ)). k.now) (λ (v : List (Option ℕ)). v) (bytes_eq c.args.name.now) entries c.requires in
    ap (map f) (c.in-Ok.ensures.entries ∙ absent_behind (λ (a : Bor (List ℕ)) (b : Bor (List ℕ)). bytes_eq a.now b.now) c.args.name c.args.one entries n)
    ∙ mapped_push f entries (c.args.name, c.args.one)
