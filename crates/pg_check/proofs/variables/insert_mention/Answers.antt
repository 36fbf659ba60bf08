use Rattle.std.proofs.Common.{◌≡◌, ◌∙◌, ap, sym, subst, map, ◌++◌, ◌∷◌, [], ℕ, List, Bor, None}
use Rattle.std.specs.Str.{bytes_eq}
use Rattle.std.specs.Map.{lookup}
use Rattle.pg_check.specs.Gathered.{entry_view, mention_view}
use Rattle.pg_check.proofs.Maps.{absent_seen, absent_behind}
use Rattle.pg_check.proofs.Loops.{mapped_push}
use Rattle.pg_check.proofs.variables.insert_mention.Goals as goal

pub returns-in-Ok : goal.returns-in-Ok
returns-in-Ok c = let entries = c.args.firsts.now.entries in
    let text = c.args.mention.variable.now.text in
    let n = absent_seen (λ (k : Bor (List ℕ)). k.now) mention_view (bytes_eq text) entries c.requires in
    let gone : lookup (λ (k : Bor (List ℕ)). bytes_eq c.as_str.result.now k.now) entries ≡ None = subst (λ t. lookup (λ (k : Bor (List ℕ)). bytes_eq t k.now) entries ≡ None) (sym c.as_str.ensures.bytes) n in
    ap (map entry_view) (c.in-Ok.ensures.entries ∙ absent_behind (λ (a : Bor (List ℕ)) (b : Bor (List ℕ)). bytes_eq a.now b.now) c.as_str.result c.args.mention entries gone)
    ∙ mapped_push entry_view entries (c.as_str.result, c.args.mention)
    ∙ ap (λ t. map entry_view entries ++ (t, mention_view c.args.mention) ∷ []) c.as_str.ensures.bytes
