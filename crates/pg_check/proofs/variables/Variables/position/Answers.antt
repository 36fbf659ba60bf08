use Rattle.std.proofs.Common.{◌∙◌, ap, sym, ℕ, List, Bor, map}
use Rattle.std.specs.Prelude.{position}
use Rattle.std.specs.Str.{bytes_eq}
use Rattle.pg_ast.specs.declared.expr.Name.{Name}
use Rattle.pg_meaning.specs.Mentions.{Mention}
use Rattle.pg_check.specs.declared.mentions.MentionOf.{MentionOf}
use Rattle.pg_check.specs.Gathered.{entry_view}
use Rattle.pg_check.proofs.VariableLaws.{map_twice}
use Rattle.pg_check.proofs.NumberLaws.{position_mapped}
use Rattle.pg_check.proofs.variables.Variables.position.Goals as goal

pub returns-clause-place : goal.returns-clause-place
returns-clause-place c = let entries = c.self.inside.firsts.entries in
    let text = c.args.name.now.text in
    let key = λ (e : Bor (List ℕ) × MentionOf). e.0 in
    let now = λ (k : Bor (List ℕ)). k.now in
    c.get_index_of.ensures.index
    ∙ ap (λ t. position (λ (k : Bor (List ℕ)). bytes_eq t k.now) (map key entries)) c.as_str.ensures.bytes
    ∙ sym (position_mapped (bytes_eq text) now (map key entries))
    ∙ ap (position (bytes_eq text)) (map_twice now key entries ∙ sym (map_twice (λ (e : List ℕ × Mention Name). e.0) entry_view entries) ∙ ap (map (λ e. e.0)) c.self.view_is)
