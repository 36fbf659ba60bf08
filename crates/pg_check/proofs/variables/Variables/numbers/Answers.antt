use Rattle.std.proofs.Common.{◌≡◌, ◌∙◌, ap, sym, subst, ℕ, List, map, IfOk}
use Rattle.pg_ast.specs.declared.expr.Name.{Name}
use Rattle.pg_meaning.specs.Mentions.{Mention}
use Rattle.pg_rules.specs.Queries.CheckedQueries.{number_of}
use Rattle.pg_check.specs.Resolved.{names_in}
use Rattle.pg_check.specs.Gathered.{entry_view}
use Rattle.pg_check.proofs.VariableLaws.{map_twice}
use Rattle.pg_check.proofs.variables.Variables.numbers.Goals as goal

pub returns : goal.returns
returns c = let entries = c.self.inside.firsts.entries in
    let f : List ℕ × Mention Name → ℕ = λ e. number_of (names_in c.args.all.now) e.1.variable in
    subst (λ (ns : List ℕ). IfOk c.numbers_of.result (λ r. r ≡ ns)) (sym (map_twice f entry_view entries) ∙ ap (map f) c.self.view_is) c.numbers_of.ensures
