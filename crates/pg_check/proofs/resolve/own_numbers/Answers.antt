use Rattle.std.proofs.Common.{◌≡◌, ◌∙◌, ap, subst, ℕ, List, map, [], IfOk}
use Rattle.pg_meaning.specs.Mentions.{mentions_in}
use Rattle.pg_rules.specs.Queries.Collections.{outlines}
use Rattle.pg_rules.specs.Queries.CheckedQueries.{number_of}
use Rattle.pg_check.specs.Resolved.{names_in}
use Rattle.pg_check.specs.declared.mentions.MentionOf.{MentionOf}
use Rattle.pg_check.specs.Gathered.{firsts_after, mention_view}
use Rattle.pg_check.proofs.VariableLaws.{entry_variables}
use Rattle.pg_check.proofs.resolve.own_numbers.Goals as goal

pub returns : goal.returns
returns c = let f = number_of (names_in c.args.variables.now) in
    let ms = mentions_in 0 (outlines c.args.path.now) in
    subst (λ (ns : List ℕ). IfOk c.numbers.result (λ r. r ≡ ns))
    (ap (map (λ e. f e.1.variable)) (c.in_ok-own.ensures ∙ ap (λ (xs : List MentionOf). firsts_after [] (map mention_view xs)) c.deref.ensures.value ∙ ap (firsts_after []) c.in_ok-mentions.ensures)
    ∙ entry_variables f ms)
    c.numbers.ensures
