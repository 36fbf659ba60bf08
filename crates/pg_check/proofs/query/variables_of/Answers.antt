use Rattle.std.proofs.Common.{◌≡◌, ◌∙◌, ap, sym, subst, List, [], map}
use Rattle.pg_rules.specs.Queries.Collections.{mentions_of}
use Rattle.pg_check.specs.declared.mentions.MentionOf.{MentionOf}
use Rattle.pg_check.specs.Gathered.{firsts_after, mention_view}
use Rattle.pg_check.specs.Resolved.{Fits}
use Rattle.pg_check.proofs.BuiltLaws.{fits_all}
use Rattle.pg_check.proofs.query.variables_of.Goals as goal

pub returns-in-Ok-clause-fits : goal.returns-in-Ok-clause-fits
returns-in-Ok-clause-fits c = let q = c.args.query.now in
    let is : c.in-Ok.variables ≡ firsts_after [] (mentions_of q) = c.in-Ok.ensures ∙ ap (λ (ms : List MentionOf). firsts_after [] (map mention_view ms)) c.deref.ensures.value ∙ ap (firsts_after []) c.in_ok-mentions.ensures in
    subst Fits (sym is) (fits_all c.args.catalog.now q (c.accepted_queries.ensures c.args.catalog.now q c.requires))
