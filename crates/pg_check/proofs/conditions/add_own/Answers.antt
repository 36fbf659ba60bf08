use Rattle.std.proofs.Common.{◌≡◌, ◌∙◌, ap, sym, subst, List, ℕ}
use Rattle.std.specs.Prelude.{OnOk}
use Rattle.pg_rules.specs.Queries.Collections.{named}
use Rattle.pg_catalog.specs.NameSets.{add_all}
use Rattle.pg_check.specs.Passes.{own_names}
use Rattle.pg_check.specs.UsePlaces.{texts_of}
use Rattle.pg_check.proofs.Names.{added_more, named_both}
use Rattle.pg_check.proofs.conditions.add_own.Goals as goal

pub returns-in_ok-add_variables-in-Together : goal.returns-in_ok-add_variables-in-Together
returns-in_ok-add_variables-in-Together c =
    let nodes = c.in-Together.nodes.now in
    let edges = c.in-Together.edges.now in
    subst (λ (ns : List (List ℕ)). OnOk c.add_variables-in-Together.result (c.add_variables-in-Together.new.names ≡ ns))
    (ap (λ ns. add_all ns (texts_of (named edges))) c.in_ok-add_variables-in-Together.ensures
    ∙ added_more c.args.names.now (texts_of (named nodes)) (texts_of (named edges))
    ∙ ap (add_all c.args.names.now) (sym (named_both nodes edges))
    ∙ ap (λ o. add_all c.args.names.now (texts_of (own_names o))) (sym c.in-Together.is))
    c.add_variables-in-Together.ensures
