use Rattle.std.proofs.Common.{List, ◌++◌, length, map, refl, ap, ◌∙◌, subst}
use Rattle.pg_short.specs.Steps.{Step, step_view}
use Rattle.pg_short.specs.Searches.{IsMore}
use Rattle.pg_short.proofs.FoundRounds.{on_ok}
use Rattle.pg_short.proofs.FoundSteps.{get_map}
use Rattle.pg_short.proofs.Queued.{get_some_or, both_ok}
use Rattle.pg_short.proofs.search.visit.Goals as goal

pub returns-clause-visit : goal.returns-clause-visit
returns-clause-visit g c =
    let found = c.args.search.now.found.items in
    let old = map step_view found in
    on_ok c.push_found.result _ _
    (λ h. record {
      step = step_view c.index.result.now;
      here = get_map step_view found c.args.number c.index.result.now (get_some_or found c.args.number c.index.result.now c.requires.number c.index.ensures);
      found = h.0 ∙ ap (λ (xs : List Step). old ++ xs) c.in_ok-new.ensures.made;
      order = c.in_ok-push.ensures.items;
      waiting = subst (λ (xs : List Step). IsMore (length found) xs c.args.search.now.waiting c.push_found.new.waiting) c.in_ok-new.ensures.made h.1;
      spots = refl;
    })
    (both_ok c.push_found.result _ _ c.push_found.ensures.found c.push_found.ensures.waiting)
