use Rattle.std.proofs.Common.{◌≡◌, ◌+◌, ℕ, List, [], ◌∷◌, ◌++◌, length, map, ap, sym, ◌∙◌, subst, arith, append_assoc, length-append}
use Rattle.std.specs.Vec.Iter.{into_iter_items}
use Rattle.std.proofs.lemmas.List.{length-map}
use Rattle.pg_short.specs.Steps.{Step, step_view}
use Rattle.pg_short.specs.Searches.{IsOut, IsMore}
use Rattle.pg_short.proofs.Searching.{map_both}
use Rattle.pg_short.proofs.Queued.{one_more}
use Rattle.pg_short.proofs.search.push_found.Goals as goal

pub loop-step-preserved : goal.loop-step-preserved
loop-step-preserved c =
    let at = c.loop-step in
    let x = c.in-Some.step in
    let n = length c.args.found.now.items in
    let steps : into_iter_items at.step-iterator ≡ x ∷ into_iter_items c.next.new.self = c.in-Some.ensures.steps.0 in
    let both = map_both step_view at.yielded (x ∷ []) in
    let place : c.len.result ≡ n + length (map step_view at.yielded) =
    (let a = c.len.ensures in let b = ap length at.invariant.kept in let d = length-map at.found.items step_view in let e = length-append (map step_view c.args.found.now.items) (map step_view at.yielded) in let f = length-map c.args.found.now.items step_view in omega arith) in
    record {
      all = append_assoc at.yielded (x ∷ []) _ ∙ rw (← steps) at.invariant.all;
      left = let was = at.invariant.left in let gone = c.in-Some.ensures.steps.1 in let short = ap length steps in omega arith;
      kept = ap (map step_view) c.in_ok-push-2.ensures.items ∙ map_both step_view at.found.items (x ∷ []) ∙ ap (λ (z : List Step). z ++ step_view x ∷ []) at.invariant.kept
          ∙ append_assoc (map step_view c.args.found.now.items) (map step_view at.yielded) (step_view x ∷ []) ∙ ap (λ (z : List Step). map step_view c.args.found.now.items ++ z) (sym both);
      more = subst (λ (new : List Step). IsMore n new c.args.waiting.now c.push.new.self) (sym both)
          (one_more n (map step_view at.yielded) (step_view x) c.args.waiting.now at.waiting c.push.new.self at.invariant.more
          (subst (λ (k : ℕ). IsOut ((step_view x).long, k) c.push.new.self at.waiting) place c.in_ok-push.ensures));
    }
