use Rattle.std.proofs.Common.{◌≡◌, [], ◌∷◌, ◌++◌, arith, append_assoc, sym, ◌∙◌, subst}
use Rattle.std.specs.Vec.Iter.{into_iter_items}
use Rattle.std.proofs.lemmas.Grind.{common_steps}
use Rattle.pg_join.specs.Selecting.{end_of}
use Rattle.pg_join.specs.Ends.{IsNoted}
use Rattle.pg_join.proofs.Lengths.{Noted, noted_new, noted_old, are_firsts}
use Rattle.pg_join.proofs.selecting.with_new_ends.Goals as goal

pub loop-binding-preserved-in-Continue-branch-2 : goal.loop-binding-preserved-in-Continue-branch-2
loop-binding-preserved-in-Continue-branch-2 c =
    let at = c.loop-binding in
    let b = c.in-Some.binding in
    let more = c.note_end.new.ends.keys in
    let h = subst (λ t. IsNoted at.ends.keys (end_of b) t more) c.if-branch.true c.in_ok-note_end.ensures in
    let steps : into_iter_items at.binding-iterator ≡ b ∷ into_iter_items c.next.new.self = c.in-Some.ensures.steps.0 in
    record {
      all = append_assoc at.yielded (b ∷ []) _ ∙ rw (← steps) at.invariant.all;
      noted = subst (λ ks. Noted (at.yielded ++ b ∷ []) ks more) (sym c.in_ok-push.ensures.ok) (noted_new at.yielded at.kept at.ends.keys more b at.invariant.noted h);
    }

pub loop-binding-preserved : goal.loop-binding-preserved
loop-binding-preserved c =
    let at = c.loop-binding in
    let b = c.in-Some.binding in
    let more = c.note_end.new.ends.keys in
    let h = subst (λ t. IsNoted at.ends.keys (end_of b) t more) c.if-branch.false c.in_ok-note_end.ensures in
    let steps : into_iter_items at.binding-iterator ≡ b ∷ into_iter_items c.next.new.self = c.in-Some.ensures.steps.0 in
    record {
      all = append_assoc at.yielded (b ∷ []) _ ∙ rw (← steps) at.invariant.all;
      noted = noted_old at.yielded at.kept at.ends.keys more b at.invariant.noted h;
    }

pub returns : goal.returns
returns c =
    let at = c.loop-binding in
    let e : at.yielded ≡ c.args.found = grind (arith, common_steps) in
    are_firsts c.args.found at.kept at.ends.keys c.requires.ends (subst (λ bs. Noted bs at.kept at.ends.keys) e at.invariant.noted)
