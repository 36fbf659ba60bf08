-- One more part.
use Rattle.std.proofs.Common.{◌≡◌, [], ◌∷◌, ◌++◌, length, ap, ◌∙◌, append_assoc, arith, rules}
use Rattle.std.specs.Vec.Iter.{into_iter_items}
use Rattle.pg_work.proofs.Stretches.{part_more}
use Rattle.pg_work.proofs.starts.joined.Goals as goal

pub parts-preserved : goal.parts-preserved
parts-preserved g c =
    let at = c.parts in
    let x = c.in-Some.part in
    let steps : into_iter_items at.part-iterator ≡ x ∷ into_iter_items c.next.new.self = c.in-Some.ensures.steps.0 in
    let grown : c.append.new.self.items ≡ at.made.items ++ c.in_ok-part.field-0 = search rules in
    record {
      all = append_assoc at.yielded (x ∷ []) _ ∙ rw (← steps) at.invariant.all;
      left = let was = at.invariant.left in let gone = c.in-Some.ensures.steps.1 in let short = ap length steps in omega arith;
      made = part_more at.yielded at.made.items c.in_ok-part.field-0 x c.append.new.self.items c.in_ok-part.was grown at.invariant.made;
    }
