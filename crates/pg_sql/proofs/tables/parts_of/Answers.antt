-- One more item.
use Rattle.std.proofs.Common.{◌≡◌, [], ◌∷◌, ◌++◌, length, filter_map, flat_map, sym, ap, ◌∙◌, append_assoc, append-nil, arith}
use Rattle.std.specs.Vec.Iter.{into_iter_items}
use Rattle.std.proofs.lemmas.List.Elements.{filter_map-append}
use Rattle.std.proofs.lemmas.Grind.{flat_map-append}
use Rattle.pg_ast.specs.Grammar.Definitions.{column_of, keys_of}
use Rattle.pg_sql.proofs.tables.parts_of.Goals as goal

pub loop-item-preserved : goal.loop-item-preserved
loop-item-preserved c =
    let at = c.loop-item in
    let x = c.in-Some.item in
    let steps : into_iter_items at.item-iterator ≡ x ∷ into_iter_items c.next.new.self = c.in-Some.ensures.steps.0 in
    record {
      all = append_assoc at.yielded (x ∷ []) _ ∙ rw (← steps) at.invariant.all;
      left = let was = at.invariant.left in let gone = c.in-Some.ensures.steps.1 in let short = ap length steps in omega arith;
      columns = c.in_ok-parts.ensures.columns ∙ ap (λ l. l ++ filter_map column_of (x ∷ [])) at.invariant.columns ∙ sym (filter_map-append column_of at.yielded (x ∷ []));
      keys =
          c.in_ok-parts.ensures.keys
          ∙ ap (λ l. l ++ keys_of x) at.invariant.keys
          ∙ ap (λ l. flat_map keys_of at.yielded ++ l) (sym (append-nil (keys_of x)))
          ∙ sym (flat_map-append keys_of at.yielded (x ∷ []));
    }
