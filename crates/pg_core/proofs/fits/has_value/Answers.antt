use Rattle.std.proofs.Common.{◌≡◌, true, false, ap, sym, subst, ◌∙◌, get_or, length}
use Rattle.std.specs.declared.cmp.Ordering.{Ordering}
use Rattle.std.specs.declared.cmp.Ordering.TheVariants.{Less, Equal, Greater}
use Rattle.std.proofs.lemmas.Bool.{ltb-true}
use Rattle.std.proofs.lemmas.List.{get_or_default}
use Rattle.std.specs.Ordering.{ordering_index, is_eq}
use Rattle.std.specs.Prelude.{◌==◌}
use Rattle.pg_value.specs.declared.value.Value.{Value}
use Rattle.pg_value.specs.declared.value.Value.TheVariants.{Null}
use Rattle.pg_value.specs.Order.{value_cmp}
use Rattle.pg_value.specs.Orders.{value_exact}
use Rattle.pg_value.specs.Hashing.{value_equivalence}
use Rattle.pg_core.specs.State.{Tells}
use Rattle.pg_core.proofs.fits.has_value.Goals as goal

-- values are one exactly where their order finds them equal
tells_equal : (a b : Value) (o : Ordering) → o ≡ value_cmp a b → Tells (ordering_index o == 1) (a ≡ b)
tells_equal a b Less h = λ e. absurd (let z : false ≡ true = ap is_eq (h ∙ ap (λ x. value_cmp x b) e) ∙ value_equivalence.refl b in cc)
tells_equal a b Equal h = value_exact a b (sym h)
tells_equal a b Greater h = λ e. absurd (let z : false ≡ true = ap is_eq (h ∙ ap (λ x. value_cmp x b) e) ∙ value_equivalence.refl b in cc)

pub returns-in-Some : goal.returns-in-Some
returns-in-Some c =
    let found : c.in-Some.found.now ≡ get_or c.args.row.now c.args.place Null = c.in-Some.ensures.lookup.1 ∙ get_or_default c.args.row.now c.args.place c.in-Some.found.now Null (ltb-true c.args.place (length c.args.row.now) (sym c.in-Some.ensures.lookup.0)) in
    subst (λ r. Tells r (get_or c.args.row.now c.args.place Null ≡ c.args.value.now)) (sym c.eq.ensures)
    (tells_equal (get_or c.args.row.now c.args.place Null) c.args.value.now c.order_values.result (c.order_values.ensures ∙ ap (λ x. value_cmp x c.args.value.now) found))
