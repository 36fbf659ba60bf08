use Rattle.std.proofs.Common.{◌≡◌, List, [], ◌∷◌, ◌++◌, sym, ap, subst, ◌∙◌, inl, inr}
use Rattle.std.specs.Prelude.{Contains}
use Rattle.pg_value.specs.declared.shape.ElemId.{ElemId}
use Rattle.pg_meaning.specs.Members.{in_nil}
use Rattle.pg_search.specs.Numbers.{AreNumbers}
use Rattle.pg_search.specs.Puts.{IsPut}
use Rattle.pg_search.proofs.Numbers.{are_first}
use Rattle.pg_search.proofs.numbered.Numbered.new.Goals as goal

put_first : (none : List ElemId) (elem : ElemId) (more : List ElemId) → none ≡ [] → IsPut none elem more → more ≡ elem ∷ []
put_first none elem more e (inl p) = absurd (in_nil elem (subst (λ xs. Contains xs elem) e p.1))
put_first none elem more e (inr p) = p.0 ∙ ap (λ xs. xs ++ elem ∷ []) e

pub invariant_of-result : goal.invariant_of-result
invariant_of-result c =
    let elems = put_first c.new-elems.result c.in_ok-first.first c.insert_elem.new.elems c.new-elems.ensures c.in_ok-insert_elem.ensures.put ∙ ap (λ e. e ∷ []) c.in_ok-first.ensures in
    subst AreNumbers (sym (λ i. record { start = c.args.start.now; elems = elems i; walks = c.new.ensures i; names = c.new-2.ensures i })) (are_first c.args.start.now)
