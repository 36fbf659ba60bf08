use Rattle.std.proofs.Common.{◌≡◌, Contains, refl, ap, sym, ◌∙◌, subst}
use Rattle.std.specs.Prelude.{Some}
use Rattle.std.specs.Option.{option_copied}
use Rattle.indexmap.proofs.CallerLemmas.{Contains-list_any}
use Rattle.pg_value.specs.declared.shape.ElemId.{ElemId}
use Rattle.pg_value.specs.Graph.{same_elem}
use Rattle.pg_value.specs.Hashing.{one_elem}
use Rattle.pg_join.proofs.selecting.note_end.Goals as goal

some_is : (x y : ElemId) → Some x ≡ Some y → x ≡ y
some_is x y h = cc

pub returns-then-contains : goal.returns-then-contains
returns-then-contains c =
    let end = c.in-Some.end.now in
    let keys = c.args.ends.now.keys in
    let there : Contains keys end = Contains-list_any same_elem one_elem keys end (sym c.contains.ensures ∙ c.if-contains.true) in
    (refl, λ e k. subst (λ z. Contains keys z) (some_is end e (sym (ap option_copied c.in-Some.is) ∙ c.end_of.ensures ∙ k)) there)
