use Rattle.std.proofs.Common.{◌≡◌, ℕ, List, ap, ◌∙◌}
use Rattle.std.specs.Prelude.{IfOk}
use Rattle.std.specs.declared.result.Result.{Result}
use Rattle.std.specs.declared.result.Result.TheVariants.{Ok, Err}
use Rattle.pg_meaning.specs.Bindings.{path_binding}
use Rattle.pg_auto.specs.States.{binding_of}
use Rattle.pg_search.specs.Chains.{list_at}
use Rattle.pg_search.specs.Found.{walk_of}
use Rattle.pg_search.proofs.bindings.binding.Goals as goal

then_same : {A E : Type 0} (r : Result A E) (x y : A) → x ≡ y → IfOk r (λ b. b ≡ x) → IfOk r (λ b. b ≡ y)
then_same (Ok b) x y e h = h ∙ e
then_same (Err f) x y e h = tt

pub returns : goal.returns
returns c =
    let n = c.args.numbers.now in
    let vars = c.args.vars.now in
    let hops = c.deref.ensures.value ∙ c.in_ok-hops.ensures ∙ ap (λ (ws : List (List (ℕ × ℕ))). list_at ws c.args.state.now.walk) c.walks.ensures in
    let singles = c.deref-2.ensures.value ∙ c.in_ok-singles.ensures ∙ ap (λ (ws : List (List (ℕ × ℕ))). list_at ws c.args.state.now.singles) c.names.ensures in
    let groups = c.deref-3.ensures.value ∙ c.in_ok-groups.ensures ∙ ap (λ (ws : List (List (ℕ × ℕ))). list_at ws c.args.state.now.groups) c.names-2.ensures in
    then_same c.binding_of_items.result _ _ (λ i. path_binding (binding_of n.start vars (walk_of n (hops i) (singles i) (groups i)))) c.binding_of_items.ensures
