use Rattle.std.proofs.Common.{◌≡◌, filter, sym, subst}
use Rattle.std.proofs.lemmas.Result.{IfOk-weaker}
use Rattle.indexmap.specs.IndexMap.{get}
use Rattle.pg_value.specs.declared.shape.ElemId.{ElemId}
use Rattle.pg_value.specs.Graph.{same_elem}
use Rattle.pg_join.specs.Selecting.{AreLeast}
use Rattle.pg_join.specs.Ends.{IsLeast, is_least}
use Rattle.pg_join.proofs.Lengths.{are_least}
use Rattle.pg_join.proofs.selecting.least_of_each.Goals as goal

pub returns : goal.returns
returns c =
    let least = c.in_ok-least.least in
    let known : (e : ElemId) → IsLeast c.args.found e (get same_elem least e) = λ e. subst (λ bs. IsLeast bs e (get same_elem least e)) c.as_slice.ensures (c.in_ok-least.ensures e) in
    IfOk-weaker c.having_least.result (λ kept. kept ≡ filter (is_least (λ e. get same_elem least e)) c.args.found) (AreLeast c.args.found)
    (λ kept h. subst (AreLeast c.args.found) (sym h) (are_least c.args.found c.requires (λ e. get same_elem least e) known)) c.having_least.ensures
