use Rattle.std.proofs.Common.{◌≡◌, ◌∙◌, ap, sym, subst, List, map, ◌++◌, append_assoc}
use Rattle.std.specs.Prelude.{OnOk}
use Rattle.pg_ast.specs.Trees.{tree_of, is_binary}
use Rattle.pg_check.specs.Gathered.{Seen, seen_in, use_view}
use Rattle.pg_check.proofs.uses.+push_uses.Goals as goal

pub returns-in_ok-push_uses-in-Binary : goal.returns-in_ok-push_uses-in-Binary
returns-in_ok-push_uses-in-Binary t c =
    let before = map use_view c.args.out.now.items in
    let of = seen_in c.args.inside in
    let second = tree_of c.get-in-Binary-2.result.now in
    subst (λ (us : List Seen). OnOk c.push_uses-in-Binary-2.result (map use_view c.push_uses-in-Binary-2.new.out.items ≡ us))
    (ap (λ us. us ++ of second) c.in_ok-push_uses-in-Binary.ensures
    ∙ append_assoc before (of (tree_of c.get-in-Binary.result.now)) (of second)
    ∙ ap (λ x. before ++ (of (tree_of x) ++ of second)) c.get-in-Binary.ensures
    ∙ ap (λ x. before ++ (of (tree_of c.in-Binary.left) ++ of (tree_of x))) c.get-in-Binary-2.ensures
    ∙ sym (ap (λ e. before ++ of e) (is_binary _ _ _ _ _ c.in-Binary.is)))
    c.push_uses-in-Binary-2.ensures
