use Rattle.std.proofs.Common.{◌*◌, ◌∙◌, ap, List, ℕ, ◌++◌}
use Rattle.std.specs.Prelude.{codes}
use Rattle.std.proofs.lemmas.Result.{IfOk-equal}
use Rattle.pg_script.specs.Generated.{name_of, rows_text, rows_in}
use Rattle.pg_script.proofs.GeneratedLaws.{ended_of_four}
use Rattle.pg_script.proofs.generated.push_insert.Goals as goal

pub returns-clause-text : goal.returns-clause-text
returns-clause-text c =
    let first = 100 * c.args.place in
    let seed = c.args.draws.now.seed in
    IfOk-equal c.push_str-4.result _ _ _ c.push_str-4.ensures.ok
    (ended_of_four c.args.out.now (codes "INSERT INTO ") (name_of c.args.filled) (codes " VALUES ") (rows_text seed c.args.persons c.args.filled first (rows_in c.args.count c.args.place)) _ _ _ _
    c.in_ok-push_str.ensures.ok
    (c.in_ok-push_str-2.ensures.ok ∙ ap (λ (n : List ℕ). c.push_str.new.self ++ n) c.name_of.ensures)
    c.in_ok-push_str-3.ensures.ok
    (c.in_ok-push_rows.ensures.text ∙ ap (λ (n : ℕ). c.push_str-3.new.self ++ rows_text seed c.args.persons c.args.filled first n) c.min-rows.ensures))
