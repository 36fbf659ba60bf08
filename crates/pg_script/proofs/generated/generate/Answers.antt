use Rattle.std.proofs.Common.{◌*◌, ◌∙◌, ap, ℕ, ◌++◌}
use Rattle.std.specs.Prelude.{codes}
use Rattle.pg_script.specs.declared.generated.Filled.TheVariants.{Persons, Edges}
use Rattle.pg_script.specs.Text.{line}
use Rattle.pg_script.specs.Generated.{Drawn, definitions, insert_lines, each_below, update_line, queries, order}
use Rattle.pg_script.proofs.GeneratedLaws.{of_seven}
use Rattle.pg_script.proofs.generated.generate.Goals as goal

pub returns : goal.returns
returns c =
    let n = c.args.size in
    let first = ap (λ (d : Drawn). d.seed) c.new-draws.ensures in
    let second = c.push_inserts.ensures.seed ∙ first in
    let third = c.push_inserts-2.ensures.seed ∙ second in
    of_seven definitions (insert_lines c.args.seed n Persons n) (insert_lines c.args.seed n Edges (4 * n)) (line (codes "@session a")) (each_below (update_line c.args.seed n) 300) queries order
    c.new-out.result c.push_definitions.new.out c.push_inserts.new.out c.push_inserts-2.new.out c.push_line.new.out c.push_updates.new.out c.push_queries.new.out c.push_order.new.out
    c.new-out.ensures
    c.in_ok-push_definitions.ensures
    (c.in_ok-push_inserts.ensures.text ∙ ap (λ (s : ℕ). c.push_definitions.new.out ++ insert_lines s n Persons n) first)
    (c.in_ok-push_inserts-2.ensures.text ∙ ap (λ (s : ℕ). c.push_inserts.new.out ++ insert_lines s n Edges (4 * n)) second)
    c.in_ok-push_line.ensures
    (c.in_ok-push_updates.ensures ∙ ap (λ (s : ℕ). c.push_line.new.out ++ each_below (update_line s n) 300) third)
    c.in_ok-push_queries.ensures
    c.in_ok-push_order.ensures
