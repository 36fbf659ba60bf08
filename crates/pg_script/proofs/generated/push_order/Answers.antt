use Rattle.std.proofs.Common.{ℕ}
use Rattle.std.specs.Prelude.{codes}
use Rattle.std.proofs.lemmas.Result.{IfOk-equal}
use Rattle.pg_script.specs.Text.{line}
use Rattle.pg_script.specs.Generated.{each_below, turn_of_a}
use Rattle.pg_script.proofs.GeneratedLaws.{of_three}
use Rattle.pg_script.proofs.generated.push_order.Goals as goal

pub returns : goal.returns
returns c =
    IfOk-equal c.push_line.result _ _ _ c.push_line.ensures
    (of_three c.args.out.now (codes "@order\nb\n") (each_below turn_of_a 300) (line (codes "b b b b")) _ _ c.in_ok-push_str.ensures.ok c.in_ok-push_turns.ensures)
