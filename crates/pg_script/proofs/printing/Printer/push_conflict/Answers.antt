use Rattle.std.proofs.Common.{ap, ◌∙◌, ◌++◌, List, ℕ}
use Rattle.std.specs.Prelude.{codes}
use Rattle.std.proofs.lemmas.Result.{IfOk-equal}
use Rattle.pg_script.specs.Text.{at_text, from_text, place_text}
use Rattle.pg_script.proofs.Texts.Joined.{line_of_two}
use Rattle.pg_script.proofs.printing.Printer.push_conflict.Goals as goal

pub returns : goal.returns
returns c =
    IfOk-equal c.push_from_at.result _ _ _ c.push_from_at.ensures
    (line_of_two c.args.self.now (codes "refused Conflict ") (place_text c.args.table.now c.args.key.now.values) (from_text c.args.from ++ at_text c.args.at) (codes "\n") _ _
    (c.in_ok-push_str.ensures.ok ∙ ap (λ (l : List ℕ). l ++ codes "refused Conflict ") c.self.view_is) c.in_ok-push_place.ensures)
