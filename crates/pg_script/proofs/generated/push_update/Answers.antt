use Rattle.std.proofs.Common.{◌*◌, ◌+◌, ◌∙◌, ap, List, ℕ, ◌++◌}
use Rattle.std.specs.Prelude.{codes}
use Rattle.std.specs.Fmt.{decimal}
use Rattle.std.proofs.lemmas.Result.{IfOk-equal}
use Rattle.pg_script.specs.Text.{line}
use Rattle.pg_script.specs.Generated.{draw, update_line}
use Rattle.pg_script.proofs.GeneratedLaws.{ended}
use Rattle.pg_script.proofs.generated.push_update.Goals as goal

pub returns-clause-text : goal.returns-clause-text
returns-clause-text c =
    let seed = c.args.draws.now.seed in
    let below = 4 * c.args.persons in
    let id = c.draw-id.ensures.drawn ∙ ap (λ (k : ℕ). draw seed k below) c.requires.made in
    IfOk-equal c.push_str-2.result _ _ _ c.push_str-2.ensures.ok
    (ended c.args.out.now (codes "UPDATE knows SET w = w + 1 WHERE id = ") (decimal (c.draw-id.result + 1)) _ _ c.in_ok-push_str.ensures.ok c.in_ok-push_number.ensures.ok
    ∙ ap (λ (k : ℕ). c.args.out.now ++ line (codes "UPDATE knows SET w = w + 1 WHERE id = " ++ (decimal (k + 1) ++ codes ";"))) id)
