use Rattle.std.proofs.Common.{◌∙◌, ap, sym, List}
use Rattle.pg_ast.specs.declared.pattern.PathPattern.{PathPattern}
use Rattle.std.specs.List.{flat_map}
use Rattle.pg_rules.specs.Places.{least}
use Rattle.pg_check.specs.Passes.{unlabelled_part}
use Rattle.pg_check.proofs.Loops.{flat_nested}
use Rattle.pg_check.proofs.labels.no_label.Goals as goal

pub returns : goal.returns
returns c = c.unlabelled_paths.ensures ∙ ap (λ (ps : List PathPattern). least (flat_map (λ p. flat_map (unlabelled_part c.args.names.now) p.parts) ps)) c.as_slice.ensures ∙ sym (ap least (flat_nested (unlabelled_part c.args.names.now) (λ (p : PathPattern). p.parts) c.args.query.now.paths))
