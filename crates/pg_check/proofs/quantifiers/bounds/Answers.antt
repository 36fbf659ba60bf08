use Rattle.std.proofs.Common.{◌∙◌, ap, List}
use Rattle.pg_ast.specs.declared.pattern.PathPattern.{PathPattern}
use Rattle.std.specs.List.{flat_map}
use Rattle.pg_rules.specs.Places.{least}
use Rattle.pg_check.specs.Passes.{reversed_path}
use Rattle.pg_check.proofs.QuantLaws.{bounds_same}
use Rattle.pg_check.proofs.quantifiers.bounds.Goals as goal

pub returns : goal.returns
returns c = c.reversed_paths.ensures ∙ ap (λ (ps : List PathPattern). least (flat_map reversed_path ps)) c.as_slice.ensures ∙ ap least (bounds_same c.args.query.now)
