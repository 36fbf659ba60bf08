use Rattle.std.specs.List.{flat_map}
use Rattle.pg_ast.specs.declared.pattern.PathPattern.{PathPattern}
use Rattle.pg_check.specs.Passes.{unlabelled_part}
use Rattle.pg_check.proofs.Loops.{next_place}
use Rattle.pg_check.proofs.labels.unlabelled_paths.Goals as goal

pub loop-path-preserved : goal.loop-path-preserved
loop-path-preserved c = next_place (λ (p : PathPattern). flat_map (unlabelled_part c.args.names.now) p.parts) c.loop-path.found c.unlabelled_path.result c.sooner-found.result c.args.paths.now c.loop-path.path-index c.path-item.result c.loop-path-test.true c.path-item.is c.unlabelled_path.ensures c.sooner-found.ensures c.loop-path.invariant
