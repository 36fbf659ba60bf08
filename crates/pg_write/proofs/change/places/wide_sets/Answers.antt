use Rattle.pg_ast.specs.declared.statement.SetItem.{SetItem}
use Rattle.pg_rules.specs.Changes.{wide_in, names_of}
use Rattle.pg_write.proofs.Loops.{next_place}
use Rattle.pg_write.proofs.change.places.wide_sets.Goals as goal

pub loop-set-preserved : goal.loop-set-preserved
loop-set-preserved c = next_place (λ (s : SetItem). wide_in (names_of c.args.columns.now) s.value) c.loop-set.found c.wide_set.result c.sooner-found.result c.args.sets.now c.loop-set.set-index c.set-item.result c.loop-set-test.true c.set-item.is c.wide_set.ensures c.sooner-found.ensures c.loop-set.invariant
