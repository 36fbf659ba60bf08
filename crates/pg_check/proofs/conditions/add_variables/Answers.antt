use Rattle.pg_catalog.specs.NameSets.{add_all}
use Rattle.pg_rules.specs.Queries.Collections.{named}
use Rattle.pg_check.specs.UsePlaces.{texts_of}
use Rattle.pg_check.proofs.Names.{next_named}
use Rattle.pg_check.proofs.conditions.add_variables.Goals as goal

pub loop-filler-preserved : goal.loop-filler-preserved
loop-filler-preserved c = next_named c.loop-filler.names c.add_variable.new.names (add_all c.args.names.now (texts_of (named c.args.fillers.now))) c.args.fillers.now c.loop-filler.filler-index c.filler-item.result c.loop-filler-test.true c.filler-item.is c.in_ok-add_variable.ensures c.loop-filler.invariant
