use Rattle.std.proofs.Common.{◌≡◌, drop}
use Rattle.pg_catalog.specs.NameSets.{add_all}
use Rattle.pg_rules.specs.Queries.Collections.{named}
use Rattle.pg_check.specs.UsePlaces.{texts_of}
use Rattle.pg_check.proofs.conditions.add_variables.Given as goal

abbrev pub invariant-loop-filler : goal.invariant-loop-filler
invariant-loop-filler l = add_all l.names (texts_of (named (drop l.filler-index l.fillers))) ≡ add_all l.fn.names (texts_of (named l.fillers))
