use Rattle.std.proofs.Common.{◌≡◌, drop, map}
use Rattle.pg_rules.specs.Places.{least, sooner}
use Rattle.pg_catalog.specs.NameSets.{repeats_after, add_all, texts_by}
use Rattle.pg_catalog.proofs.name_set.NameSet.add_named.Given as goal

abbrev pub invariant-loop-item : goal.invariant-loop-item
invariant-loop-item g l = record {
  found : sooner l.found (least (repeats_after l.self (map g.T.Named.named (drop l.item-index l.items)))) ≡ least (repeats_after l.fn.self (map g.T.Named.named l.items));
  added : add_all l.self (texts_by g.T.Named.named (drop l.item-index l.items)) ≡ add_all l.fn.self (texts_by g.T.Named.named l.items);
}
