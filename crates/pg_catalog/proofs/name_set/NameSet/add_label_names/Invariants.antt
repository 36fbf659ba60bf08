use Rattle.std.proofs.Common.{◌≡◌, drop, map}
use Rattle.pg_catalog.specs.NameSets.{add_all}
use Rattle.pg_catalog.proofs.name_set.NameSet.add_label_names.Given as goal

abbrev pub invariant-loop-label : goal.invariant-loop-label
invariant-loop-label l = add_all l.self (map (λ d. d.name) (drop l.label-index l.labels)) ≡ add_all l.fn.self (map (λ d. d.name) l.labels)
