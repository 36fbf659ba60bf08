use Rattle.std.proofs.Common.{◌≡◌, drop, map}
use Rattle.pg_meaning.specs.LabelSets.{has_label}
use Rattle.pg_catalog.proofs.graph.look_up.has_label.Given as goal

abbrev pub invariant-loop-label : goal.invariant-loop-label
invariant-loop-label l = has_label (map (λ d. d.name) l.labels) l.name ≡ has_label (map (λ d. d.name) (drop l.label-index l.labels)) l.name
