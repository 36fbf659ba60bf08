use Rattle.std.proofs.Common.{◌≡◌, drop, map}
use Rattle.std.specs.List.{list_all}
use Rattle.pg_rules.specs.Queries.Collections.{same_name}
use Rattle.pg_check.specs.Gathered.{use_view}
use Rattle.pg_check.proofs.groups.are_of.Given as goal

abbrev pub invariant-loop-one : goal.invariant-loop-one
invariant-loop-one l = list_all (λ u. same_name l.name u.variable) (map use_view l.used) ≡ list_all (λ u. same_name l.name u.variable) (map use_view (drop l.one-index l.used))
