use Rattle.std.proofs.Common.{◌≡◌, ◌==◌, drop}
use Rattle.std.specs.List.{list_any}
use Rattle.pg_join.proofs.lists.has_number.Given as goal

abbrev pub invariant-loop-own : goal.invariant-loop-own
invariant-loop-own l = list_any (λ y. y == l.number) l.numbers ≡ list_any (λ y. y == l.number) (drop l.own-index l.numbers)
