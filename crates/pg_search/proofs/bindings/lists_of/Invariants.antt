use Rattle.std.proofs.Common.{◌≡◌, map, take}
use Rattle.pg_search.specs.Found.{list_of}
use Rattle.pg_search.proofs.bindings.lists_of.Given as goal

abbrev pub invariant-loop-var : goal.invariant-loop-var
invariant-loop-var l = l.lists ≡ map (list_of l.numbers l.singles l.groups) (take l.var-index l.vars)
