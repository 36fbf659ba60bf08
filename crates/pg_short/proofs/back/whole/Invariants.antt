use Rattle.std.proofs.Common.{◌≡◌, map, take}
use Rattle.std.specs.Prelude.{flat_map}
use Rattle.pg_keyed.specs.Lists.{Each}
use Rattle.pg_short.specs.Selections.{IsShort}
use Rattle.pg_short.specs.Rests.{whole_at, rest_of}
use Rattle.pg_short.proofs.back.whole.Given as goal

abbrev pub invariant-loop-at : goal.invariant-loop-at
invariant-loop-at l = record {
  given : l.out ≡ flat_map (λ a. whole_at l.numbers.start l.vars l.place (rest_of l.numbers a)) (take l.at l.states);
  short : Each IsShort l.out;
}
