use Rattle.std.proofs.Common.{◌≡◌, map}
use Rattle.pg_auto.specs.Autos.{stage_view}
use Rattle.pg_short.specs.Found.{steps_in}
use Rattle.pg_short.specs.Rests.{AreLed, AreWithin, rests_of}
use Rattle.pg_short.proofs.back.go_back_all.Given as goal

abbrev pub invariant-loop-at : goal.invariant-loop-at
invariant-loop-at l = record {
  kept : AreWithin l.numbers l.states;
  start : l.numbers.start ≡ l.fn.numbers.start;
  led : AreLed (map stage_view l.stages) (steps_in l.search) l.search.order.items (rests_of l.numbers l.states) l.at;
}
