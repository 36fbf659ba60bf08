use Rattle.std.proofs.Common.{◌≡◌, ◌<◌, length, map}
use Rattle.std.specs.Prelude.{slice_get, Some}
use Rattle.pg_auto.specs.Autos.{stage_view}
use Rattle.pg_short.specs.Steps.{step_view}
use Rattle.pg_short.specs.Walks.{rounds_in}
use Rattle.pg_short.proofs.Tracing.{Leads}
use Rattle.pg_short.proofs.traces.trace.Given as goal

abbrev pub invariant-steps : goal.invariant-steps
invariant-steps l = record {
  within : l.at < length l.found;
  here : slice_get l.found l.at ≡ Some l.step;
  back : Leads (map stage_view l.stages) (map step_view l.found) l.number l.at (rounds_in l.rounds.items);
}

abbrev pub decreases-steps : goal.decreases-steps
decreases-steps l = l.at
