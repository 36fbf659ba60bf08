use Rattle.std.proofs.Common.{◌≡◌}
use Rattle.pg_core.specs.Core.{Replays, first_core}
use Rattle.pg_core.proofs.events.replay.Given as goal

abbrev pub invariant-loop-event : goal.invariant-loop-event
invariant-loop-event g l = record {
  shapes : l.replay.shapes ≡ l.fn.shapes;
  limit : l.replay.limit ≡ l.limit;
  made : Replays l.fn.shapes l.limit (first_core l.seats l.seats) l.yielded l.replies l.replay.core;
}
