-- The stretches so far, and the starts behind them, for which there are stretches left.
use Rattle.std.proofs.Common.{◌≡◌, ◌≤◌, ◌<◌, ◌+◌, ◌++◌, length}
use Rattle.std.specs.List.{flat_map}
use Rattle.pg_keyed.specs.Lists.{Each}
use Rattle.pg_work.proofs.stretch.stretches.Given as goal

abbrev pub invariant-stretches : goal.invariant-stretches
invariant-stretches g l = record {
  whole : flat_map (λ s. s.starts.now) l.made.items ++ l.rest ≡ l.starts;
  job : Each (λ s. s.job.now ≡ l.job) l.made.items;
  ready : Each (λ s. Each (g.J.StartJob.accepts s.job.now) s.starts.now) l.made.items;
  accepted : Each (g.J.StartJob.accepts l.job) l.rest;
  few : length l.made.items + l.left ≤ l.most;
  last : 0 < length l.rest → 0 < l.left;
}

abbrev pub decreases-stretches : goal.decreases-stretches
decreases-stretches g l = l.left
