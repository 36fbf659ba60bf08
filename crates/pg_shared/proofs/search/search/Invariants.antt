use Rattle.std.proofs.Common.{◌-◌, ℕ, ◌≡◌, ◌+◌, ◌<◌, ◌≤◌, length, get_or}
use Rattle.std.specs.declared.cmp.Ordering.TheVariants.{Less, Greater}
use Rattle.pg_chunks.specs.Digits.{digits}
use Rattle.pg_shared.proofs.search.search.Given as goal

abbrev pub invariant-loop-low : goal.invariant-loop-low
invariant-loop-low g l = record {
  order : l.low ≤ l.high;
  within : l.high ≤ length l.items;
  below : (j : ℕ) (d : _) → j < l.low → g.T.Keyed.key_cmp (g.T.Keyed.key_of (get_or l.items j d)) (g.P.Probe.sought l.key) ≡ Less;
  above : (j : ℕ) (d : _) → l.high ≤ j → j < length l.items → g.T.Keyed.key_cmp (g.T.Keyed.key_of (get_or l.items j d)) (g.P.Probe.sought l.key) ≡ Greater;
  cost : l.steps + digits (l.high - l.low) ≤ l.fn.steps + digits (length l.items);
  counts : l.fn.steps ≤ l.steps;
}

abbrev pub decreases-loop-low : goal.decreases-loop-low
decreases-loop-low g l = l.high - l.low
