use Rattle.std.proofs.Common.{◌≡◌, ℕ, [], length}
use Rattle.pg_short.specs.Tight.{list_in, numbers_in}
use Rattle.pg_short.proofs.tight.empty_lists.Given as goal

abbrev pub invariant-loop-place : goal.invariant-loop-place
invariant-loop-place l = record {
  count : length (numbers_in l.lists.items) ≡ l._place;
  empty : (p : ℕ) → list_in (numbers_in l.lists.items) p ≡ [];
}
