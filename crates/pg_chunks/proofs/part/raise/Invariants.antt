use Rattle.std.proofs.Common.{◌≡◌, length}
use Rattle.pg_chunks.specs.Parts.{raised_from}
use Rattle.pg_chunks.proofs.part.raise.Given as goal

abbrev pub invariant-loop-at : goal.invariant-loop-at
invariant-loop-at g l = record {
  left : raised_from l.at l.chunks ≡ raised_from l.from l.fn.chunks;
  same : length l.chunks ≡ length l.fn.chunks;
}
