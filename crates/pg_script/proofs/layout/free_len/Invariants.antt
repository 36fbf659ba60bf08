use Rattle.std.proofs.Common.{◌≡◌, ◌+◌, true, drop}
use Rattle.pg_script.specs.Passes.{section_at}
use Rattle.pg_script.proofs.layout.free_len.Given as goal

abbrev pub invariant-bytes : goal.invariant-bytes
invariant-bytes l = l.i + section_at l.begins (drop l.i l.bytes) ≡ section_at true l.bytes
