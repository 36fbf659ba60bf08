use Rattle.std.proofs.Common.{◌≡◌, take}
use Rattle.pg_script.proofs.draft.name_text.Given as goal

abbrev pub invariant-loop-byte : goal.invariant-loop-byte
invariant-loop-byte l = l.out ≡ take l.byte-index l.name
