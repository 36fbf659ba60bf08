use Rattle.std.proofs.Common.{◌≡◌, ◌++◌, map}
use Rattle.std.specs.String.{string_bytes}
use Rattle.std.specs.Vec.Iter.{into_iter_items, into_iter_len}
use Rattle.pgq.proofs.words.texts.Given as goal

abbrev pub invariant-strings : goal.invariant-strings
invariant-strings l = l.texts ++ map string_bytes (into_iter_items l.strings) ≡ map string_bytes (into_iter_items l.fn.strings)

abbrev pub decreases-strings : goal.decreases-strings
decreases-strings l = into_iter_len l.strings
