use Rattle.std.proofs.Common.{map, take}
use Rattle.std.specs.List.{AllZip}
use Rattle.pg_script.specs.Script.{IsTurn}
use Rattle.pg_script.specs.Passes.{parts_of, turn_at}
use Rattle.pg_script.proofs.draft.turns_of.Given as goal

abbrev pub invariant-words : goal.invariant-words
invariant-words l = AllZip (IsTurn (parts_of l.bytes l.before)) (map (turn_at l.bytes) (take l.word-index l.words)) l.out
