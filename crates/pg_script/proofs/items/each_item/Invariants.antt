use Rattle.std.proofs.Common.{map, take}
use Rattle.std.specs.List.{AllZip}
use Rattle.pg_script.specs.Passes.{parts_of, statement_at}
use Rattle.pg_script.specs.Passes.Drafts.{IsGoodItem}
use Rattle.pg_script.proofs.items.each_item.Given as goal

abbrev pub invariant-statements : goal.invariant-statements
invariant-statements l = AllZip (IsGoodItem (parts_of l.bytes l.before) l.in_session) (map (statement_at l.bytes) (take l.span-index l.spans)) l.out
