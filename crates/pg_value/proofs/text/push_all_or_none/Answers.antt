use Rattle.std.proofs.Common.{subst, sym, ◌∙◌}
use Rattle.std.specs.String.{string_bytes}
use Rattle.std.specs.String.Boundary.{IsSplitPoint}
use Rattle.pg_value.proofs.Texts.{may_cut}
use Rattle.pg_value.proofs.text.push_all_or_none.Goals as goal

pub truncate-requires : goal.truncate-requires
truncate-requires c l = subst (IsSplitPoint (string_bytes c.push_between-pushed.new.out)) (sym (c.len-before.ensures ∙ c.args.out.now.bytes.ok.0)) (may_cut _ _ c.push_between-pushed.ensures.more)
