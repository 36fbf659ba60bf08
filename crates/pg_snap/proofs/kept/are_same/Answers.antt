use Rattle.std.proofs.Common.{sym, ◌∙◌}
use Rattle.std.proofs.lemmas.Bool.{eqb-true}
use Rattle.pg_snap.proofs.KeptLaws.{same_shapes}
use Rattle.pg_snap.proofs.kept.are_same.Goals as goal

pub returns-then-len : goal.returns-then-len
returns-then-len c e = same_shapes c.args.old.now c.args.new.now c.requires
    (sym c.len.ensures ∙ (c.if-len.true ∙ c.len-2.ensures))
    (sym c.len-then-len.ensures ∙ (eqb-true _ _ e ∙ c.len-then-len-2.ensures))
