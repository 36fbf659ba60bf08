use Rattle.std.specs.Prelude.{IfOk}
use Rattle.pg_short.proofs.FoundRounds.{if_ok}
use Rattle.pg_search.specs.Steps.{IsNumbered}
use Rattle.std.proofs.Common.{subst}
use Rattle.pg_short.proofs.NumberedRests.{named_one}
use Rattle.pg_short.proofs.rests.name_one.Goals as goal

pub returns : goal.returns
returns c = if_ok c.name.result _ _ (λ k s. named_one c.args.numbers.now c.add.new.self c.name.new.self c.args.names c.in_ok-elem.elem k c.args.mention.now.var c.args.mention.now.elem.now c.requires
    (subst (λ e. IsNumbered c.args.numbers.now e c.in_ok-elem.elem c.add.new.self) c.in_ok-copy_elem.ensures c.in_ok-elem.ensures.added) s) c.name.ensures
