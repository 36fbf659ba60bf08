use Rattle.pg_script.proofs.Passes.After.{spells}
use Rattle.pg_script.proofs.after.spells_after.Goals as goal

pub returns : goal.returns
returns c = spells c.args.word.now c.eq_ignore_ascii_case.result c.eq_ignore_ascii_case.ensures.test
