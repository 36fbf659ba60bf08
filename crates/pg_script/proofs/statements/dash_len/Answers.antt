use Rattle.std.proofs.Common.{rules}
use Rattle.pg_script.proofs.Passes.Atoms.{comment_at, dash_begins, no_dash, none_dash}
use Rattle.pg_script.proofs.statements.dash_len.Goals as goal

pub returns-in-45-clause-begins : goal.returns-in-45-clause-begins
returns-in-45-clause-begins c = comment_at c.args.rest.now c.len_before.result c.len_before.ensures.value c.in-45.len_at_least (search rules)

pub returns-in_default-clause-begins : goal.returns-in_default-clause-begins
returns-in_default-clause-begins c = dash_begins c.args.rest.now (none_dash c.args.rest.now c.in_default.len_below)

pub returns-in_default-2-clause-begins : goal.returns-in_default-2-clause-begins
returns-in_default-2-clause-begins c = dash_begins c.args.rest.now (no_dash c.args.rest.now (search rules))
