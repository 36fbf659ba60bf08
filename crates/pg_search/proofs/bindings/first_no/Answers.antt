use Rattle.std.proofs.Common.{sym, eq-eqb}
use Rattle.std.proofs.lemmas.Bool.{ne_eqb}
use Rattle.pg_search.proofs.Finding.{first_some, first_none}
use Rattle.pg_search.proofs.bindings.first_no.Goals as goal

pub returns-then-name-var : goal.returns-then-name-var
returns-then-name-var c = sym (first_some c.args.names.now c.loop-name.name-index c.args.var (0, 0) c.loop-name-test.true c.loop-name.invariant (eq-eqb _ c.args.var c.if-name-var.true))

pub loop-name-preserved : goal.loop-name-preserved
loop-name-preserved c = first_none c.args.names.now c.loop-name.name-index c.args.var (0, 0) c.loop-name-test.true c.loop-name.invariant (ne_eqb _ c.args.var c.if-name-var.false)
