use Rattle.pg_script.proofs.Passes.Atoms.{unclosed_begins, quoted_begins}
use Rattle.pg_script.proofs.statements.quoted_len.Goals as goal

pub returns-then-inner-rest-clause-begins : goal.returns-then-inner-rest-clause-begins
returns-then-inner-rest-clause-begins c = unclosed_begins c.args.quote c.len_before-inner.result c.args.rest.now c.requires c.len_before-inner.ensures.value c.if-inner-rest.true

pub returns-else-inner-rest-clause-begins : goal.returns-else-inner-rest-clause-begins
returns-else-inner-rest-clause-begins c = quoted_begins c.args.quote c.len_before-inner.result c.args.rest.now c.requires c.len_before-inner.ensures.value c.len_before-inner.ensures.within c.if-inner-rest.false
