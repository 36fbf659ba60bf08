use Rattle.pg_script.proofs.Passes.Sections.{free_is}
use Rattle.pg_script.proofs.layout.next_section.Goals as goal

pub returns-clause-free : goal.returns-clause-free
returns-clause-free c = free_is c.args.bytes.now c.free_len.result c.free_len.ensures.value
