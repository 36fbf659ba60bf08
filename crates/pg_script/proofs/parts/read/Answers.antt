use Rattle.pg_script.proofs.Passes.Parts.{begins_here, gathers_more, reading_is}
use Rattle.pg_script.proofs.parts.read.Goals as goal

pub read_part-requires-clause-begins : goal.read_part-requires-clause-begins
read_part-requires-clause-begins c = begins_here c.args.bytes.now c.parts.at c.parts-test.true c.parts.invariant.begins

pub parts-preserved : goal.parts-preserved
parts-preserved c = gathers_more c.args.bytes.now c.args.head c.parts.at c.parts.out c.push.new.self c.in_ok-part.part c.parts.invariant c.in_ok-part.ensures c.in_ok-push.ensures.ok

pub returns : goal.returns
returns c = reading_is c.args.bytes.now c.args.head c.parts.at c.parts.out c.requires.within c.requires.free c.parts.invariant c.parts-test.false
