use Rattle.pg_script.specs.Passes.{parts_of}
use Rattle.pg_script.proofs.Passes.Drafts.{found_old, found_new}
use Rattle.pg_script.proofs.draft.is_new.Goals as goal

pub returns-in-Some : goal.returns-in-Some
returns-in-Some c = found_old c.args.name.now (parts_of c.args.bytes.now c.args.before.now) c.in-Some.field-0 c.args.has_order c.in-Some.ensures

pub returns-in-None : goal.returns-in-None
returns-in-None c = found_new c.args.name.now (parts_of c.args.bytes.now c.args.before.now) c.args.has_order c.in-None.ensures
