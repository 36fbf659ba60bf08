use Rattle.std.proofs.Common.{◌≤◌, arith, sym, subst}
use Rattle.pg_script.specs.Passes.{parts_of}
use Rattle.pg_script.specs.Passes.Drafts.{IsWaitItem}
use Rattle.pg_script.proofs.Passes.Items.{found_small, waits, no_wait}
use Rattle.pg_script.proofs.items.wait_item.Goals as goal

pub returns : goal.returns
returns c = waits (parts_of c.args.bytes.now c.args.before.now) c.args.wait.name.now c.args.wait.number c.in_ok-section.section c.requires c.if-wait-eq0.false c.in_ok-section.ensures

pub returns-in_err-section : goal.returns-in_err-section
returns-in_err-section c =
    subst (IsWaitItem (parts_of c.args.bytes.now c.args.before.now) c.args.wait.name.now c.args.wait.number) (sym c.from_residual.ensures)
    (no_wait (parts_of c.args.bytes.now c.args.before.now) c.args.wait.name.now c.args.wait.number c.in_err-section.ensures)

pub overflow_cast-result : goal.overflow_cast-result
overflow_cast-result c =
    let small : c.in_ok-section.section ≤ 64 = found_small c.args.wait.name.now c.args.wait.number (parts_of c.args.bytes.now c.args.before.now) c.in_ok-section.section c.requires c.in_ok-section.ensures in
    omega arith
