use Rattle.std.proofs.Common.{[], drop, get_or, ◌∙◌, ◌≡◌, sym, subst}
use Rattle.std.specs.Option.{option_copied, unwrap_or}
use Rattle.pg_snap.specs.Scans.{writes_of}
use Rattle.pg_snap.proofs.StepLaws.{scan_row, scan_given, scan_gone}
use Rattle.pg_snap.proofs.scan.next_held.Goals as goal

pub returns-then-is_before : goal.returns-then-is_before
returns-then-is_before c =
    let rows = unwrap_or (option_copied c.args.rows) [] in
    let cs = c.args.changes.now in
    let n = c.walk.next in
    let own = subst (λ y. y ≡ get_or cs n y) c.index-changes-next.is c.index-changes-next.is in
    scan_row (drop c.args.at.now rows) (drop c.walk.at rows) (drop c.next_row.new.at rows) (drop c.args.next.now (writes_of cs)) cs n (get_or cs n c.index-changes-next.result) c.next_row.result
    c.walk-test.true own c.walk.invariant (sym c.if-is_before.true ∙ c.is_before.ensures) c.next_row.ensures

pub returns-in-Some : goal.returns-in-Some
returns-in-Some c =
    let rows = unwrap_or (option_copied c.args.rows) [] in
    let cs = c.args.changes.now in
    let n = c.walk.next in
    let own = subst (λ y. y ≡ get_or cs n y) c.index-changes-next.is c.index-changes-next.is in
    scan_given (drop c.args.at.now rows) (drop c.walk.at rows) (drop c.past.result rows) (drop c.args.next.now (writes_of cs)) cs n (get_or cs n c.index-changes-next.result) c.in-Some.row
    c.walk-test.true own c.walk.invariant (sym c.if-is_before.false ∙ c.is_before.ensures) c.past.ensures c.in-Some.is

pub walk-preserved : goal.walk-preserved
walk-preserved c =
    let rows = unwrap_or (option_copied c.args.rows) [] in
    let cs = c.args.changes.now in
    let n = c.walk.next in
    let own = subst (λ y. y ≡ get_or cs n y) c.index-changes-next.is c.index-changes-next.is in
    scan_gone (drop c.args.at.now rows) (drop c.walk.at rows) (drop c.past.result rows) (drop c.args.next.now (writes_of cs)) cs n (get_or cs n c.index-changes-next.result)
    c.walk-test.true own c.walk.invariant (sym c.if-is_before.false ∙ c.is_before.ensures) c.past.ensures c.in-None.is
