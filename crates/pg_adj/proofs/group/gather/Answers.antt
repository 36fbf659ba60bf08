use Rattle.std.proofs.Common.{◌+◌, ◌-◌, length, get_or, refl, ap, arith}
use Rattle.pg_adj.proofs.Gathering.{stepped}
use Rattle.pg_adj.proofs.group.gather.Goals as goal

pub groups-smaller : goal.groups-smaller
groups-smaller c =
    let s = stepped c.args.seen.now c.groups.start c.run_length-count.result (length c.args.seen.now - c.groups.start) (c.groups.start + c.run_length-count.result - c.groups.start)
    (get_or c.args.seen.now c.groups.start c.index-seen-start.result) c.groups.groups.items c.push_run.new.groups.items c.groups-test.true (ap (get_or c.args.seen.now c.groups.start) c.index-seen-start.is)
    refl (omega arith) c.run_length-count.ensures c.groups.invariant.1 c.in-Ok.ensures in
    let a = s.some in
    let b = s.within in
    omega arith

pub groups-preserved : goal.groups-preserved
groups-preserved c =
    let s = stepped c.args.seen.now c.groups.start c.run_length-count.result (length c.args.seen.now - c.groups.start) (c.groups.start + c.run_length-count.result - c.groups.start)
    (get_or c.args.seen.now c.groups.start c.index-seen-start.result) c.groups.groups.items c.push_run.new.groups.items c.groups-test.true (ap (get_or c.args.seen.now c.groups.start) c.index-seen-start.is)
    refl (omega arith) c.run_length-count.ensures c.groups.invariant.1 c.in-Ok.ensures in
    (s.within, s.gathers)
