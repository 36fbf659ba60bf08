use Rattle.std.proofs.Common.{ap, sym, ◌∙◌}
use Rattle.pg_snap.specs.Snapshots.{SnapOf}
use Rattle.pg_snap.proofs.RowLaws.{own_snapshot}
use Rattle.pg_snap.proofs.snapshot.Snapshot.put_own.Goals as goal

pub invariant_of-self : goal.invariant_of-self
invariant_of-self c =
    own_snapshot (record { base = c.self.inside.base; runs = c.self.inside.buf; own = c.self.inside.own; at = c.self.inside.at }) c.args.own c.self.invariant (c.requires ∙ sym (ap (λ (s : SnapOf). s.base.shapes) c.self.view_is)) c.well_made.ensures.in_order c.well_made.ensures.fit
