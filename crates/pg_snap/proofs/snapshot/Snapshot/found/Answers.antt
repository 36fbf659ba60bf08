use Rattle.std.proofs.Common.{ap, sym, subst, ◌∙◌}
use Rattle.std.specs.Option.{option_map}
use Rattle.pg_meaning.specs.Reads.{row_at}
use Rattle.pg_value.specs.Tables.{stored_at}
use Rattle.pg_snap.specs.Bases.{BaseOf}
use Rattle.pg_snap.specs.Snapshots.{SnapOf, IsSnapshot, or_stood}
use Rattle.pg_snap.proofs.RowLaws.{snapshot_row}
use Rattle.pg_snap.proofs.snapshot.Snapshot.found.Goals as goal

pub returns-in-Row-clause-value : goal.returns-in-Row-clause-value
returns-in-Row-clause-value g c =
    sym (snapshot_row c.args.self.now c.args.table c.args.key.now (subst IsSnapshot c.self.view_is c.self.invariant) ∙ ap (λ m. or_stood m (row_at c.args.self.now.base.tables c.args.table c.args.key.now)) (sym c.in-Row.ensures.value))

pub returns-in-Gone-clause-value : goal.returns-in-Gone-clause-value
returns-in-Gone-clause-value g c =
    sym (snapshot_row c.args.self.now c.args.table c.args.key.now (subst IsSnapshot c.self.view_is c.self.invariant) ∙ ap (λ m. or_stood m (row_at c.args.self.now.base.tables c.args.table c.args.key.now)) (sym c.in-Gone.ensures.value))

pub returns-in-Some-clause-value : goal.returns-in-Some-clause-value
returns-in-Some-clause-value g c =
    ap (option_map (λ s. s.row)) (c.in-Some.ensures.value ∙ ap (λ (b : BaseOf). stored_at (c.args.table.0, c.args.key.now.values) b.tables) (c.get.ensures ∙ ap (λ (s : SnapOf). s.base) c.self.view_is))
    ∙ sym (snapshot_row c.args.self.now c.args.table c.args.key.now (subst IsSnapshot c.self.view_is c.self.invariant) ∙ ap (λ m. or_stood m (row_at c.args.self.now.base.tables c.args.table c.args.key.now)) (sym c.in-Absent.ensures.value))

pub returns-in-None-clause-value : goal.returns-in-None-clause-value
returns-in-None-clause-value g c =
    ap (option_map (λ s. s.row)) (c.in-None.ensures.value ∙ ap (λ (b : BaseOf). stored_at (c.args.table.0, c.args.key.now.values) b.tables) (c.get.ensures ∙ ap (λ (s : SnapOf). s.base) c.self.view_is))
    ∙ sym (snapshot_row c.args.self.now c.args.table c.args.key.now (subst IsSnapshot c.self.view_is c.self.invariant) ∙ ap (λ m. or_stood m (row_at c.args.self.now.base.tables c.args.table c.args.key.now)) (sym c.in-Absent.ensures.value))
