use Rattle.std.proofs.Common.{◌≡◌, ◌∙◌, ap, sym, []}
use Rattle.std.specs.List.{cons_option}
use Rattle.pg_value.specs.Tables.{held_in}
use Rattle.pg_snap.specs.Bases.{BaseOf}
use Rattle.pg_snap.specs.Snapshots.{parts}
use Rattle.pg_snap.specs.Scans.{under, changes_on, writes_of}
use Rattle.pg_snap.proofs.RowLaws.{in_order_of}
use Rattle.pg_snap.proofs.ScanLaws.{scanned, changes_append}
use Rattle.pg_snap.proofs.snapshot.Snapshot.scan.Goals as goal

pub returns : goal.returns
returns c =
    let s = c.args.self.now in
    let t = c.args.table in
    let older : writes_of c.in_ok-older.older.items ≡ changes_on t [] s.runs = c.in_ok-older.ensures ∙ (λ i. changes_on t (writes_of (c.new.ensures.items i)) (c.runs.ensures i)) in
    let changes : writes_of c.in_ok-changes.changes.items ≡ changes_on t [] (parts s) =
    c.in_ok-changes.ensures ∙ (λ i. changes_on t (older i) (cons_option (c.own.ensures i) [])) ∙ sym (changes_append t [] s.runs (cons_option s.own [])) in
    let rows = c.rows.ensures ∙ ap (λ (b : BaseOf). held_in t b.tables) c.base.ensures in
    c.new-2.ensures ∙ (λ i. under (rows i) (changes i)) ∙ scanned t s.base.tables (parts s) c.fits.ensures.made.fit.in_order (in_order_of s.base.shapes (parts s) c.fits.ensures.made.parts)
