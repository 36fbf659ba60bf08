use Rattle.std.proofs.Common.{◌≡◌, drop}
use Rattle.pg_rules.specs.Changes.ChangeEffect.{context}
use Rattle.pg_write.specs.HeldRows.{all_stored}
use Rattle.pg_write.specs.JudgedRows.{rows_taken, so_far, AreCounted}
use Rattle.pg_write.proofs.judged.Given.take_rows.Given as goal

-- what is left, behind the rows so far, gives what all gives
abbrev pub invariant-loop-held : goal.invariant-loop-held
invariant-loop-held g l = record {
  counted : AreCounted l.self.limit l.self.writes.now.list l.so_far;
  rest : rows_taken (context l.self.limit l.self.shape.now (g.T.TableRows.tables l.self.tables.now) l.self.writes.now.list) l.self.insert l.change (so_far l.so_far) (all_stored (drop l.held-index l.rows))
      ≡ rows_taken (context l.self.limit l.self.shape.now (g.T.TableRows.tables l.self.tables.now) l.self.writes.now.list) l.self.insert l.change (so_far l.fn.so_far) (all_stored l.rows);
}
