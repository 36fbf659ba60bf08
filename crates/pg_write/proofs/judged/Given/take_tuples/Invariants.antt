use Rattle.std.proofs.Common.{◌≡◌, drop}
use Rattle.pg_rules.specs.Changes.ChangeEffect.{context}
use Rattle.pg_write.specs.JudgedRows.{judged, so_far, writes_of, AreCounted}
use Rattle.pg_write.proofs.judged.Given.take_tuples.Given as goal

-- what is left, behind the rows so far, gives what all gives
abbrev pub invariant-loop-tuple : goal.invariant-loop-tuple
invariant-loop-tuple g l = record {
  counted : AreCounted l.self.limit l.self.writes.now.list l.so_far;
  rest : judged (context l.self.limit l.self.shape.now (g.T.TableRows.tables l.self.tables.now) l.self.writes.now.list) l.self.insert (so_far l.so_far) (writes_of l.self.table l.self.shape.now l.columns (drop l.tuple-index l.tuples))
      ≡ judged (context l.self.limit l.self.shape.now (g.T.TableRows.tables l.self.tables.now) l.self.writes.now.list) l.self.insert (so_far l.fn.so_far) (writes_of l.self.table l.self.shape.now l.columns l.tuples);
}
