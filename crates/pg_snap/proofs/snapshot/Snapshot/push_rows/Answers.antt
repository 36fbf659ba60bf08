use Rattle.std.proofs.Common.{◌++◌, map, ap, sym, ◌∙◌}
use Rattle.pg_snap.specs.Snapshots.{tables_of}
use Rattle.pg_snap.proofs.ElementLaws.{elem_in, all_of_table}
use Rattle.pg_snap.proofs.StepLaws.{nothing_behind}
use Rattle.pg_snap.proofs.snapshot.Snapshot.push_rows.Goals as goal

pub returns : goal.returns
returns c =
    sym (nothing_behind c.loop-held.out) ∙ ap (λ xs. c.loop-held.out ++ map (elem_in c.args.table) xs) (sym c.in_default.ensures.0) ∙ c.loop-held.invariant
    ∙ ap (λ xs. c.args.out.now ++ xs) (all_of_table c.args.table (tables_of c.args.self.now))
