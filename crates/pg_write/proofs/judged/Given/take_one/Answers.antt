use Rattle.std.proofs.Common.{◌≡◌, IfOk, ap, sym, subst, ◌∙◌}
use Rattle.std.specs.Option.{option_copied}
use Rattle.pg_rules.specs.Changes.ChangeEffect.{context}
use Rattle.pg_write.specs.HeldRows.{all_stored}
use Rattle.pg_write.specs.JudgedRows.{rows_taken, so_far, told}
use Rattle.pg_write.proofs.TakenLaws.{found_is}
use Rattle.pg_write.proofs.judged.Given.take_one.Goals as goal

pub returns-in-Some-clause-judged : goal.returns-in-Some-clause-judged
returns-in-Some-clause-judged g c = subst (λ rows. IfOk c.take_rows.result (λ f. rows_taken (context c.args.self.now.limit c.args.self.now.shape.now (g.T.TableRows.tables c.args.self.now.tables.now) c.args.self.now.writes.now.list) c.args.self.now.insert c.args.change.now (so_far c.args.so_far.now) rows ≡ told f (so_far c.take_rows.new.so_far)))
    (ap all_stored c.from_ref.ensures.value ∙ sym (found_is (g.T.TableRows.tables c.args.self.now.tables.now) (record { table = c.args.self.now.table; key = c.args.key; row = c.in-Some.row }) (sym c.row.ensures ∙ ap option_copied c.in-Some.is)))
    c.take_rows.ensures.judged
