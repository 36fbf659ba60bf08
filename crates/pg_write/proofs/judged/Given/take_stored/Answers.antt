use Rattle.std.proofs.Common.{◌≡◌, IfOk, ap, sym, subst, ◌∙◌, map}
use Rattle.std.specs.Option.{option_map}
use Rattle.pg_value.specs.declared.row.Key.{Key}
use Rattle.pg_rules.specs.Changes.ChangeEffect.{context}
use Rattle.pg_write.specs.JudgedRows.{judged, so_far, told, condition_of, write_for, IsCheckedFor}
use Rattle.pg_write.specs.KeyOfCondition.{key_in}
use Rattle.pg_write.proofs.KeyLaws.{one_taken}
use Rattle.pg_write.proofs.TakenLaws.{each_at}
use Rattle.pg_write.proofs.judged.Given.take_stored.Goals as goal

pub take_one-requires-clause-checked : goal.take_one-requires-clause-checked
take_one-requires-clause-checked g c = each_at (λ s. IsCheckedFor c.args.change.now s.row) c.args.self.now.table (g.T.TableRows.tables c.args.self.now.tables.now) c.in-Some.key.values c.requires.checked

pub returns-in-Some-clause-judged : goal.returns-in-Some-clause-judged
returns-in-Some-clause-judged g c = subst (λ x. IfOk c.take_one.result (λ f. x ≡ told f (so_far c.take_one.new.so_far)))
    (sym (ap (λ rows. judged (context c.args.self.now.limit c.args.self.now.shape.now (g.T.TableRows.tables c.args.self.now.tables.now) c.args.self.now.writes.now.list) c.args.self.now.insert (so_far c.args.so_far.now) (map (write_for c.args.change.now) rows))
    (one_taken c.args.self.now.table c.args.self.now.shape.now (g.T.TableRows.tables c.args.self.now.tables.now) (condition_of c.args.change.now) c.in-Some.key.values
    (ap (λ q. key_in q c.args.self.now.shape.now.key) (sym c.requires.cond) ∙ ap (key_in c.args.cond.now) (sym c.as_slice.ensures) ∙ sym c.in_ok-key.ensures ∙ ap (option_map (λ (k : Key). k.values)) c.in-Some.is)
    c.requires.stored)))
    c.take_one.ensures.judged
