use Rattle.std.proofs.Common.{◌≡◌, ap, sym, ◌∙◌, subst, Some, Option, IfErr}
use Rattle.std.specs.Option.{unwrap_or}
use Rattle.pg_rules.specs.Changes.{Change, OfInsert, OfUpdate, OfDelete, change_of, change_fault}
use Rattle.pg_write.specs.ChangePasses.{IsFault}
use Rattle.pg_write.proofs.change.resolve.resolve_change.Goals as goal

one : (c d : Change) → Some c ≡ Some d → c ≡ d
one c d e = ap (λ (o : Option Change). unwrap_or o c) e

pub returns-in-Insert-clause-fault : goal.returns-in-Insert-clause-fault
returns-in-Insert-clause-fault c d e =
    subst (λ (x : Change). IfErr c.resolve_values.result (IsFault (change_fault c.args.catalog.now.0 x)))
    (one (OfInsert c.in-Insert.insert) d (sym (ap change_of c.in-Insert.is) ∙ e)) c.resolve_values.ensures.fault

pub returns-in-Update-clause-fault : goal.returns-in-Update-clause-fault
returns-in-Update-clause-fault c d e =
    subst (λ (x : Change). IfErr c.resolve_update.result (IsFault (change_fault c.args.catalog.now.0 x)))
    (one (OfUpdate c.in-Update.update) d (sym (ap change_of c.in-Update.is) ∙ e)) c.resolve_update.ensures.fault

pub returns-in-Delete-clause-fault : goal.returns-in-Delete-clause-fault
returns-in-Delete-clause-fault c d e =
    subst (λ (x : Change). IfErr c.resolve_delete.result (IsFault (change_fault c.args.catalog.now.0 x)))
    (one (OfDelete c.in-Delete.delete) d (sym (ap change_of c.in-Delete.is) ∙ e)) c.resolve_delete.ensures.fault
