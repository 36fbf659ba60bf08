use Rattle.std.proofs.Common.{◌≡◌, subst, IfOk, IfErr}
use Rattle.std.specs.Prelude.{None}
use Rattle.pg_rules.specs.Changes.{change_fault, resolved_change}
use Rattle.pg_write.specs.ChangePasses.{IsFault}
use Rattle.pgq.proofs.Statements.Changes.{some_change, sound_here, faulty_ok}
use Rattle.pgq.proofs.change.change.Goals as goal

pub make-requires-clause-sound : goal.make-requires-clause-sound
make-requires-clause-sound c =
    let k = some_change c.args.statement.now c.requires.change in
    sound_here c.accepted_changes_are_sound.ensures c.args.engine.now c.args.statement.now k.0 c.in-Ok.checked c.requires.ready k.1 c.requires.written
    (subst (λ r. IfOk r (λ _. change_fault c.args.engine.now.catalog.0 k.0 ≡ None)) c.in-Ok.is (c.resolve_change.ensures.right k.0 k.1))
    (subst (λ r. IfOk r (λ x. x ≡ resolved_change c.args.engine.now.catalog.0 k.0)) c.in-Ok.is (c.resolve_change.ensures.checked k.0 k.1))

pub returns-in-Ok-clause-answers : goal.returns-in-Ok-clause-answers
returns-in-Ok-clause-answers c k e = c.make.ensures.answers k (record {
  right = subst (λ r. IfOk r (λ _. change_fault c.args.engine.now.catalog.0 k ≡ None)) c.in-Ok.is (c.resolve_change.ensures.right k e);
  is = subst (λ r. IfOk r (λ x. x ≡ resolved_change c.args.engine.now.catalog.0 k)) c.in-Ok.is (c.resolve_change.ensures.checked k e);
})

pub returns-in-Err-clause-answers : goal.returns-in-Err-clause-answers
returns-in-Err-clause-answers c k e = faulty_ok c.args.engine.now k c.args.section c.in-Err.fault c.resolve_refusal.result c.told.result
    (subst (λ r. IfErr r (IsFault (change_fault c.args.engine.now.catalog.0 k))) c.in-Err.is (c.resolve_change.ensures.fault k e)) c.resolve_refusal.ensures c.told.ensures.told
