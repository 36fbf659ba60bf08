use Rattle.std.proofs.Common.{sym, subst}
use Rattle.std.specs.Prelude.{IfOk}
use Rattle.pg_core.specs.declared.event.Event.{Event}
use Rattle.pg_core.specs.State.{Takes}
use Rattle.pg_core.proofs.events.Replayed.step.Goals as goal

pub returns-in-Pin : goal.returns-in-Pin
returns-in-Pin g c = subst (λ (e : Event). IfOk c.pin.result (λ reply. Takes c.args.self.now e reply c.pin.new.self)) (sym c.in-Pin.is) c.pin.ensures

pub returns-in-Release : goal.returns-in-Release
returns-in-Release g c = subst (λ (e : Event). Takes c.args.self.now e c.release.result c.release.new.self) (sym c.in-Release.is) c.release.ensures

pub returns-in-Commit : goal.returns-in-Commit
returns-in-Commit g c = subst (λ (e : Event). IfOk c.commit.result (λ reply. Takes c.args.self.now e reply c.commit.new.self)) (sym c.in-Commit.is) c.commit.ensures

pub returns-in-BeginFold : goal.returns-in-BeginFold
returns-in-BeginFold g c = subst (λ (e : Event). IfOk c.begin_fold.result (λ reply. Takes c.args.self.now e reply c.begin_fold.new.self)) (sym c.in-BeginFold.is) c.begin_fold.ensures

pub returns-in-Install : goal.returns-in-Install
returns-in-Install g c = subst (λ (e : Event). Takes c.args.self.now e c.install.result c.install.new.self) (sym c.in-Install.is) c.install.ensures

pub returns-in-Abandon : goal.returns-in-Abandon
returns-in-Abandon g c = subst (λ (e : Event). Takes c.args.self.now e c.abandon.result c.abandon.new.self) (sym c.in-Abandon.is) c.abandon.ensures

pub returns-in-Mark : goal.returns-in-Mark
returns-in-Mark g c = subst (λ (e : Event). Takes c.args.self.now e c.mark.result c.mark.new.self) (sym c.in-Mark.is) c.mark.ensures

pub returns-in-EndSession : goal.returns-in-EndSession
returns-in-EndSession g c = subst (λ (e : Event). Takes c.args.self.now e c.end_session.result c.end_session.new.self) (sym c.in-EndSession.is) c.end_session.ensures
