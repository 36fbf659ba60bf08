-- Events one after another, and what stays of an open build.
use Rattle.std.proofs.Common.{ℕ, ◌≡◌, List, [], ◌∷◌, ◌++◌, Bool, true, false, refl, ap, sym, ◌∙◌, subst}
use Rattle.std.proofs.lemmas.Option.{same_Some, none-some}
use Rattle.std.specs.Prelude.{is_some}
use Rattle.std.specs.declared.option.Option.{Option}
use Rattle.std.specs.declared.option.Option.TheVariants.{Some, None}
use Rattle.pg_value.specs.declared.shape.Shapes.{Shapes}
use Rattle.pg_value.specs.declared.write.Commit.{Commit}
use Rattle.pg_core.specs.declared.event.Event.{Event}
use Rattle.pg_core.specs.declared.event.Event.TheVariants as events
use Rattle.pg_core.specs.declared.event.Reply.{Reply}
use Rattle.pg_core.specs.declared.event.Reply.TheVariants as replies
use Rattle.pg_core.specs.declared.events.Opened.{Opened}
use Rattle.std.specs.Prelude.{slice_set, length, Result, Ok, Err}
use Rattle.pg_value.specs.Writes.{Limited}
use Rattle.pg_core.specs.declared.fault.CommitFault.{CommitFault}
use Rattle.pg_core.specs.declared.fault.CommitFault.TheVariants as faults
use Rattle.pg_core.specs.declared.parts.Begin.{Begin}
use Rattle.pg_core.specs.declared.parts.Begin.TheVariants as begins
use Rattle.pg_core.specs.declared.parts.Stale.{Stale}
use Rattle.pg_core.specs.Core.{Core, Build, CanCome, CommitAnswers, conflicts, fills, takes, Step, Replays, pins, releases, commits, fold_stopped, fold_not_yet, fold_begins, install_stale, installs, abandons, marks, ends, pin_of, after_pin, after_release, after_mark, after_fold, after_install, after_abandon}
use Rattle.pg_core.specs.Versions.{BaseOf, RunOf, IsBaseOf}
use Rattle.pg_core.specs.State.{Standing, becomes, HasOpen, Takes, Begins, Commits, Installs, committed, installed}
use Rattle.pg_core.proofs.Runs.{base_stays}

-- one event more
pub replays_more : (shapes : Shapes) (limit : ℕ) (old m new : Core) (es : List Event) (rs : List Reply) (e : Event) (r : Reply) → Replays shapes limit old es rs m → Step shapes limit m e r new → Replays shapes limit old (es ++ e ∷ []) (rs ++ r ∷ []) new
replays_more shapes limit old m new [] [] e r h s = (new, subst (λ c. Step shapes limit c e r new) h s, refl)
replays_more shapes limit old m new [] (x ∷ rs) e r h s = absurd h
replays_more shapes limit old m new (x ∷ es) [] e r h s = absurd h
replays_more shapes limit old m new (x ∷ es) (y ∷ rs) e r h s = (h.0, h.1, replays_more shapes limit h.0 m new es rs e r h.2 s)

some_none : {X : Type 0} → (o : Option X) → o ≡ None → is_some o ≡ true → ⊥
some_none o e h = absurd (false_true (ap is_some (sym e) ∙ h))
  where
    false_true : false ≡ true → ⊥
    false_true k = cc

module _ {B R : Type 0} (base : B → BaseOf) where
  -- neither the log nor the build changes
  pub open_stays : (old new : Standing) (core : Core) (o : Option (Opened B R)) → new ≡ becomes old core → core.build ≡ old.core.build → core.log ≡ old.core.log → HasOpen base old o → HasOpen base new o
  open_stays old new core None e b l h = ap (λ (s : Standing). s.core.build) e ∙ (b ∙ h)
  open_stays old new core (Some o) e b l h = (
    ap (λ (s : Standing). s.core.build) e ∙ (b ∙ h.0),
    subst (λ (s : Standing). IsBaseOf s.shapes s.core.log o.job.build.at (base o.base)) (sym e) (subst (λ (cs : List Commit). IsBaseOf old.shapes cs o.job.build.at (base o.base)) (sym l) h.1),
  )

  open_grows : (old new : Standing) (core : Core) (c : Commit) (o : Option (Opened B R)) → new ≡ becomes old core → core.build ≡ old.core.build → core.log ≡ old.core.log ++ c ∷ [] → HasOpen base old o → HasOpen base new o
  open_grows old new core c None e b l h = ap (λ (s : Standing). s.core.build) e ∙ (b ∙ h)
  open_grows old new core c (Some o) e b l h = (
    ap (λ (s : Standing). s.core.build) e ∙ (b ∙ h.0),
    subst (λ (s : Standing). IsBaseOf s.shapes s.core.log o.job.build.at (base o.base)) (sym e) (subst (λ (cs : List Commit). IsBaseOf old.shapes cs o.job.build.at (base o.base)) (sym l) (base_stays old.shapes old.core.log c o.job.build.at (base o.base) h.1)),
  )

  -- a commit is answered
  pub open_commits : (old new : Standing) (c : Commit) (reply : Reply) (o : Option (Opened B R)) → new ≡ becomes old new.core → CommitAnswers old.limit old.core c reply new.core → HasOpen base old o → HasOpen base new o
  open_commits old new c reply o e (conflicts w at f r n) h = open_stays old new new.core o e (ap (λ (k : Core). k.build) n) (ap (λ (k : Core). k.log) n) h
  open_commits old new c reply o e (fills f u r n) h = open_stays old new new.core o e (ap (λ (k : Core). k.build) n) (ap (λ (k : Core). k.log) n) h
  open_commits old new c reply o e (takes t r n) h = open_grows old new new.core c o e (ap (λ (k : Core). k.build) n) (ap (λ (k : Core). k.log) n) h

-- EACH EVENT AS THE CALLS MAKE IT

takes_by : (old mid new : Standing) (f : Core → Core) (e : Event) (r : Reply) → mid ≡ old → new ≡ becomes mid (f mid.core) → Step old.shapes old.limit old.core e r (f old.core) → Takes old e r new
takes_by old mid new f e r is h s =
    let w : new ≡ becomes old (f old.core) = h ∙ ap (λ (x : Standing). becomes x (f x.core)) is in
    let k : new.core ≡ f old.core = ap (λ (x : Standing). x.core) w in
    (subst (λ c. Step old.shapes old.limit old.core e r c) (sym k) s, w ∙ sym (ap (λ (c : Core). becomes old c) k))

pub pin_takes : (old mid new : Standing) (seat at b : ℕ) → mid ≡ old → CanCome old.shapes old.core (events.Pin seat) → at ≡ length mid.core.log → b ≡ mid.core.base → new ≡ becomes mid (after_pin mid.core seat) → Takes old (events.Pin seat) (replies.Pinned at b) new
pin_takes old mid new seat at b is can ea eb h = takes_by old mid new (λ (c : Core). after_pin c seat) (events.Pin seat) (replies.Pinned at b) is h
    (pins seat refl can (ap (λ (n : ℕ). replies.Pinned n b) (ea ∙ ap (λ (x : Standing). length x.core.log) is) ∙ ap (λ (n : ℕ). replies.Pinned (length old.core.log) n) (eb ∙ ap (λ (x : Standing). x.core.base) is)) refl)

pub release_takes : (old mid new : Standing) (seat : ℕ) (had : Bool) → mid ≡ old → CanCome old.shapes old.core (events.Release seat) → had ≡ is_some (pin_of mid.core seat) → new ≡ becomes mid (after_release mid.core seat) → Takes old (events.Release seat) (replies.Released had) new
release_takes old mid new seat had is can eh h = takes_by old mid new (λ (c : Core). after_release c seat) (events.Release seat) (replies.Released had) is h
    (releases seat refl can (ap (λ (b : Bool). replies.Released b) (eh ∙ ap (λ (x : Standing). is_some (pin_of x.core seat)) is)) refl)

pub mark_takes : (old mid new : Standing) (session : ℕ) → mid ≡ old → CanCome old.shapes old.core (events.Mark session) → new ≡ becomes mid (after_mark mid.core session) → Takes old (events.Mark session) replies.Done new
mark_takes old mid new session is can h = takes_by old mid new (λ (c : Core). after_mark c session) (events.Mark session) replies.Done is h (marks session refl can refl refl)

pub end_takes : (old mid new : Standing) (session : ℕ) → mid ≡ old → CanCome old.shapes old.core (events.EndSession session) → new ≡ becomes mid (record mid.core { ended = slice_set mid.core.ended session true }) → Takes old (events.EndSession session) replies.Done new
end_takes old mid new session is can h = takes_by old mid new (λ (c : Core). record c { ended = slice_set c.ended session true }) (events.EndSession session) replies.Done is h (ends session refl can refl refl)

committed_takes : (old new : Standing) (seat from : ℕ) (writes : Limited) (r : Result ℕ CommitFault) (reply : Reply) → CanCome old.shapes old.core (events.Commit seat from writes) → Commits old new (record { session = seat; from = from; writes = writes }) r → committed r ≡ Some reply
    → CommitAnswers old.limit old.core (record { session = seat; from = from; writes = writes }) reply new.core × (new ≡ becomes old new.core)
committed_takes old new seat from writes (Ok at) reply can h e = (subst (λ (q : Reply). CommitAnswers old.limit old.core (record { session = seat; from = from; writes = writes }) q new.core) (same_Some (replies.Committed at) reply e) h.1, h.0)
committed_takes old new seat from writes (Err (faults.Conflict table key at)) reply can h e = (subst (λ (q : Reply). CommitAnswers old.limit old.core (record { session = seat; from = from; writes = writes }) q new.core) (same_Some (replies.Conflict table key at) reply e) h.1, h.0 ∙ sym (ap (λ (x : Standing). becomes old x.core) h.0))
committed_takes old new seat from writes (Err (faults.LogFull held)) reply can h e = (subst (λ (q : Reply). CommitAnswers old.limit old.core (record { session = seat; from = from; writes = writes }) q new.core) (same_Some (replies.LogFull held) reply e) h.1, h.0 ∙ sym (ap (λ (x : Standing). becomes old x.core) h.0))
committed_takes old new seat from writes (Err faults.Memory) reply can h e = absurd (none-some reply e)

pub commit_takes : (old mid new : Standing) (seat from : ℕ) (writes : Limited) (r : Result ℕ CommitFault) (reply : Reply) → mid ≡ old → CanCome old.shapes old.core (events.Commit seat from writes) → Commits mid new (record { session = seat; from = from; writes = writes }) r → committed r ≡ Some reply → Takes old (events.Commit seat from writes) reply new
commit_takes old mid new seat from writes r reply is can h e =
    let k = committed_takes old new seat from writes r reply can (subst (λ (x : Standing). Commits x new (record { session = seat; from = from; writes = writes }) r) is h) e in
    (commits seat from writes refl can k.0, k.1)

module _ {B R : Type 0} (base : B → BaseOf) (run : R → RunOf) where
  -- what the core replies where a build is to begin
  abbrev pub begun : Begin B R → Reply
  begun (begins.Job job) = replies.Job job.build.at
  begun begins.NotYet = replies.NotYet
  begun begins.Stopped = replies.Stopped

  begun_takes : (old new : Standing) (seat : ℕ) (b : Begin B R) → CanCome old.shapes old.core (events.BeginFold seat) → Begins base run old new seat b → Takes old (events.BeginFold seat) (begun b) new
  begun_takes old new seat (begins.Job job) can h = takes_by old old new (λ (c : Core). after_fold c seat) (events.BeginFold seat) (replies.Job job.build.at) refl h.5 (fold_begins seat refl can h.0 h.1 h.2 (ap (λ (x : Build). replies.Job x.at) h.3) refl)
  begun_takes old new seat begins.NotYet can h = takes_by old old new (λ (c : Core). c) (events.BeginFold seat) replies.NotYet refl h.2 (fold_not_yet seat refl can h.0 h.1 refl refl)
  begun_takes old new seat begins.Stopped can h = takes_by old old new (λ (c : Core). c) (events.BeginFold seat) replies.Stopped refl h.1 (fold_stopped seat refl can h.0 refl refl)

  pub begin_takes : (old mid new : Standing) (seat : ℕ) (b d : Begin B R) → mid ≡ old → CanCome old.shapes old.core (events.BeginFold seat) → Begins base run mid new seat b → b ≡ d → Takes old (events.BeginFold seat) (begun d) new
  begin_takes old mid new seat b d is can h e = subst (λ (x : Begin B R). Takes old (events.BeginFold seat) (begun x) new) e (begun_takes old new seat b can (subst (λ (x : Standing). Begins base run x new seat b) is h))

  -- what is held of the open build
  pub held_open : (s : Standing) (o : Option (Opened B R)) (x : Opened B R) → HasOpen base s o → o ≡ Some x → s.core.build ≡ Some x.job.build
  held_open s o x h e = (subst (λ (y : Option (Opened B R)). HasOpen base s y) e h).0

  pub abandon_takes : (old mid new : Standing) (o : Option (Opened B R)) (x : Opened B R) (b : Build) → mid ≡ old → HasOpen base mid o → o ≡ Some x → b ≡ x.job.build → new ≡ becomes mid (after_abandon mid.core b) → Takes old events.Abandon replies.Done new
  abandon_takes old mid new o x b is i e eb h = takes_by old mid new (λ (c : Core). after_abandon c b) events.Abandon replies.Done is h
      (abandons b refl (ap (λ (y : Standing). y.core.build) (sym is) ∙ (held_open mid o x i e ∙ ap (λ (y : Build). Some y) (sym eb))) refl refl)

  installed_takes : (old new : Standing) (b : Build) (r : Result Unit Stale) → old.core.build ≡ Some b → Installs old new b r → Takes old events.Install (installed r) new
  installed_takes old new b (Ok u) o h = takes_by old old new (λ (c : Core). after_install c b) events.Install replies.Installed refl h.1 (installs b refl o h.0 refl refl)
  installed_takes old new b (Err stale) o h = takes_by old old new (λ (c : Core). after_abandon c b) events.Install (replies.Stale stale.base) refl h.2 (install_stale b refl o h.0 (ap (λ (n : ℕ). replies.Stale n) h.1) refl)

  pub install_takes : (old mid new : Standing) (o : Option (Opened B R)) (x : Opened B R) (b : Build) (r : Result Unit Stale) (reply : Reply) → mid ≡ old → HasOpen base mid o → o ≡ Some x → b ≡ x.job.build → Installs mid new b r → reply ≡ installed r → Takes old events.Install reply new
  install_takes old mid new o x b r reply is i e eb h er = subst (λ (q : Reply). Takes old events.Install q new) (sym er)
      (installed_takes old new b r (ap (λ (y : Standing). y.core.build) (sym is) ∙ (held_open mid o x i e ∙ ap (λ (y : Build). Some y) (sym eb))) (subst (λ (y : Standing). Installs y new b r) is h))
