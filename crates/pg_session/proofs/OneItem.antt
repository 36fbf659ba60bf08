-- What one answered item adds to the log is what it prints, and a transaction that it leaves open was open or begins with it.
use Rattle.std.proofs.Common.{◌≡◌, ℕ, ◌+◌, List, [], ◌∷◌, ◌++◌, length, inl, inr, refl, sym, subst, ap, ◌∙◌}
use Rattle.std.specs.declared.option.Option.{Option}
use Rattle.std.specs.declared.option.Option.TheVariants.{Some, None}
use Rattle.pg_value.specs.declared.write.Write.{Write}
use Rattle.pg_value.specs.declared.write.Commit.{Commit}
use Rattle.pg_value.specs.Writes.{Limited}
use Rattle.pg_value.specs.Log.{conflict, IsFull}
use Rattle.pg_keyed.specs.Lists.{Each}
use Rattle.pg_script.specs.declared.script.Item.{Item}
use Rattle.pg_script.specs.declared.outcome.Outcome.{Outcome}
use Rattle.pg_script.specs.declared.outcome.Outcome.TheVariants.{Defined, Began, Changed, ChangedAlone, Committed, CommitEmpty, RolledBack, Rows, After, AtByte, AlreadyOpen, NotOpen, Duplicate, TooManyWrites, AtColumn, Conflict, LogFull}
use Rattle.pg_script.specs.Judged.{Judges, Session, Open, Refusal, IsDuplicate, IsTooMany, IsAtColumn, refused, Judged, View, WorksOn, Ends, logged, conflicted, filled, unread, already_open, begun, commit_not_open, rollback_not_open, rolled_back, commit_empty, committed, defines_in_session, defines_in_transaction, define_fault, defined, change_fault, change_stopped, changed, changed_none, changed_alone, query_fault, answered, waited}
use Rattle.pg_script.specs.Session.{number, printed}
use Rattle.pg_core.specs.declared.event.Event.{Event}
use Rattle.pg_core.specs.declared.event.Event.TheVariants as events
use Rattle.pg_core.specs.Core.{IsTaken}
use Rattle.pg_session.specs.Stepped.{World, now, outs_of, alone, refused_commit, events_of}
use Rattle.pg_session.proofs.Within.{adds}
use Rattle.pg_session.proofs.ItemCore.{IsOwn, Tried}

-- what is added to the log is what the outcome prints
pub data Added (limit n : ℕ) (log : List Commit) (added : List Commit) (o : Outcome) : Type 0 where
  nothing : added ≡ [] → printed o ≡ [] → Added limit n log added o
  one : (c : Commit) → added ≡ c ∷ [] → c.session ≡ n → printed o ≡ (length log + 1) ∷ [] → IsTaken limit log c → Added limit n log added o

pub printed_number : (seen c : ℕ) (o : Outcome) → printed o ≡ c ∷ [] → number seen o ≡ c
printed_number seen c (Defined name at) h = cc
printed_number seen c (Began at) h = cc
printed_number seen c (Changed rows at) h = cc
printed_number seen c (ChangedAlone rows from at) h = cc
printed_number seen c (Committed from at) h = cc
printed_number seen c (CommitEmpty at) h = cc
printed_number seen c (RolledBack at) h = cc
printed_number seen c (Rows at base names rows) h = cc
printed_number seen c (After name n at) h = cc
printed_number seen c (AtByte kind byte) h = cc
printed_number seen c AlreadyOpen h = cc
printed_number seen c NotOpen h = cc
printed_number seen c (Duplicate row at) h = cc
printed_number seen c (TooManyWrites row at) h = cc
printed_number seen c (AtColumn kind row column at) h = cc
printed_number seen c (Conflict table key from at) h = cc
printed_number seen c (LogFull from room) h = cc

-- what an outcome of section n with these writes says of the log: what it adds, and why a commit was taken or refused
abbrev pub Says : ℕ → ℕ → List Commit → Limited → Outcome → Type 0
Says limit n log writes o = Added limit n log (adds n writes o) o × Tried limit log n writes o

refused_says : (limit n k : ℕ) (log : List Commit) (writes : Limited) (r : Refusal) → Says limit n log writes (refused r k)
refused_says limit n k log writes (IsDuplicate row) = (nothing refl refl, tt)
refused_says limit n k log writes (IsTooMany row) = (nothing refl refl, tt)
refused_says limit n k log writes (IsAtColumn kind row column) = (nothing refl refl, tt)

refused_events : (n k : ℕ) (t : Option Open) (writes : Limited) (r : Refusal) → events_of n t writes (refused r k) ≡ alone n t []
refused_events n k t writes (IsDuplicate row) = refl
refused_events n k t writes (IsTooMany row) = refl
refused_events n k t writes (IsAtColumn kind row column) = refl

module _ {K D C Q X Y : Type 0} (J : Judges K D C Q X Y) (limit : ℕ) (w : World K) (writes : Limited) (n seen : ℕ) (s : Session K) where
  abbrev SaysHere : Outcome → Type 0
  SaysHere o = Says limit n w.core.log writes o

  ends_says : (tables : List (List ℕ)) (k : ℕ) (ws : List Write) (accepted : ℕ → Outcome) (o : Outcome)
      → ((c : ℕ) → IsTaken limit w.core.log (record { session = n; from = k; writes = writes }) → c ≡ length w.core.log + 1 → SaysHere (accepted c))
      → Ends (now limit w.core (outs_of w.runs) writes n) tables n seen k ws accepted o → SaysHere o
  ends_says tables k ws accepted o a (logged c commit l i e) =
      let is : commit ≡ record { session = n; from = k; writes = writes } = λ j. record { session = i.session j; from = i.from j; writes = l.1 j } in
      subst SaysHere (sym e) (a c (subst (IsTaken limit w.core.log) is l.0) l.2)
  ends_says tables k ws accepted o a (conflicted x j l e) = subst SaysHere (sym e) (nothing refl refl, (x, ap (λ y. conflict w.core.log k y) (sym l.0) ∙ l.1))
  ends_says tables k ws accepted o a (filled room l e) = subst SaysHere (sym e) (nothing refl refl, (ap (λ y. conflict w.core.log k y) (sym l.0) ∙ l.1, subst (IsFull limit w.core.log) l.0 l.3))

  pub judged_says : (item : Item) (o : Outcome) (s' : Session K) → Judged J (now limit w.core (outs_of w.runs) writes n) n seen s item o s' → SaysHere o
  judged_says item o s' (unread k b r e f) = subst SaysHere (sym e) (nothing refl refl, tt)
  judged_says item o s' (already_open t r p e f) = subst SaysHere (sym e) (nothing refl refl, tt)
  judged_says item o s' (begun k r p q e f) = subst SaysHere (sym e) (nothing refl refl, tt)
  judged_says item o s' (commit_not_open r p e f) = subst SaysHere (sym e) (nothing refl refl, tt)
  judged_says item o s' (rollback_not_open r p e f) = subst SaysHere (sym e) (nothing refl refl, tt)
  judged_says item o s' (rolled_back t r p e f) = subst SaysHere (sym e) (nothing refl refl, tt)
  judged_says item o s' (commit_empty k r p e f) = subst SaysHere (sym e) (nothing refl refl, tt)
  judged_says item o s' (committed t r p q e f) = ends_says (J.tables s.catalog) t.from t.writes (Committed t.from) o (λ c k x. (one (record { session = n; from = t.from; writes = writes }) refl refl (ap (λ y. y ∷ []) x) k, k)) e
  judged_says item o s' (defines_in_session d b r p e f) = subst SaysHere (sym e) (nothing refl refl, tt)
  judged_says item o s' (defines_in_transaction d b t r p q e f) = subst SaysHere (sym e) (nothing refl refl, tt)
  judged_says item o s' (define_fault d b k at r p q u e f) = subst SaysHere (sym e) (nothing refl refl, tt)
  judged_says item o s' (defined d b name at c r p q u v e f) = subst SaysHere (sym e) (nothing refl refl, tt)
  judged_says item o s' (change_fault c k at r p e f) = subst SaysHere (sym e) (nothing refl refl, tt)
  judged_says item o s' (change_stopped c x v row r p u a e f) = subst SaysHere (sym e) (refused_says limit n v.from w.core.log writes row)
  judged_says item o s' (changed c x v rows ws r p u a e f) = subst SaysHere (sym e) (nothing refl refl, tt)
  judged_says item o s' (changed_none c x v ws r p u a e f) = subst SaysHere (sym e) (nothing refl refl, tt)
  judged_says item o s' (changed_alone c x v rows ws r p u a z e f) = ends_says (J.tables s.catalog) v.from ws (ChangedAlone rows v.from) o (λ c k x. (one (record { session = n; from = v.from; writes = writes }) refl refl (ap (λ y. y ∷ []) x) k, k)) e
  judged_says item o s' (query_fault q k at r p e f) = subst SaysHere (sym e) (nothing refl refl, tt)
  judged_says item o s' (answered q y v base rows r p u a b e f) = subst SaysHere (sym e) (nothing refl refl, tt)
  judged_says item o s' (waited x m i at r p e f) = subst SaysHere (sym e) (nothing refl refl, tt)

  -- A transaction that is open afterwards was open before, or begins here; what is over has ended. Each goes with the events that come.
  pub data Opens (s' : Session K) (o : Outcome) : Type 0 where
    rests : s.open_ ≡ None → s'.open_ ≡ None → events_of n s.open_ writes o ≡ [] → Opens s' o
    shut : (front : List Event) → s'.open_ ≡ None → Each (IsOwn n) front → events_of n s.open_ writes o ≡ front ++ events.Release n ∷ [] → Opens s' o
    goes_on : (t t' : Open) → s.open_ ≡ Some t → s'.open_ ≡ Some t' → t'.from ≡ t.from → events_of n s.open_ writes o ≡ [] → Opens s' o
    opens : (t' : Open) → s.open_ ≡ None → s'.open_ ≡ Some t' → t'.from ≡ length w.core.log → events_of n s.open_ writes o ≡ events.Pin n ∷ [] → Opens s' o

  stays : (s' : Session K) (o : Outcome) (x : Option Open) → s.open_ ≡ x → s' ≡ s → events_of n s.open_ writes o ≡ [] → Opens s' o
  stays s' o None p f e = rests p (ap (λ z. z.open_) f ∙ p) e
  stays s' o (Some t) p f e = goes_on t t p (ap (λ z. z.open_) f ∙ p) refl e

  -- what stands between a start and an end of its own outside a transaction
  between : (s' : Session K) (o : Outcome) (v : View) → WorksOn (now limit w.core (outs_of w.runs) writes n) seen s v → s' ≡ s → events_of n s.open_ writes o ≡ alone n s.open_ [] → Opens s' o
  between s' o v (inl a) f e = goes_on (record { from = v.from; writes = v.writes }) (record { from = v.from; writes = v.writes }) a.under (ap (λ z. z.open_) f ∙ a.under) refl (e ∙ ap (λ t. alone n t []) a.under)
  between s' o v (inr a) f e = shut (events.Pin n ∷ []) (ap (λ z. z.open_) f ∙ a.closed) (refl, tt) (e ∙ ap (λ t. alone n t []) a.closed)

  -- a commit of a transaction, and of a statement outside one
  commit_opens : (tables : List (List ℕ)) (k : ℕ) (ws : List Write) (t : Open) (s' : Session K) (o : Outcome) → s.open_ ≡ Some t → s'.open_ ≡ None → Ends (now limit w.core (outs_of w.runs) writes n) tables n seen k ws (Committed k) o → Opens s' o
  commit_opens tables k ws t s' o p q (logged c commit l i e) = shut (events.Commit n k writes ∷ []) q (refl, tt) (ap (events_of n s.open_ writes) e)
  commit_opens tables k ws t s' o p q (conflicted x j l e) = shut (events.Commit n k writes ∷ []) q (refl, tt) (ap (events_of n s.open_ writes) e ∙ ap (λ z. refused_commit n z (events.Commit n k writes ∷ [])) p)
  commit_opens tables k ws t s' o p q (filled room l e) = shut (events.Commit n k writes ∷ []) q (refl, tt) (ap (events_of n s.open_ writes) e ∙ ap (λ z. refused_commit n z (events.Commit n k writes ∷ [])) p)

  alone_opens : (tables : List (List ℕ)) (k rows : ℕ) (ws : List Write) (s' : Session K) (o : Outcome) → s.open_ ≡ None → s'.open_ ≡ None → Ends (now limit w.core (outs_of w.runs) writes n) tables n seen k ws (ChangedAlone rows k) o → Opens s' o
  alone_opens tables k rows ws s' o p q (logged c commit l i e) = shut (events.Pin n ∷ events.Commit n k writes ∷ []) q (refl, (refl, tt)) (ap (events_of n s.open_ writes) e)
  alone_opens tables k rows ws s' o p q (conflicted x j l e) = shut (events.Pin n ∷ events.Commit n k writes ∷ []) q (refl, (refl, tt)) (ap (events_of n s.open_ writes) e ∙ ap (λ z. refused_commit n z (events.Commit n k writes ∷ [])) p)
  alone_opens tables k rows ws s' o p q (filled room l e) = shut (events.Pin n ∷ events.Commit n k writes ∷ []) q (refl, (refl, tt)) (ap (events_of n s.open_ writes) e ∙ ap (λ z. refused_commit n z (events.Commit n k writes ∷ [])) p)

  pub judged_opens : (item : Item) (o : Outcome) (s' : Session K) → Judged J (now limit w.core (outs_of w.runs) writes n) n seen s item o s' → Opens s' o
  judged_opens item o s' (unread k b r e f) = stays s' o s.open_ refl f (ap (events_of n s.open_ writes) e)
  judged_opens item o s' (already_open t r p e f) = stays s' o s.open_ refl f (ap (events_of n s.open_ writes) e)
  judged_opens item o s' (begun k r p q e f) = opens (record { from = k; writes = [] }) p (ap (λ z. z.open_) f) q (ap (events_of n s.open_ writes) e)
  judged_opens item o s' (commit_not_open r p e f) = stays s' o s.open_ refl f (ap (events_of n s.open_ writes) e)
  judged_opens item o s' (rollback_not_open r p e f) = stays s' o s.open_ refl f (ap (events_of n s.open_ writes) e)
  judged_opens item o s' (rolled_back t r p e f) = shut [] (ap (λ z. z.open_) f) tt (ap (events_of n s.open_ writes) e)
  judged_opens item o s' (commit_empty k r p e f) = shut [] (ap (λ z. z.open_) f) tt (ap (events_of n s.open_ writes) e)
  judged_opens item o s' (committed t r p q e f) = commit_opens (J.tables s.catalog) t.from t.writes t s' o p (ap (λ z. z.open_) f) e
  judged_opens item o s' (defines_in_session d b r p e f) = stays s' o s.open_ refl f (ap (events_of n s.open_ writes) e)
  judged_opens item o s' (defines_in_transaction d b t r p q e f) = stays s' o s.open_ refl f (ap (events_of n s.open_ writes) e)
  judged_opens item o s' (define_fault d b k at r p q u e f) = stays s' o s.open_ refl f (ap (events_of n s.open_ writes) e)
  judged_opens item o s' (defined d b name at c r p q u v e f) = rests q (ap (λ z. z.open_) f ∙ q) (ap (events_of n s.open_ writes) e)
  judged_opens item o s' (change_fault c k at r p e f) = stays s' o s.open_ refl f (ap (events_of n s.open_ writes) e)
  judged_opens item o s' (change_stopped c x v row r p u a e f) = between s' o v u f (ap (events_of n s.open_ writes) e ∙ refused_events n v.from s.open_ writes row)
  judged_opens item o s' (changed c x v rows ws r p u a e f) = goes_on (record { from = v.from; writes = v.writes }) (record { from = v.from; writes = ws }) u.under (ap (λ z. z.open_) f) refl (ap (events_of n s.open_ writes) e ∙ ap (λ t. alone n t []) u.under)
  judged_opens item o s' (changed_none c x v ws r p u a e f) = between s' o v (inr u) f (ap (events_of n s.open_ writes) e)
  judged_opens item o s' (changed_alone c x v rows ws r p u a z e f) = alone_opens (J.tables s.catalog) v.from rows ws s' o u.closed (ap (λ z. z.open_) f ∙ u.closed) e
  judged_opens item o s' (query_fault q k at r p e f) = stays s' o s.open_ refl f (ap (events_of n s.open_ writes) e)
  judged_opens item o s' (answered q y v base rows r p u a b e f) = between s' o v u f (ap (events_of n s.open_ writes) e)
  judged_opens item o s' (waited x m i at r p e f) = stays s' o s.open_ refl f (ap (events_of n s.open_ writes) e)

  -- a session leaves the catalog
  pub judged_catalog : (item : Item) (o : Outcome) (s' : Session K) → (n ≡ 0 → ⊥) → Judged J (now limit w.core (outs_of w.runs) writes n) n seen s item o s' → s'.catalog ≡ s.catalog
  judged_catalog item o s' z (unread k b r e f) = ap (λ z. z.catalog) f
  judged_catalog item o s' z (already_open t r p e f) = ap (λ z. z.catalog) f
  judged_catalog item o s' z (begun k r p q e f) = ap (λ z. z.catalog) f
  judged_catalog item o s' z (commit_not_open r p e f) = ap (λ z. z.catalog) f
  judged_catalog item o s' z (rollback_not_open r p e f) = ap (λ z. z.catalog) f
  judged_catalog item o s' z (rolled_back t r p e f) = ap (λ z. z.catalog) f
  judged_catalog item o s' z (commit_empty k r p e f) = ap (λ z. z.catalog) f
  judged_catalog item o s' z (committed t r p q e f) = ap (λ z. z.catalog) f
  judged_catalog item o s' z (defines_in_session d b r p e f) = ap (λ z. z.catalog) f
  judged_catalog item o s' z (defines_in_transaction d b t r p q e f) = ap (λ z. z.catalog) f
  judged_catalog item o s' z (define_fault d b k at r p q u e f) = ap (λ z. z.catalog) f
  judged_catalog item o s' z (defined d b name at c r p q u v e f) = absurd (z p)
  judged_catalog item o s' z (change_fault c k at r p e f) = ap (λ z. z.catalog) f
  judged_catalog item o s' z (change_stopped c x v row r p u a e f) = ap (λ z. z.catalog) f
  judged_catalog item o s' z (changed c x v rows ws r p u a e f) = ap (λ z. z.catalog) f
  judged_catalog item o s' z (changed_none c x v ws r p u a e f) = ap (λ z. z.catalog) f
  judged_catalog item o s' z (changed_alone c x v rows ws r p u a y e f) = ap (λ z. z.catalog) f
  judged_catalog item o s' z (query_fault q k at r p e f) = ap (λ z. z.catalog) f
  judged_catalog item o s' z (answered q y v base rows r p u a b e f) = ap (λ z. z.catalog) f
  judged_catalog item o s' z (waited x m i at r p e f) = ap (λ z. z.catalog) f
