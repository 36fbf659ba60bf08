-- Under an exact language a stepped run has no choice: each turn leads to one world, and so the run to one transcript.
use Rattle.std.proofs.Common.{◌≡◌, ℕ, zero, suc, ◌+◌, ◌<◌, Bool, true, false, cond, nat_lt, List, [], ◌∷◌, ◌++◌, length, inl, inr, refl, sym, subst, ap, ◌∙◌, arith}
use Rattle.std.proofs.lemmas.Bool.{lt-ltb, le-ltb}
use Rattle.std.proofs.lemmas.Option.{none-some, same_Some}
use Rattle.std.specs.Prelude.{slice_set}
use Rattle.std.specs.declared.option.Option.{Option}
use Rattle.std.specs.declared.option.Option.TheVariants.{Some, None}
use Rattle.pg_keyed.specs.Lists.{Each, each_append}
use Rattle.pg_value.specs.declared.shape.Shapes.{Shapes}
use Rattle.pg_value.specs.declared.write.Write.{Write}
use Rattle.pg_value.specs.declared.write.Commit.{Commit}
use Rattle.pg_value.specs.Writes.{Limited}
use Rattle.pg_value.specs.Log.{view, held, conflict}
use Rattle.pg_script.specs.declared.script.Item.{Item}
use Rattle.pg_script.specs.declared.script.Script.{Script}
use Rattle.pg_script.specs.declared.outcome.FaultKind.TheVariants.{DefinitionInSession, DefinitionInTransaction}
use Rattle.pg_script.specs.declared.outcome.Outcome.{Outcome}
use Rattle.pg_script.specs.declared.outcome.Outcome.TheVariants.{Defined, Began, Changed, ChangedAlone, Committed, CommitEmpty, RolledBack, Rows, After, AtByte, AlreadyOpen, NotOpen, Duplicate, TooManyWrites, AtColumn, Conflict, LogFull}
use Rattle.pg_script.specs.Text.{name_at, text_of}
use Rattle.pg_script.specs.Judged.{Reading, Unread, Begins, Commits, RollsBack, Defines, Changes, Asks, Waits, Ruling, Faulty, Fine, Refusal, IsDuplicate, IsTooMany, IsAtColumn, refused, Effect, Stopped, Done, Found, Listed, Judges, Session, Open, View, InTransaction, AtStart, WorksOn, Judged, Ends, logged, conflicted, filled, with_open, unread, already_open, begun, commit_not_open, rollback_not_open, rolled_back, commit_empty, committed, defines_in_session, defines_in_transaction, define_fault, defined, change_fault, change_stopped, changed, changed_none, changed_alone, query_fault, answered, waited}
use Rattle.pg_script.specs.Exact.{IsExact, AsksPlain}
use Rattle.pg_core.specs.declared.event.Event.{Event}
use Rattle.pg_core.specs.declared.event.Event.TheVariants as events
use Rattle.pg_core.specs.declared.event.Reply.{Reply}
use Rattle.pg_core.specs.Core.{Core, CommitAnswers, conflicts, fills, takes, Steps}
use Rattle.pg_session.specs.Stepped.{World, outs_of, session_at, seen_at, base_of, now, HasAnswered, events_of, leaving, marking, AfterItem, next_item, is_last, item_events, Did, IsIdle, Turn, Turns, transcript_of}
use Rattle.pg_session.specs.Legality.{SteppedRunsAreOne}
use Rattle.pg_session.proofs.ItemCore.{Makes, IsOwn, step_makes, events_own, rest_own}

-- THE CORE

one_answer : (limit : ℕ) (c m m' : Core) (w : Commit) (r r' : Reply) → CommitAnswers limit c w r m → CommitAnswers limit c w r' m' → m ≡ m'
one_answer limit c m m' w r r' (conflicts x at f _ e) (conflicts y j g _ e') = e ∙ sym e'
one_answer limit c m m' w r r' (conflicts x at f _ e) (fills g u _ e') = e ∙ sym e'
one_answer limit c m m' w r r' (conflicts x at f _ e) (takes t _ e') = absurd (none-some (x, at) (sym t.free ∙ f))
one_answer limit c m m' w r r' (fills g u _ e) (conflicts y j f _ e') = e ∙ sym e'
one_answer limit c m m' w r r' (fills g u _ e) (fills h v _ e') = e ∙ sym e'
one_answer limit c m m' w r r' (fills g u _ e) (takes t _ e') = absurd (omega (arith, t.room, u))
one_answer limit c m m' w r r' (takes t _ e) (conflicts y j f _ e') = absurd (none-some (y, j) (sym t.free ∙ f))
one_answer limit c m m' w r r' (takes t _ e) (fills h v _ e') = absurd (omega (arith, t.room, v))
one_answer limit c m m' w r r' (takes t _ e) (takes u _ e') = e ∙ sym e'

makes_one : (limit n : ℕ) (c m m' : Core) (e : Event) → IsOwn n e → Makes limit c e m → Makes limit c e m' → m ≡ m'
makes_one limit n c m m' (events.Pin s) own x y = x ∙ sym y
makes_one limit n c m m' (events.Release s) own x y = x ∙ sym y
makes_one limit n c m m' (events.Commit s from writes) own x y = one_answer limit c m m' (record { session = s; from = from; writes = writes }) x.0 y.0 x.1 y.1
makes_one limit n c m m' (events.BeginFold s) own x y = absurd own
makes_one limit n c m m' events.Install own x y = absurd own
makes_one limit n c m m' events.Abandon own x y = absurd own
makes_one limit n c m m' (events.Mark s) own x y = x ∙ sym y
makes_one limit n c m m' (events.EndSession s) own x y = absurd own
makes_one limit n c m m' events.Stop own x y = absurd own

module _ (shapes : Shapes) (limit n : ℕ) where
  steps_one : (es : List Event) (c d d' : Core) → Each (IsOwn n) es → Steps shapes limit c es d → Steps shapes limit c es d' → d ≡ d'
  steps_one [] c d d' own s t = s ∙ sym t
  steps_one (e ∷ es) c d d' own s t =
      let same : s.1 ≡ t.1 = makes_one limit n c s.1 t.1 e own.0 (step_makes shapes limit c s.1 e s.0 s.2 s.3) (step_makes shapes limit c t.1 e t.0 t.2 t.3) in
      steps_one es s.1 d d' own.1 s.4 (subst (λ m. Steps shapes limit m es d') (sym same) t.4)

  after_one : (es : List Event) (o : Outcome) (c d d' : Core) → Each (IsOwn n) es → AfterItem shapes limit c es o d → AfterItem shapes limit c es o d' → d ≡ d'
  after_one es (Defined name at) c d d' own s t = s ∙ sym t
  after_one es (Began at) c d d' own s t = steps_one es c d d' own s t
  after_one es (Changed rows at) c d d' own s t = steps_one es c d d' own s t
  after_one es (ChangedAlone rows from at) c d d' own s t = steps_one es c d d' own s t
  after_one es (Committed from at) c d d' own s t = steps_one es c d d' own s t
  after_one es (CommitEmpty at) c d d' own s t = steps_one es c d d' own s t
  after_one es (RolledBack at) c d d' own s t = steps_one es c d d' own s t
  after_one es (Rows at base names rows) c d d' own s t = steps_one es c d d' own s t
  after_one es (After name i at) c d d' own s t = steps_one es c d d' own s t
  after_one es (AtByte kind byte) c d d' own s t = steps_one es c d d' own s t
  after_one es AlreadyOpen c d d' own s t = steps_one es c d d' own s t
  after_one es NotOpen c d d' own s t = steps_one es c d d' own s t
  after_one es (Duplicate row at) c d d' own s t = steps_one es c d d' own s t
  after_one es (TooManyWrites row at) c d d' own s t = steps_one es c d d' own s t
  after_one es (AtColumn kind row column at) c d d' own s t = steps_one es c d d' own s t
  after_one es (Conflict table key from at) c d d' own s t = steps_one es c d d' own s t
  after_one es (LogFull from room) c d d' own s t = steps_one es c d d' own s t

-- WHICH WRITES AN OUTCOME TELLS OF

-- an outcome of a commit, taken or refused, is of these writes
abbrev IsTied : Limited → List Write → Outcome → Type 0
IsTied writes ws (Defined name at) = Unit {0}
IsTied writes ws (Began at) = Unit {0}
IsTied writes ws (Changed rows at) = Unit {0}
IsTied writes ws (ChangedAlone rows from at) = writes.list ≡ ws
IsTied writes ws (Committed from at) = writes.list ≡ ws
IsTied writes ws (CommitEmpty at) = Unit {0}
IsTied writes ws (RolledBack at) = Unit {0}
IsTied writes ws (Rows at base names rows) = Unit {0}
IsTied writes ws (After name i at) = Unit {0}
IsTied writes ws (AtByte kind byte) = Unit {0}
IsTied writes ws AlreadyOpen = Unit {0}
IsTied writes ws NotOpen = Unit {0}
IsTied writes ws (Duplicate row at) = Unit {0}
IsTied writes ws (TooManyWrites row at) = Unit {0}
IsTied writes ws (AtColumn kind row column at) = Unit {0}
IsTied writes ws (Conflict table key from at) = writes.list ≡ ws
IsTied writes ws (LogFull from room) = writes.list ≡ ws

one_limited : (a b : Limited) (ws : List Write) (limit : ℕ) → a.list ≡ ws → b.list ≡ ws → a.limit ≡ limit → b.limit ≡ limit → a ≡ b
one_limited a b ws limit e f g h = λ i. record { list = (e ∙ sym f) i; limit = (g ∙ sym h) i }

events_one : (n : ℕ) (x : Option Open) (a b : Limited) (ws : List Write) (limit : ℕ) (o : Outcome) → a.limit ≡ limit → b.limit ≡ limit → IsTied a ws o → IsTied b ws o → events_of n x a o ≡ events_of n x b o
events_one n x a b ws limit (Defined name at) g h e f = refl
events_one n x a b ws limit (Began at) g h e f = refl
events_one n x a b ws limit (Changed rows at) g h e f = refl
events_one n x a b ws limit (ChangedAlone rows from at) g h e f = ap (λ (w : Limited). events_of n x w (ChangedAlone rows from at)) (one_limited a b ws limit e f g h)
events_one n x a b ws limit (Committed from at) g h e f = ap (λ (w : Limited). events_of n x w (Committed from at)) (one_limited a b ws limit e f g h)
events_one n x a b ws limit (CommitEmpty at) g h e f = refl
events_one n x a b ws limit (RolledBack at) g h e f = refl
events_one n x a b ws limit (Rows at base names rows) g h e f = refl
events_one n x a b ws limit (After name i at) g h e f = refl
events_one n x a b ws limit (AtByte kind byte) g h e f = refl
events_one n x a b ws limit AlreadyOpen g h e f = refl
events_one n x a b ws limit NotOpen g h e f = refl
events_one n x a b ws limit (Duplicate row at) g h e f = refl
events_one n x a b ws limit (TooManyWrites row at) g h e f = refl
events_one n x a b ws limit (AtColumn kind row column at) g h e f = refl
events_one n x a b ws limit (Conflict table key from at) g h e f = ap (λ (w : Limited). events_of n x w (Conflict table key from at)) (one_limited a b ws limit e f g h)
events_one n x a b ws limit (LogFull from room) g h e f = ap (λ (w : Limited). events_of n x w (LogFull from room)) (one_limited a b ws limit e f g h)

-- WHAT IS DECIDED

-- an answer: the outcome, the session that it leaves, and the writes that it tells of
record Decision (K : Type 0) : Type 0 where
  outcome : Outcome
  session : Session K
  writes : List Write

some_none : {A : Type 0} (x : Option A) (t : A) → x ≡ Some t → x ≡ None → ⊥
some_none x t e f = none-some t (sym f ∙ e)

module _ {K D C Q X Y : Type 0} (J : Judges K D C Q X Y) (limit : ℕ) (c : Core) (outs : ℕ → List Outcome) (n : ℕ) (s : Session K) where
  abbrev L : List Commit
  L = c.log

  abbrev At : Outcome → Decision K
  At o = record { outcome = o; session = s; writes = [] }

  abbrev view_of : Option Open → View
  view_of None = record { from = length L; writes = []; tables = view L (length L) [] }
  view_of (Some t) = record { from = t.from; writes = t.writes; tables = view L t.from t.writes }

  abbrev V : View
  V = view_of s.open_

  -- how a commit ends
  abbrev by_conflict : Option (Write × ℕ) → ℕ → List Write → (ℕ → Outcome) → Outcome
  by_conflict (Some p) k ws accepted = Conflict (name_at (J.tables s.catalog) p.0.table.0) p.0.key k p.1
  by_conflict None k ws accepted = cond (nat_lt limit (held L + length ws)) (LogFull k (held L)) (accepted (length L + 1))

  abbrev ended : ℕ → List Write → (ℕ → Outcome) → Outcome
  ended k ws accepted = by_conflict (conflict L k ws) k ws accepted

  -- what each reading comes to
  abbrev begin_as : Option Open → Decision K
  begin_as None = record { outcome = Began (length L); session = with_open s (Some (record { from = length L; writes = [] })); writes = [] }
  begin_as (Some t) = At AlreadyOpen

  abbrev commit_as : Option Open → Decision K
  commit_as None = At NotOpen
  commit_as (Some t) = of_writes t.from t.writes where
    of_writes : ℕ → List Write → Decision K
    of_writes k [] = record { outcome = CommitEmpty k; session = with_open s None; writes = [] }
    of_writes k (w ∷ ws) = record { outcome = ended k (w ∷ ws) (Committed k); session = with_open s None; writes = w ∷ ws }

  abbrev rollback_as : Option Open → Decision K
  rollback_as None = At NotOpen
  rollback_as (Some t) = record { outcome = RolledBack t.from; session = with_open s None; writes = [] }

  abbrev define_as : Ruling (List ℕ × K) → Decision K
  define_as (Faulty kind at) = At (AtByte kind at)
  define_as (Fine x) = record { outcome = Defined x.0 (length L); session = record s { catalog = x.1 }; writes = [] }

  abbrev Defining : ℕ → Option Open → D → ℕ → Decision K → Type 0
  Defining (suc m) x d byte z = z ≡ At (AtByte DefinitionInSession byte)
  Defining zero (Some t) d byte z = z ≡ At (AtByte DefinitionInTransaction byte)
  Defining zero None d byte z = (r : Ruling (List ℕ × K)) × J.defines s.catalog d r × (z ≡ define_as r)

  abbrev alone_as : List Write → ℕ → Decision K
  alone_as ws zero = At (Changed 0 V.from)
  alone_as ws (suc m) = record { outcome = ended V.from ws (ChangedAlone (suc m) V.from); session = s; writes = ws }

  abbrev effect_as : Option Open → Effect → Decision K
  effect_as x (Stopped refusal) = At (refused refusal V.from)
  effect_as (Some t) (Done ws rows) = record { outcome = Changed rows V.from; session = with_open s (Some (record { from = V.from; writes = ws })); writes = [] }
  effect_as None (Done ws rows) = alone_as ws rows

  abbrev Changing : Ruling X → Decision K → Type 0
  Changing (Faulty kind at) z = z ≡ At (AtByte kind at)
  Changing (Fine x) z = (e : Effect) × J.affects s.catalog V.tables V.writes x e × (z ≡ effect_as s.open_ e)

  abbrev found_as : Y → Found → Decision K
  found_as y (Listed rows) = At (Rows V.from (base_of c n) (J.columns y) rows)

  abbrev Asking : Ruling Y → Decision K → Type 0
  Asking (Faulty kind at) z = z ≡ At (AtByte kind at)
  Asking (Fine y) z = (f : Found) × J.answers s.catalog V.tables y f × (z ≡ found_as y f)

  abbrev Comes : Reading D C Q → Decision K → Type 0
  Comes (Unread kind byte) z = z ≡ At (AtByte kind byte)
  Comes Begins z = z ≡ begin_as s.open_
  Comes Commits z = z ≡ commit_as s.open_
  Comes RollsBack z = z ≡ rollback_as s.open_
  Comes (Defines d byte) z = Defining n s.open_ d byte z
  Comes (Changes x) z = (r : Ruling X) × J.resolves s.catalog x r × Changing r z
  Comes (Asks q) z = (r : Ruling Y) × J.checks s.catalog q r × Asking r z
  Comes (Waits name m i) z = HasAnswered outs m i × (z ≡ At (After name i (length L)))

  -- an answer by the table is a decision
  record Decides (item : Item) (o : Outcome) (s' : Session K) (writes : Limited) : Type 0 where
    reading : Reading D C Q
    reads : J.reads item reading
    decision : Decision K
    comes : Comes reading decision
    outcome : o ≡ decision.outcome
    session : s' ≡ decision.session
    tied : IsTied writes decision.writes o

  in_view : (writes : Limited) (v : View) → InTransaction (now limit c outs writes n) s v → v ≡ V
  in_view writes v a = (λ i. record { from = v.from; writes = v.writes; tables = a.sees i }) ∙ ap view_of (sym a.under)

  start_view : (seen : ℕ) (writes : Limited) (v : View) → AtStart (now limit c outs writes n) seen s v → v ≡ V
  start_view seen writes v a = (λ i. record { from = v.from; writes = v.writes; tables = a.sees i }) ∙ (λ i. record { from = a.starts i; writes = a.unwritten i; tables = view L (a.starts i) (a.unwritten i) }) ∙ ap view_of (sym a.closed)

  works_view : (seen : ℕ) (writes : Limited) (v : View) → WorksOn (now limit c outs writes n) seen s v → v ≡ V
  works_view seen writes v (inl a) = in_view writes v a
  works_view seen writes v (inr a) = start_view seen writes v a

  ends_is : (seen k : ℕ) (writes : Limited) (ws : List Write) (accepted : ℕ → Outcome) (o : Outcome) → Ends (now limit c outs writes n) (J.tables s.catalog) n seen k ws accepted o → o ≡ ended k ws accepted
  ends_is seen k writes ws accepted o (logged m commit l i e) =
      let free : conflict L k ws ≡ None = sym (λ j. conflict L (i.from j) (i.writes j)) ∙ l.0.free in
      let room : nat_lt limit (held L + length ws) ≡ false = le-ltb limit (held L + length ws) (omega (arith, l.0.room, ap length i.writes)) in
      e ∙ ap accepted l.2 ∙ sym (ap (λ z. by_conflict z k ws accepted) free ∙ ap (λ b. cond b (LogFull k (held L)) (accepted (length L + 1))) room)
  ends_is seen k writes ws accepted o (conflicted w j l e) = e ∙ sym (ap (λ z. by_conflict z k ws accepted) l.1)
  ends_is seen k writes ws accepted o (filled room l e) =
      let full : nat_lt limit (held L + length ws) ≡ true = lt-ltb limit (held L + length ws) l.3 in
      e ∙ ap (LogFull k) l.2 ∙ sym (ap (λ z. by_conflict z k ws accepted) l.1 ∙ ap (λ b. cond b (LogFull k (held L)) (accepted (length L + 1))) full)

  ends_tied : (seen k : ℕ) (writes : Limited) (ws : List Write) (accepted : ℕ → Outcome) (o : Outcome) → ((m : ℕ) → writes.list ≡ ws → IsTied writes ws (accepted m)) → Ends (now limit c outs writes n) (J.tables s.catalog) n seen k ws accepted o → IsTied writes ws o
  ends_tied seen k writes ws accepted o a (logged m commit l i e) = subst (IsTied writes ws) (sym e) (a m (ap (λ (w : Limited). w.list) (sym l.1) ∙ i.writes))
  ends_tied seen k writes ws accepted o a (conflicted w j l e) = subst (IsTied writes ws) (sym e) (sym l.0)
  ends_tied seen k writes ws accepted o a (filled room l e) = subst (IsTied writes ws) (sym e) (sym l.0)

  refused_tied : (writes : Limited) (ws : List Write) (r : Refusal) (k : ℕ) → IsTied writes ws (refused r k)
  refused_tied writes ws (IsDuplicate row) k = tt
  refused_tied writes ws (IsTooMany row) k = tt
  refused_tied writes ws (IsAtColumn kind row column) k = tt

  in_session : (m : ℕ) (x : Option Open) (d : D) (byte : ℕ) → (m ≡ 0 → ⊥) → Defining m x d byte (At (AtByte DefinitionInSession byte))
  in_session zero x d byte z = absurd (z refl)
  in_session (suc m) x d byte z = refl

  commit_some : (k : ℕ) (ws : List Write) → (ws ≡ [] → ⊥) → commit_as (Some (record { from = k; writes = ws })) ≡ record { outcome = ended k ws (Committed k); session = with_open s None; writes = ws }
  commit_some k [] z = absurd (z refl)
  commit_some k (w ∷ ws) z = refl

  alone_some : (ws : List Write) (rows : ℕ) → 0 < rows → alone_as ws rows ≡ record { outcome = ended V.from ws (ChangedAlone rows V.from); session = s; writes = ws }
  alone_some ws zero lt = absurd (omega (arith, lt))
  alone_some ws (suc m) lt = refl

  judged_decides : (seen : ℕ) (writes : Limited) (item : Item) (o : Outcome) (s' : Session K) → Judged J (now limit c outs writes n) n seen s item o s' → Decides item o s' writes
  judged_decides seen writes item o s' (unread k b r e f) = record { reading = Unread k b; reads = r; decision = At (AtByte k b); comes = refl; outcome = e; session = f; tied = subst (IsTied writes []) (sym e) tt }
  judged_decides seen writes item o s' (already_open t r p e f) = record { reading = Begins; reads = r; decision = At AlreadyOpen; comes = ap begin_as (sym p); outcome = e; session = f; tied = subst (IsTied writes []) (sym e) tt }
  judged_decides seen writes item o s' (begun k r p q e f) = record { reading = Begins; reads = r; decision = begin_as None; comes = ap begin_as (sym p); outcome = e ∙ ap Began q; session = f ∙ ap (λ z. with_open s (Some (record { from = z; writes = [] }))) q; tied = subst (IsTied writes []) (sym e) tt }
  judged_decides seen writes item o s' (commit_not_open r p e f) = record { reading = Commits; reads = r; decision = At NotOpen; comes = ap commit_as (sym p); outcome = e; session = f; tied = subst (IsTied writes []) (sym e) tt }
  judged_decides seen writes item o s' (rollback_not_open r p e f) = record { reading = RollsBack; reads = r; decision = At NotOpen; comes = ap rollback_as (sym p); outcome = e; session = f; tied = subst (IsTied writes []) (sym e) tt }
  judged_decides seen writes item o s' (rolled_back t r p e f) = record { reading = RollsBack; reads = r; decision = rollback_as (Some t); comes = ap rollback_as (sym p); outcome = e; session = f; tied = subst (IsTied writes []) (sym e) tt }
  judged_decides seen writes item o s' (commit_empty k r p e f) = record { reading = Commits; reads = r; decision = commit_as (Some (record { from = k; writes = [] })); comes = ap commit_as (sym p); outcome = e; session = f; tied = subst (IsTied writes []) (sym e) tt }
  judged_decides seen writes item o s' (committed t r p q e f) = record { reading = Commits; reads = r; decision = record { outcome = ended t.from t.writes (Committed t.from); session = with_open s None; writes = t.writes }; comes = sym (commit_some t.from t.writes q) ∙ ap commit_as (sym p); outcome = ends_is seen t.from writes t.writes (Committed t.from) o e; session = f; tied = ends_tied seen t.from writes t.writes (Committed t.from) o (λ m x. x) e }
  judged_decides seen writes item o s' (defines_in_session d b r p e f) = record { reading = Defines d b; reads = r; decision = At (AtByte DefinitionInSession b); comes = in_session n s.open_ d b p; outcome = e; session = f; tied = subst (IsTied writes []) (sym e) tt }
  judged_decides seen writes item o s' (defines_in_transaction d b t r p q e f) = record { reading = Defines d b; reads = r; decision = At (AtByte DefinitionInTransaction b); comes = subst (λ m. Defining m s.open_ d b (At (AtByte DefinitionInTransaction b))) (sym p) (subst (λ x. Defining 0 x d b (At (AtByte DefinitionInTransaction b))) (sym q) refl); outcome = e; session = f; tied = subst (IsTied writes []) (sym e) tt }
  judged_decides seen writes item o s' (define_fault d b k at r p q u e f) = record { reading = Defines d b; reads = r; decision = At (AtByte k at); comes = subst (λ m. Defining m s.open_ d b (At (AtByte k at))) (sym p) (subst (λ x. Defining 0 x d b (At (AtByte k at))) (sym q) (Faulty k at, u, refl)); outcome = e; session = f; tied = subst (IsTied writes []) (sym e) tt }
  judged_decides seen writes item o s' (defined d b name at k r p q u v e f) = record { reading = Defines d b; reads = r; decision = define_as (Fine (name, k)); comes = subst (λ m. Defining m s.open_ d b (define_as (Fine (name, k)))) (sym p) (subst (λ x. Defining 0 x d b (define_as (Fine (name, k)))) (sym q) (Fine (name, k), u, refl)); outcome = e ∙ ap (Defined name) v; session = f; tied = subst (IsTied writes []) (sym e) tt }
  judged_decides seen writes item o s' (change_fault x k at r p e f) = record { reading = Changes x; reads = r; decision = At (AtByte k at); comes = (Faulty k at, p, refl); outcome = e; session = f; tied = subst (IsTied writes []) (sym e) tt }
  judged_decides seen writes item o s' (change_stopped y x v row r p u a e f) = record { reading = Changes y; reads = r; decision = effect_as s.open_ (Stopped row); comes = (Fine x, p, (Stopped row, subst (λ (z : View). J.affects s.catalog z.tables z.writes x (Stopped row)) (works_view seen writes v u) a, refl)); outcome = e ∙ ap (λ (z : View). refused row z.from) (works_view seen writes v u); session = f; tied = subst (IsTied writes []) (sym e) (refused_tied writes [] row v.from) }
  judged_decides seen writes item o s' (changed y x v rows ws r p u a e f) = record { reading = Changes y; reads = r; decision = effect_as (Some (record { from = v.from; writes = v.writes })) (Done ws rows); comes = (Fine x, p, (Done ws rows, subst (λ (z : View). J.affects s.catalog z.tables z.writes x (Done ws rows)) (in_view writes v u) a, ap (λ z. effect_as z (Done ws rows)) (sym u.under))); outcome = e ∙ ap (λ (z : View). Changed rows z.from) (in_view writes v u); session = f ∙ ap (λ (z : View). with_open s (Some (record { from = z.from; writes = ws }))) (in_view writes v u); tied = subst (IsTied writes []) (sym e) tt }
  judged_decides seen writes item o s' (changed_none y x v ws r p u a e f) = record { reading = Changes y; reads = r; decision = effect_as None (Done ws 0); comes = (Fine x, p, (Done ws 0, subst (λ (z : View). J.affects s.catalog z.tables z.writes x (Done ws 0)) (start_view seen writes v u) a, ap (λ z. effect_as z (Done ws 0)) (sym u.closed))); outcome = e ∙ ap (λ (z : View). Changed 0 z.from) (start_view seen writes v u); session = f; tied = subst (IsTied writes []) (sym e) tt }
  judged_decides seen writes item o s' (changed_alone y x v rows ws r p u a z e f) = record { reading = Changes y; reads = r; decision = record { outcome = ended V.from ws (ChangedAlone rows V.from); session = s; writes = ws }; comes = (Fine x, p, (Done ws rows, subst (λ (z : View). J.affects s.catalog z.tables z.writes x (Done ws rows)) (start_view seen writes v u) a, sym (alone_some ws rows z) ∙ ap (λ q. effect_as q (Done ws rows)) (sym u.closed))); outcome = ends_is seen v.from writes ws (ChangedAlone rows v.from) o e ∙ ap (λ (q : View). ended q.from ws (ChangedAlone rows q.from)) (start_view seen writes v u); session = f; tied = ends_tied seen v.from writes ws (ChangedAlone rows v.from) o (λ m q. q) e }
  judged_decides seen writes item o s' (query_fault q k at r p e f) = record { reading = Asks q; reads = r; decision = At (AtByte k at); comes = (Faulty k at, p, refl); outcome = e; session = f; tied = subst (IsTied writes []) (sym e) tt }
  judged_decides seen writes item o s' (answered q y v base rows r p u a b e f) = record { reading = Asks q; reads = r; decision = found_as y (Listed rows); comes = (Fine y, p, (Listed rows, subst (λ (z : View). J.answers s.catalog z.tables y (Listed rows)) (works_view seen writes v u) a, refl)); outcome = e ∙ ap (λ z. Rows v.from z (J.columns y) rows) b ∙ ap (λ (z : View). Rows z.from (base_of c n) (J.columns y) rows) (works_view seen writes v u); session = f; tied = subst (IsTied writes []) (sym e) tt }
  judged_decides seen writes item o s' (waited name m i at r p e f) = record { reading = Waits name m i; reads = r; decision = At (After name i (length L)); comes = (p.0, refl); outcome = e ∙ ap (After name i) p.1; session = f; tied = subst (IsTied writes []) (sym e) tt }

  -- what a reading comes to is one decision
  module _ (plain : Y → Bool) (exact : IsExact J plain) where
    changing_one : (r : Ruling X) (y z : Decision K) → Changing r y → Changing r z → y ≡ z
    changing_one (Faulty kind at) y z a b = a ∙ sym b
    changing_one (Fine x) y z a b = a.2 ∙ ap (effect_as s.open_) (exact.affects s.catalog V.tables V.writes x a.0 b.0 a.1 b.1) ∙ sym b.2

    asking_one : (r : Ruling Y) (y z : Decision K) → ((q : Y) → r ≡ Fine q → plain q ≡ true) → Asking r y → Asking r z → y ≡ z
    asking_one (Faulty kind at) y z p a b = a ∙ sym b
    asking_one (Fine q) y z p a b = a.2 ∙ ap (found_as q) (exact.answers s.catalog V.tables q a.0 b.0 (p q refl) a.1 b.1) ∙ sym b.2

    defining_one : (m : ℕ) (x : Option Open) (d : D) (byte : ℕ) (y z : Decision K) → Defining m x d byte y → Defining m x d byte z → y ≡ z
    defining_one (suc m) x d byte y z a b = a ∙ sym b
    defining_one zero (Some t) d byte y z a b = a ∙ sym b
    defining_one zero None d byte y z a b = a.2 ∙ ap define_as (exact.defines s.catalog d a.0 b.0 a.1 b.1) ∙ sym b.2

    comes_one : (r : Reading D C Q) (y z : Decision K) → ((q : Q) (q' : Y) → r ≡ Asks q → J.checks s.catalog q (Fine q') → plain q' ≡ true) → Comes r y → Comes r z → y ≡ z
    comes_one (Unread kind byte) y z p a b = a ∙ sym b
    comes_one Begins y z p a b = a ∙ sym b
    comes_one Commits y z p a b = a ∙ sym b
    comes_one RollsBack y z p a b = a ∙ sym b
    comes_one (Defines d byte) y z p a b = defining_one n s.open_ d byte y z a b
    comes_one (Changes x) y z p a b = changing_one a.0 y z a.2 (subst (λ r. Changing r z) (sym (exact.resolves s.catalog x a.0 b.0 a.1 b.1)) b.2)
    comes_one (Asks q) y z p a b = asking_one a.0 y z (λ q' e. p q q' refl (subst (J.checks s.catalog q) e a.1)) a.2 (subst (λ r. Asking r z) (sym (exact.checks s.catalog q a.0 b.0 a.1 b.1)) b.2)
    comes_one (Waits name m i) y z p a b = a.1 ∙ sym b.1

    decides_one : (item : Item) (o o' : Outcome) (t t' : Session K) (a b : Limited) (x : Decides item o t a) (y : Decides item o' t' b) → ((q : Q) (q' : Y) → J.reads item (Asks q) → J.checks s.catalog q (Fine q') → plain q' ≡ true) → x.decision ≡ y.decision
    decides_one item o o' t t' a b x y p =
        let same : x.reading ≡ y.reading = exact.reads item x.reading y.reading x.reads y.reads in
        comes_one x.reading x.decision y.decision (λ q q' e. p q q' (subst (J.reads item) e x.reads)) x.comes (subst (λ r. Comes r y.decision) (sym same) y.comes)

-- TURNS

module _ {K D C Q X Y : Type 0} (J : Judges K D C Q X Y) (limit : ℕ) (script : Script) (plain : Y → Bool) (exact : IsExact J plain) (asks : AsksPlain J plain script) where
  abbrev Decided : World K → ℕ → Item → Outcome → Session K → Limited → Type 0
  Decided w n item o s writes = Decides J limit w.core (outs_of w.runs) n (session_at w n) item o s writes

  decided : (w w' : World K) (n : ℕ) (d : Did J limit script w n w') → Decided w n d.item d.outcome d.session d.writes
  decided w w' n d = judged_decides J limit w.core (outs_of w.runs) n (session_at w n) (seen_at w n) d.writes d.item d.outcome d.session d.judged

  did_one : (w w' w'' : World K) (n : ℕ) → Did J limit script w n w' → Did J limit script w n w'' → w' ≡ w''
  did_one w w' w'' n d e =
      let t : Option Open = (session_at w n).open_ in
      let last : Bool = is_last script w n in
      let same : d.item ≡ e.item = same_Some d.item e.item (sym d.next ∙ e.next) in
      let x = decided w w' n d in
      let y : Decided w n d.item e.outcome e.session e.writes = subst (λ i. Decided w n i e.outcome e.session e.writes) (sym same) (decided w w'' n e) in
      let z = decides_one J limit w.core (outs_of w.runs) n (session_at w n) plain exact d.item d.outcome e.outcome d.session e.session d.writes e.writes x y
      (λ q q' r. asks n (length (outs_of w.runs n)) d.item q w.catalog q' d.next r) in
      let o : d.outcome ≡ e.outcome = x.outcome ∙ ap (λ (k : Decision K). k.outcome) z ∙ sym y.outcome in
      let s : d.session ≡ e.session = x.session ∙ ap (λ (k : Decision K). k.session) z ∙ sym y.session in
      let tied : IsTied e.writes x.decision.writes d.outcome = subst (λ p. IsTied e.writes x.decision.writes p) (sym o) (subst (λ ws. IsTied e.writes ws e.outcome) (sym (ap (λ (k : Decision K). k.writes) z)) y.tied) in
      let es : events_of n t d.writes d.outcome ≡ events_of n t e.writes d.outcome = events_one n t d.writes e.writes x.decision.writes J.most_writes d.outcome d.limited e.limited x.tied tied in
      let all : item_events script w n d.writes d.outcome d.session.open_ ≡ item_events script w n e.writes e.outcome e.session.open_ =
      ap (λ l. l ++ (leaving n d.session.open_ last ++ marking n)) es ∙ (λ i. events_of n t e.writes (o i) ++ (leaving n (s i).open_ last ++ marking n)) in
      let core' : AfterItem (J.shapes d.session.catalog) limit w.core (item_events script w n d.writes d.outcome d.session.open_) d.outcome w''.core =
      subst (λ (k : Session K). AfterItem (J.shapes k.catalog) limit w.core (item_events script w n d.writes d.outcome d.session.open_) d.outcome w''.core) (sym s)
      (subst (λ l. AfterItem (J.shapes e.session.catalog) limit w.core l d.outcome w''.core) (sym all)
      (subst (λ p. AfterItem (J.shapes e.session.catalog) limit w.core (item_events script w n e.writes e.outcome e.session.open_) p w''.core) (sym o) e.core)) in
      let own : Each (IsOwn n) (item_events script w n d.writes d.outcome d.session.open_) = each_append (IsOwn n) (events_of n t d.writes d.outcome) (leaving n d.session.open_ last ++ marking n) (events_own (J.shapes w.catalog) limit n t d.writes d.outcome) (rest_own (J.shapes w.catalog) limit n d.session.open_ last) in
      let core : w'.core ≡ w''.core = after_one (J.shapes d.session.catalog) limit n (item_events script w n d.writes d.outcome d.session.open_) d.outcome w.core w'.core w''.core own d.core core' in
      let catalog : w'.catalog ≡ w''.catalog = d.catalog ∙ ap (λ (k : Session K). k.catalog) s ∙ sym e.catalog in
      let runs : w'.runs ≡ w''.runs = d.runs ∙ (λ i. slice_set w.runs n (record { outs = outs_of w.runs n ++ o i ∷ []; open_ = (s i).open_ })) ∙ sym e.runs in
      λ i. record { core = core i; catalog = catalog i; runs = runs i }

  -- a section that is idle answers nothing
  waits_met : (w w' : World K) (n : ℕ) (d : Did J limit script w n w') (name : List ℕ) (m i : ℕ) → J.reads d.item (Waits name m i) → HasAnswered (outs_of w.runs) m i
  waits_met w w' n d name m i r =
      let x = decided w w' n d in
      met x.decision (subst (λ q. Comes J limit w.core (outs_of w.runs) n (session_at w n) q x.decision) (exact.reads d.item x.reading (Waits name m i) x.reads r) x.comes) where
        met : (z : Decision K) → Comes J limit w.core (outs_of w.runs) n (session_at w n) (Waits name m i) z → HasAnswered (outs_of w.runs) m i
        met z a = a.0

  idle_not : (w w' : World K) (n : ℕ) → IsIdle J script w n → Did J limit script w n w' → ⊥
  idle_not w w' n (inl none) d = some_none (next_item script w n) d.item d.next none
  idle_not w w' n (inr h) d =
      let same : h.0 ≡ d.item = same_Some h.0 d.item (sym h.4 ∙ d.next) in
      let met = waits_met w w' n d h.1 h.2 h.3 (subst (λ i. J.reads i (Waits h.1 h.2 h.3)) same h.5) in
      omega (arith, met, h.6)

  turn_one : (w w' w'' : World K) (n : ℕ) → Turn J limit script w n w' → Turn J limit script w n w'' → w' ≡ w''
  turn_one w w' w'' n (inl a) (inl b) = a.1 ∙ sym b.1
  turn_one w w' w'' n (inl a) (inr e) = absurd (idle_not w w'' n a.0 e)
  turn_one w w' w'' n (inr d) (inl b) = absurd (idle_not w w' n b.0 d)
  turn_one w w' w'' n (inr d) (inr e) = did_one w w' w'' n d e

  turns_one : (ns : List ℕ) (w w' w'' : World K) → Turns J limit script w ns w' → Turns J limit script w ns w'' → w' ≡ w''
  turns_one [] w w' w'' a b = a ∙ sym b
  turns_one (n ∷ ns) w w' w'' a b =
      let same : a.0 ≡ b.0 = turn_one w a.0 b.0 n a.1 b.1 in
      turns_one ns a.0 w' w'' a.2 (subst (λ m. Turns J limit script m ns w'') (sym same) b.2)

-- the law, in any language
pub stepped_runs_are_one : {K D C Q X Y : Type 0} (J : Script → Judges K D C Q X Y) → SteppedRunsAreOne J
stepped_runs_are_one {K} J plain empty limit script t t' exact asks a b =
    let last : a.last ≡ b.last = turns_one (J script) limit script plain exact asks _ _ a.last b.last a.turns b.turns in
    let same : t ≡ t' = a.is_transcript ∙ ap (λ (w : World K). transcript_of (J script) script w) last ∙ sym b.is_transcript in
    (same, ap text_of same)
