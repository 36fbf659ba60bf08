-- The table of outcomes follows what it rests on: what one history lets an outcome say, a history that allows as much does too.
use Rattle.std.proofs.Common.{◌≡◌, ℕ, List, [], ◌∷◌, ◌⊎◌, inl, inr, refl, sym, ap, ◌∙◌}
use Rattle.std.specs.declared.option.Option.TheVariants.{Some, None}
use Rattle.pg_value.specs.declared.write.Write.{Write}
use Rattle.pg_value.specs.declared.write.Commit.{Commit}
use Rattle.pg_value.specs.Tables.{Tables}
use Rattle.pg_value.specs.Writes.{Limited}
use Rattle.pg_script.specs.declared.script.Item.{Item}
use Rattle.pg_script.specs.declared.outcome.Outcome.{Outcome}
use Rattle.pg_script.specs.declared.outcome.Outcome.TheVariants.{Defined, Began, Changed, ChangedAlone, Committed, CommitEmpty, RolledBack, Rows, After, AtByte, AlreadyOpen, NotOpen, Duplicate, TooManyWrites, AtColumn, Conflict, LogFull}
use Rattle.pg_script.specs.Judged.{Judges, History, Session, Open, Judged, View, InTransaction, AtStart, WorksOn, Ends, logged, conflicted, filled, unread, already_open, begun, commit_not_open, rollback_not_open, rolled_back, commit_empty, committed, defines_in_session, defines_in_transaction, define_fault, defined, change_fault, change_stopped, changed, changed_none, changed_alone, query_fault, answered, waited}

-- the version of the open transaction, or one that a start may fix
abbrev pub IsFrom : {K : Type 0} → History → ℕ → Session K → ℕ → Type 0
IsFrom h seen s k = ((t : Open) × (s.open_ ≡ Some t) × (t.from ≡ k)) ⊎ ((s.open_ ≡ None) × h.starts seen k)

-- the commit that an outcome adds to the log, with these writes
abbrev pub adds : ℕ → Limited → Outcome → List Commit
adds n writes (Defined name at) = []
adds n writes (Began at) = []
adds n writes (Changed rows at) = []
adds n writes (ChangedAlone rows from at) = record { session = n; from = from; writes = writes } ∷ []
adds n writes (Committed from at) = record { session = n; from = from; writes = writes } ∷ []
adds n writes (CommitEmpty at) = []
adds n writes (RolledBack at) = []
adds n writes (Rows at base names rows) = []
adds n writes (After name i at) = []
adds n writes (AtByte kind byte) = []
adds n writes AlreadyOpen = []
adds n writes NotOpen = []
adds n writes (Duplicate row at) = []
adds n writes (TooManyWrites row at) = []
adds n writes (AtColumn kind row column at) = []
adds n writes (Conflict table key from at) = []
adds n writes (LogFull from room) = []

-- what the first history lets this outcome of the session say, the second does
pub record Within {K : Type 0} (n seen : ℕ) (s : Session K) (o : Outcome) (h h' : History) : Type 0 where
  pub starts : (k : ℕ) → s.open_ ≡ None → h.starts seen k → h'.starts seen k
  pub defines : (at : ℕ) → n ≡ 0 → h.defines seen at → h'.defines seen at
  pub sees : (k : ℕ) (ws : List Write) (t : Tables) → IsFrom h seen s k → h.sees k ws t → h'.sees k ws t
  pub logs : (c k : ℕ) (commit : Commit) → IsFrom h seen s k → adds n commit.writes o ≡ commit ∷ [] → h.logs c commit → h'.logs c commit
  pub conflicts : (k : ℕ) (ws : List Write) (w : Write) (j : ℕ) → IsFrom h seen s k → h.conflicts k ws w j → h'.conflicts k ws w j
  pub fills : (k : ℕ) (ws : List Write) (room : ℕ) → IsFrom h seen s k → h.fills seen k ws room → h'.fills seen k ws room
  pub meets : (m i at : ℕ) → h.meets seen m i at → h'.meets seen m i at
  pub bases : (k base : ℕ) → IsFrom h seen s k → h.bases k base → h'.bases k base

module _ {K : Type 0} {n seen : ℕ} {s : Session K} {o : Outcome} {h h' : History} (g : Within n seen s o h h') where
  ends_within : (tables : List (List ℕ)) (k : ℕ) (ws : List Write) (accepted : ℕ → Outcome) → IsFrom h seen s k → ((c : ℕ) (writes : Limited) → adds n writes (accepted c) ≡ record { session = n; from = k; writes = writes } ∷ [])
      → Ends h tables n seen k ws accepted o → Ends h' tables n seen k ws accepted o
  ends_within tables k ws accepted f a (logged c commit l i e) = logged c commit
      (g.logs c k commit f (ap (adds n commit.writes) e ∙ a c commit.writes ∙ (λ j. record { session = sym i.session j; from = sym i.from j; writes = commit.writes } ∷ [])) l) i e
  ends_within tables k ws accepted f a (conflicted w j l e) = conflicted w j (g.conflicts k ws w j f l) e
  ends_within tables k ws accepted f a (filled room l e) = filled room (g.fills k ws room f l) e

  in_from : (v : View) → InTransaction h s v → IsFrom h seen s v.from
  in_from v a = inl (record { from = v.from; writes = v.writes }, a.under, refl)

  start_from : (v : View) → AtStart h seen s v → IsFrom h seen s v.from
  start_from v a = inr (a.closed, a.starts)

  works_from : (v : View) → WorksOn h seen s v → IsFrom h seen s v.from
  works_from v (inl a) = in_from v a
  works_from v (inr a) = start_from v a

  in_within : (v : View) → InTransaction h s v → InTransaction h' s v
  in_within v a = record { under = a.under; sees = g.sees v.from v.writes v.tables (in_from v a) a.sees }

  start_within : (v : View) → AtStart h seen s v → AtStart h' seen s v
  start_within v a = record { closed = a.closed; starts = g.starts v.from a.closed a.starts; unwritten = a.unwritten; sees = g.sees v.from v.writes v.tables (start_from v a) a.sees }

  works_within : (v : View) → WorksOn h seen s v → WorksOn h' seen s v
  works_within v (inl a) = inl (in_within v a)
  works_within v (inr a) = inr (start_within v a)

  pub judged_within : {D C Q X Y : Type 0} (J : Judges K D C Q X Y) (item : Item) (s' : Session K) → Judged J h n seen s item o s' → Judged J h' n seen s item o s'
  judged_within J item s' (unread k b r e f) = unread k b r e f
  judged_within J item s' (already_open t r p e f) = already_open t r p e f
  judged_within J item s' (begun k r p q e f) = begun k r p (g.starts k p q) e f
  judged_within J item s' (commit_not_open r p e f) = commit_not_open r p e f
  judged_within J item s' (rollback_not_open r p e f) = rollback_not_open r p e f
  judged_within J item s' (rolled_back t r p e f) = rolled_back t r p e f
  judged_within J item s' (commit_empty k r p e f) = commit_empty k r p e f
  judged_within J item s' (committed t r p q e f) = committed t r p q (ends_within (J.tables s.catalog) t.from t.writes (Committed t.from) (inl (t, p, refl)) (λ c ws. refl) e) f
  judged_within J item s' (defines_in_session d b r p e f) = defines_in_session d b r p e f
  judged_within J item s' (defines_in_transaction d b t r p q e f) = defines_in_transaction d b t r p q e f
  judged_within J item s' (define_fault d b k at r p q u e f) = define_fault d b k at r p q u e f
  judged_within J item s' (defined d b name at c r p q u v e f) = defined d b name at c r p q u (g.defines at p v) e f
  judged_within J item s' (change_fault c k at r p e f) = change_fault c k at r p e f
  judged_within J item s' (change_stopped c x v row r p u a e f) = change_stopped c x v row r p (works_within v u) a e f
  judged_within J item s' (changed c x v rows ws r p u a e f) = changed c x v rows ws r p (in_within v u) a e f
  judged_within J item s' (changed_none c x v ws r p u a e f) = changed_none c x v ws r p (start_within v u) a e f
  judged_within J item s' (changed_alone c x v rows ws r p u a z e f) = changed_alone c x v rows ws r p (start_within v u) a z (ends_within (J.tables s.catalog) v.from ws (ChangedAlone rows v.from) (start_from v u) (λ c ws. refl) e) f
  judged_within J item s' (query_fault q k at r p e f) = query_fault q k at r p e f
  judged_within J item s' (answered q y v base rows r p u a b e f) = answered q y v base rows r p (works_within v u) a (g.bases v.from base (works_from v u) b) e f
  judged_within J item s' (waited x m i at r p e f) = waited x m i at r (g.meets m i at p) e f
