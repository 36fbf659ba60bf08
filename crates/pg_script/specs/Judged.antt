-- What an item of a section may answer: the table of outcomes, stated once for every way of running a script.
use Rattle.std.specs.Prelude.{◌≡◌, ◌⊎◌, ℕ, ◌<◌, List, []}
use Rattle.std.specs.declared.option.Option.{Option}
use Rattle.std.specs.declared.option.Option.TheVariants.{Some, None}
use Rattle.pg_value.specs.declared.row.Row.{Row}
use Rattle.pg_value.specs.declared.shape.Shapes.{Shapes}
use Rattle.pg_value.specs.declared.write.Write.{Write}
use Rattle.pg_value.specs.declared.write.Commit.{Commit}
use Rattle.pg_value.specs.Tables.{Tables}
use Rattle.pg_script.specs.declared.script.Item.{Item}
use Rattle.pg_script.specs.declared.outcome.FaultKind.{FaultKind}
use Rattle.pg_script.specs.declared.outcome.FaultKind.TheVariants.{DefinitionInSession, DefinitionInTransaction}
use Rattle.pg_script.specs.declared.outcome.ColumnFault.{ColumnFault}
use Rattle.pg_script.specs.declared.outcome.Outcome.{Outcome}
use Rattle.pg_script.specs.declared.outcome.Outcome.TheVariants.{Defined, Began, Changed, ChangedAlone, Committed, CommitEmpty, RolledBack, Rows, After, AtByte, AlreadyOpen, NotOpen, Duplicate, TooManyWrites, AtColumn, Conflict, LogFull}
use Rattle.pg_script.specs.Text.{name_at}

-- WHAT A LANGUAGE SAYS OF ITS STATEMENTS

-- what an item says, over definitions D, changes C and queries Q as they are written
pub data Reading (D C Q : Type 0) : Type 0 where
  Unread : (kind : FaultKind) (byte : ℕ) → Reading D C Q
  Begins : Reading D C Q
  Commits : Reading D C Q
  RollsBack : Reading D C Q
  Defines : (d : D) (byte : ℕ) → Reading D C Q
  Changes : (c : C) → Reading D C Q
  Asks : (q : Q) → Reading D C Q
  Waits : (name : List ℕ) (m i : ℕ) → Reading D C Q

-- what the catalog says of a definition, a change or a query: its first fault and where it stands, or what it means
pub data Ruling (X : Type 0) : Type 0 where
  Faulty : (kind : FaultKind) (byte : ℕ) → Ruling X
  Fine : (x : X) → Ruling X

-- why a row of a change is refused
pub data Refusal : Type 0 where
  IsDuplicate : (row : ℕ) → Refusal
  IsTooMany : (row : ℕ) → Refusal
  IsAtColumn : (kind : ColumnFault) (row : ℕ) (column : List ℕ) → Refusal

-- what a change does to the writes: the refusal of its first faulty row, or the writes then and how many rows it changed
pub data Effect : Type 0 where
  Stopped : (refusal : Refusal) → Effect
  Done : (writes : List Write) (rows : ℕ) → Effect

-- what a query answers: its rows, in the order in which they are printed
pub data Found : Type 0 where
  Listed : (rows : List Row) → Found

-- What a language says of its statements, over catalogs K. C and Q are changes and queries as written, X and Y as checked.
-- `affects` speaks of the tables under the transaction's writes, and of these writes; `answers` of such tables.
pub record Judges (K D C Q X Y : Type 0) : Type 1 where
  pub reads : Item → Reading D C Q → Type 0
  pub defines : K → D → Ruling (List ℕ × K) → Type 0
  pub resolves : K → C → Ruling X → Type 0
  pub checks : K → Q → Ruling Y → Type 0
  pub affects : K → Tables → List Write → X → Effect → Type 0
  pub answers : K → Tables → Y → Found → Type 0
  pub columns : Y → List (List ℕ)
  -- the names of a catalog's tables, and their shapes
  pub tables : K → List (List ℕ)
  pub shapes : K → Shapes
  -- how many writes a transaction may have, which is the limit that its commit's writes carry
  pub most_writes : ℕ

-- WHAT AN OUTCOME MAY REST ON

-- the log, and what other sections have answered
pub record History : Type 1 where
  -- having seen so many commits, a start may fix this version
  pub starts : ℕ → ℕ → Type 0
  -- having seen so many commits, a definition is accepted at this length
  pub defines : ℕ → ℕ → Type 0
  -- these are the tables of this version under these writes
  pub sees : ℕ → List Write → Tables → Type 0
  -- the commit of this number is this one
  pub logs : ℕ → Commit → Type 0
  -- from this version these writes meet this conflict: the first write that conflicts, and the commit that it meets
  pub conflicts : ℕ → List Write → Write → ℕ → Type 0
  -- having seen so many commits, from this version, these writes find the log full with so many held
  pub fills : ℕ → ℕ → List Write → ℕ → Type 0
  -- having seen so many commits, the session m is found past its i-th item at this length
  pub meets : ℕ → ℕ → ℕ → ℕ → Type 0
  -- a version may be read over this base
  pub bases : ℕ → ℕ → Type 0

-- an open transaction: its version and its writes
pub record Open : Type 0 where
  pub from : ℕ
  pub writes : List Write

-- a section between two items: its open transaction, and the catalog by which its next item is judged
pub record Session (K : Type 0) : Type 0 where
  pub open_ : Option Open
  pub catalog : K

-- what a statement works on: a version, the writes that are put on it, and the tables then
pub record View : Type 0 where
  pub from : ℕ
  pub writes : List Write
  pub tables : Tables

-- the view of the open transaction
pub record InTransaction {K : Type 0} (h : History) (s : Session K) (v : View) : Type 0 where
  pub under : s.open_ ≡ Some (record { from = v.from; writes = v.writes })
  pub sees : h.sees v.from v.writes v.tables

-- the view of a statement outside a transaction: that of a start of its own, without writes
pub record AtStart {K : Type 0} (h : History) (seen : ℕ) (s : Session K) (v : View) : Type 0 where
  pub closed : s.open_ ≡ None
  pub starts : h.starts seen v.from
  pub unwritten : v.writes ≡ []
  pub sees : h.sees v.from v.writes v.tables

-- the view that a statement works on
abbrev pub WorksOn : {K : Type 0} → History → ℕ → Session K → View → Type 0
WorksOn h seen s v = InTransaction h s v ⊎ AtStart h seen s v

-- the commit is of this section, from this version, with these writes
pub record IsCommit (commit : Commit) (n k : ℕ) (ws : List Write) : Type 0 where
  pub session : commit.session ≡ n
  pub from : commit.from ≡ k
  pub writes : commit.writes.list ≡ ws

-- How a commit of writes over version k comes out: it is in the log, it met a conflict, or it found the log full.
-- (Two updates of one row from one version: the second prints `refused Conflict`. Two of different rows: both commit.)
pub data Ends (h : History) (tables : List (List ℕ)) (n seen k : ℕ) (ws : List Write) (accepted : ℕ → Outcome) (o : Outcome) : Type 0 where
  logged : (c : ℕ) (commit : Commit)
      → h.logs c commit
      → IsCommit commit n k ws
      → o ≡ accepted c
      → Ends h tables n seen k ws accepted o
  conflicted : (w : Write) (j : ℕ)
      → h.conflicts k ws w j
      → o ≡ Conflict (name_at tables w.table.0) w.key k j
      → Ends h tables n seen k ws accepted o
  filled : (room : ℕ)
      → h.fills seen k ws room
      → o ≡ LogFull k room
      → Ends h tables n seen k ws accepted o

-- a refusal of a row, over version k
abbrev pub refused : Refusal → ℕ → Outcome
refused (IsDuplicate row) k = Duplicate row k
refused (IsTooMany row) k = TooManyWrites row k
refused (IsAtColumn kind row column) k = AtColumn kind row column k

-- the session with this transaction open, or with none
abbrev pub with_open : {K : Type 0} → Session K → Option Open → Session K
with_open s t = record s { open_ = t }

-- THE TABLE: after so many commits seen, the item of section n may answer o and leave the session as s'. Each row has a premise a line, and at its
-- end what is answered and what is left.
pub data Judged {K D C Q X Y : Type 0} (J : Judges K D C Q X Y) (h : History) (n seen : ℕ) (s : Session K) (item : Item) (o : Outcome) (s' : Session K) : Type 0 where
  -- no statement
  unread : (kind : FaultKind) (byte : ℕ)
      → J.reads item (Unread kind byte)
      → o ≡ AtByte kind byte
      → s' ≡ s
      → Judged J h n seen s item o s'
  -- BEGIN
  already_open : (t : Open)
      → J.reads item Begins
      → s.open_ ≡ Some t
      → o ≡ AlreadyOpen
      → s' ≡ s
      → Judged J h n seen s item o s'
  begun : (k : ℕ)
      → J.reads item Begins
      → s.open_ ≡ None
      → h.starts seen k
      → o ≡ Began k
      → s' ≡ with_open s (Some (record { from = k; writes = [] }))
      → Judged J h n seen s item o s'
  -- COMMIT and ROLLBACK
  commit_not_open :
      J.reads item Commits
      → s.open_ ≡ None
      → o ≡ NotOpen
      → s' ≡ s
      → Judged J h n seen s item o s'
  rollback_not_open :
      J.reads item RollsBack
      → s.open_ ≡ None
      → o ≡ NotOpen
      → s' ≡ s
      → Judged J h n seen s item o s'
  rolled_back : (t : Open)
      → J.reads item RollsBack
      → s.open_ ≡ Some t
      → o ≡ RolledBack t.from
      → s' ≡ with_open s None
      → Judged J h n seen s item o s'
  commit_empty : (k : ℕ)
      → J.reads item Commits
      → s.open_ ≡ Some (record { from = k; writes = [] })
      → o ≡ CommitEmpty k
      → s' ≡ with_open s None
      → Judged J h n seen s item o s'
  committed : (t : Open)
      → J.reads item Commits
      → s.open_ ≡ Some t
      → (t.writes ≡ [] → ⊥)
      → Ends h (J.tables s.catalog) n seen t.from t.writes (Committed t.from) o
      → s' ≡ with_open s None
      → Judged J h n seen s item o s'
  -- definitions, which the setup alone may make, outside a transaction
  defines_in_session : (d : D) (byte : ℕ)
      → J.reads item (Defines d byte)
      → (n ≡ 0 → ⊥)
      → o ≡ AtByte DefinitionInSession byte
      → s' ≡ s
      → Judged J h n seen s item o s'
  defines_in_transaction : (d : D) (byte : ℕ) (t : Open)
      → J.reads item (Defines d byte)
      → n ≡ 0
      → s.open_ ≡ Some t
      → o ≡ AtByte DefinitionInTransaction byte
      → s' ≡ s
      → Judged J h n seen s item o s'
  define_fault : (d : D) (byte : ℕ) (kind : FaultKind) (at : ℕ)
      → J.reads item (Defines d byte)
      → n ≡ 0
      → s.open_ ≡ None
      → J.defines s.catalog d (Faulty kind at)
      → o ≡ AtByte kind at
      → s' ≡ s
      → Judged J h n seen s item o s'
  defined : (d : D) (byte : ℕ) (name : List ℕ) (at : ℕ) (catalog : K)
      → J.reads item (Defines d byte)
      → n ≡ 0
      → s.open_ ≡ None
      → J.defines s.catalog d (Fine (name, catalog))
      → h.defines seen at
      → o ≡ Defined name at
      → s' ≡ record s { catalog = catalog }
      → Judged J h n seen s item o s'
  -- changes: refused before a start, refused at a row, in a transaction, and outside one without and with rows
  change_fault : (c : C) (kind : FaultKind) (at : ℕ)
      → J.reads item (Changes c)
      → J.resolves s.catalog c (Faulty kind at)
      → o ≡ AtByte kind at
      → s' ≡ s
      → Judged J h n seen s item o s'
  change_stopped : (c : C) (x : X) (v : View) (refusal : Refusal)
      → J.reads item (Changes c)
      → J.resolves s.catalog c (Fine x)
      → WorksOn h seen s v
      → J.affects s.catalog v.tables v.writes x (Stopped refusal)
      → o ≡ refused refusal v.from
      → s' ≡ s
      → Judged J h n seen s item o s'
  changed : (c : C) (x : X) (v : View) (rows : ℕ) (ws : List Write)
      → J.reads item (Changes c)
      → J.resolves s.catalog c (Fine x)
      → InTransaction h s v
      → J.affects s.catalog v.tables v.writes x (Done ws rows)
      → o ≡ Changed rows v.from
      → s' ≡ with_open s (Some (record { from = v.from; writes = ws }))
      → Judged J h n seen s item o s'
  changed_none : (c : C) (x : X) (v : View) (ws : List Write)
      → J.reads item (Changes c)
      → J.resolves s.catalog c (Fine x)
      → AtStart h seen s v
      → J.affects s.catalog v.tables v.writes x (Done ws 0)
      → o ≡ Changed 0 v.from
      → s' ≡ s
      → Judged J h n seen s item o s'
  changed_alone : (c : C) (x : X) (v : View) (rows : ℕ) (ws : List Write)
      → J.reads item (Changes c)
      → J.resolves s.catalog c (Fine x)
      → AtStart h seen s v
      → J.affects s.catalog v.tables v.writes x (Done ws rows)
      → 0 < rows
      → Ends h (J.tables s.catalog) n seen v.from ws (ChangedAlone rows v.from) o
      → s' ≡ s
      → Judged J h n seen s item o s'
  -- queries: over one version, under the transaction's own writes
  query_fault : (q : Q) (kind : FaultKind) (at : ℕ)
      → J.reads item (Asks q)
      → J.checks s.catalog q (Faulty kind at)
      → o ≡ AtByte kind at
      → s' ≡ s
      → Judged J h n seen s item o s'
  answered : (q : Q) (y : Y) (v : View) (base : ℕ) (rows : List Row)
      → J.reads item (Asks q)
      → J.checks s.catalog q (Fine y)
      → WorksOn h seen s v
      → J.answers s.catalog v.tables y (Listed rows)
      → h.bases v.from base
      → o ≡ Rows v.from base (J.columns y) rows
      → s' ≡ s
      → Judged J h n seen s item o s'
  -- AFTER
  waited : (name : List ℕ) (m i at : ℕ)
      → J.reads item (Waits name m i)
      → h.meets seen m i at
      → o ≡ After name i at
      → s' ≡ s
      → Judged J h n seen s item o s'
