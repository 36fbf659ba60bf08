-- A stepped run: turns of the sections over one core, each with no choice but which paths ANY takes.
use Rattle.std.specs.Prelude.{◌≡◌, ◌⊎◌, ◌==◌, ℕ, ◌+◌, ◌<◌, ◌≤◌, Bool, cond, List, [], ◌∷◌, ◌++◌, length, drop, replicate, get_or, slice_get, slice_set, is_some}
use Rattle.std.specs.declared.option.Option.{Option}
use Rattle.std.specs.declared.option.Option.TheVariants.{Some, None}
use Rattle.std.specs.Option.{unwrap_or}
use Rattle.pg_value.specs.declared.shape.Shapes.{Shapes}
use Rattle.pg_value.specs.declared.write.Commit.{Commit}
use Rattle.pg_value.specs.Log.{view, held, conflict, IsFull}
use Rattle.pg_value.specs.Writes.{Limited}
use Rattle.pg_script.specs.declared.script.Item.{Item}
use Rattle.pg_script.specs.declared.script.Section.{Section}
use Rattle.pg_script.specs.declared.script.Script.{Script}
use Rattle.pg_script.specs.declared.outcome.Outcome.{Outcome}
use Rattle.pg_script.specs.declared.outcome.Outcome.TheVariants.{Defined, Began, Changed, ChangedAlone, Committed, CommitEmpty, RolledBack, Rows, After, AtByte, AlreadyOpen, NotOpen, Duplicate, TooManyWrites, AtColumn, Conflict, LogFull}
use Rattle.pg_script.specs.declared.transcript.SectionOut.{SectionOut}
use Rattle.pg_script.specs.declared.transcript.Transcript.{Transcript}
use Rattle.pg_script.specs.Judged.{Judges, History, Session, Open, Judged, Waits}
use Rattle.pg_script.specs.Session.{raised}
use Rattle.pg_script.specs.Legal.{items_of, setup_of}
use Rattle.pg_core.specs.declared.event.Event.{Event}
use Rattle.pg_core.specs.declared.event.Event.TheVariants as events
use Rattle.pg_core.specs.Core.{Core, first_core, after_redefine, IsTaken, Steps}

-- the base under a statement of this section: its pin's, or the current one
abbrev pub base_of : Core → ℕ → ℕ
base_of c n = unwrap_or (get_or c.pins n None) c.base

-- THE WORLD

-- what a section has answered, and its open transaction
pub record Run : Type 0 where
  pub outs : List Outcome
  pub open_ : Option Open

abbrev pub no_run : Run
no_run = record { outs = []; open_ = None }

pub record World (K : Type 0) : Type 0 where
  pub core : Core
  pub catalog : K
  pub runs : List Run

abbrev pub outs_of : List Run → ℕ → List Outcome
outs_of runs n = (get_or runs n no_run).outs

abbrev pub session_at : {K : Type 0} → World K → ℕ → Session K
session_at w n = record { open_ = (get_or w.runs n no_run).open_; catalog = w.catalog }

-- what a section has seen when it begins
abbrev pub first_seen : List Commit → ℕ → ℕ
first_seen log n = cond (n == 0) 0 (setup_of log)

abbrev pub seen_at : {K : Type 0} → World K → ℕ → ℕ
seen_at w n = raised (first_seen w.core.log n) (outs_of w.runs n)

-- an AFTER is met where the other session has answered so many items
abbrev pub HasAnswered : (ℕ → List Outcome) → ℕ → ℕ → Type 0
HasAnswered outs m i = i ≤ length (outs m)

-- What an outcome rests on in a stepped run: the log so far leaves no choice. `writes` are those that the item commits, or would commit.
abbrev pub now : ℕ → Core → (ℕ → List Outcome) → Limited → ℕ → History
now limit core outs writes n = record {
  defines = λ seen at. at ≡ length core.log;
  starts = λ seen k. k ≡ length core.log;
  sees = λ k ws t. t ≡ view core.log k ws;
  logs = λ c commit. IsTaken limit core.log commit × (commit.writes ≡ writes) × (c ≡ length core.log + 1);
  conflicts = λ k ws write j. (ws ≡ writes.list) × (conflict core.log k ws ≡ Some (write, j));
  fills = λ seen k ws room. (ws ≡ writes.list) × (conflict core.log k ws ≡ None) × (room ≡ held core.log) × IsFull limit core.log ws;
  meets = λ seen m i at. HasAnswered outs m i × (at ≡ length core.log);
  bases = λ k base. base ≡ base_of core n;
}

-- ONE ITEM'S EVENTS

-- what a statement outside a transaction does stands between a start and an end of its own
abbrev pub alone : ℕ → Option Open → List Event → List Event
alone n None es = events.Pin n ∷ (es ++ events.Release n ∷ [])
alone n (Some t) es = es

-- a refused commit ends the transaction, or the statement outside one
abbrev pub refused_commit : ℕ → Option Open → List Event → List Event
refused_commit n None es = events.Pin n ∷ (es ++ events.Release n ∷ [])
refused_commit n (Some t) es = es ++ events.Release n ∷ []

-- The events of section n's item by its outcome, t being the transaction that was open before it, and these the writes that it commits, or would
-- commit: a start is a pin; a commit with writes is a commit; the end of a transaction, or of a statement outside one, is a release.
abbrev pub events_of : ℕ → Option Open → Limited → Outcome → List Event
events_of n t writes (Defined name at) = []
events_of n t writes (Began at) = events.Pin n ∷ []
events_of n t writes (Changed rows at) = alone n t []
events_of n t writes (ChangedAlone rows from at) = events.Pin n ∷ events.Commit n from writes ∷ events.Release n ∷ []
events_of n t writes (Committed from at) = events.Commit n from writes ∷ events.Release n ∷ []
events_of n t writes (CommitEmpty at) = events.Release n ∷ []
events_of n t writes (RolledBack at) = events.Release n ∷ []
events_of n t writes (Rows at base names rows) = alone n t []
events_of n t writes (After name i at) = []
events_of n t writes (AtByte kind byte) = []
events_of n t writes AlreadyOpen = []
events_of n t writes NotOpen = []
events_of n t writes (Duplicate row at) = alone n t []
events_of n t writes (TooManyWrites row at) = alone n t []
events_of n t writes (AtColumn kind row column at) = alone n t []
events_of n t writes (Conflict table key from at) = refused_commit n t (events.Commit n from writes ∷ [])
events_of n t writes (LogFull from room) = refused_commit n t (events.Commit n from writes ∷ [])

-- a transaction that is left open by its section's last item ends with that item
abbrev pub leaving : ℕ → Option Open → Bool → List Event
leaving n None last = []
leaving n (Some t) last = cond last (events.Release n ∷ []) []

-- every finished item of a session ends with a mark
abbrev pub marking : ℕ → List Event
marking n = cond (n == 0) [] (events.Mark n ∷ [])

-- The core after an item with these events. An accepted definition is none: it folds everything to a base at the head.
abbrev pub AfterItem : Shapes → ℕ → Core → List Event → Outcome → Core → Type 0
AfterItem shapes limit old es (Defined name at) new = new ≡ after_redefine old
AfterItem shapes limit old es o new = Steps shapes limit old es new

abbrev pub next_item : {K : Type 0} → Script → World K → ℕ → Option Item
next_item script w n = slice_get (items_of script n) (length (outs_of w.runs n))

-- section n's next item is its last
abbrev pub is_last : {K : Type 0} → Script → World K → ℕ → Bool
is_last script w n = length (outs_of w.runs n) + 1 == length (items_of script n)

-- all events of section n's next item, which answers so and leaves this transaction
abbrev pub item_events : {K : Type 0} → Script → World K → ℕ → Limited → Outcome → Option Open → List Event
item_events script w n writes o left = events_of n (session_at w n).open_ writes o ++ (leaving n left (is_last script w n) ++ marking n)

-- section n answered its next item, as the table says of the log so far
pub record Did {K D C Q X Y : Type 0} (J : Judges K D C Q X Y) (limit : ℕ) (script : Script) (w : World K) (n : ℕ) (w' : World K) : Type 0 where
  pub item : Item
  pub outcome : Outcome
  pub writes : Limited
  pub limited : writes.limit ≡ J.most_writes
  pub session : Session K
  pub next : next_item script w n ≡ Some item
  pub judged : Judged J (now limit w.core (outs_of w.runs) writes n) n (seen_at w n) (session_at w n) item outcome session
  pub core : AfterItem (J.shapes session.catalog) limit w.core (item_events script w n writes outcome session.open_) outcome w'.core
  pub catalog : w'.catalog ≡ session.catalog
  pub runs : w'.runs ≡ slice_set w.runs n (record { outs = outs_of w.runs n ++ outcome ∷ []; open_ = session.open_ })

-- section n is finished, or waits for items that are not finished
abbrev pub IsIdle : {K D C Q X Y : Type 0} → Judges K D C Q X Y → Script → World K → ℕ → Type 0
IsIdle J script w n =
    (next_item script w n ≡ None)
    ⊎ ((item : Item) × (name : List ℕ) × (m : ℕ) × (i : ℕ) × (next_item script w n ≡ Some item) × J.reads item (Waits name m i) × (length (outs_of w.runs m) < i))

-- a turn of a section that is idle does nothing
abbrev pub Turn : {K D C Q X Y : Type 0} → Judges K D C Q X Y → ℕ → Script → World K → ℕ → World K → Type 0
Turn J limit script w n w' = (IsIdle J script w n × (w' ≡ w)) ⊎ Did J limit script w n w'

abbrev pub Turns : {K D C Q X Y : Type 0} → Judges K D C Q X Y → ℕ → Script → World K → List ℕ → World K → Type 0
Turns J limit script w [] w' = w' ≡ w
Turns {K} J limit script w (n ∷ ns) w' = (m : World K) × Turn J limit script w n m × Turns J limit script m ns w'

-- THE WHOLE RUN

-- each section, numbered from n, to its end
abbrev pub run_out : ℕ → List Section → List ℕ
run_out n [] = []
run_out n (s ∷ sections) = replicate (length s.items) n ++ run_out (n + 1) sections

abbrev pub setup_turns : Script → List ℕ
setup_turns script = replicate (length (items_of script 0)) 0

abbrev pub last_turns : Script → List ℕ
last_turns script = run_out 1 (drop 1 script.sections)

-- before the first turn, with so many seats
abbrev pub first_world : {K : Type 0} → Script → K → ℕ → World K
first_world script catalog seats = record {
  core = first_core seats (length script.sections);
  catalog = catalog;
  runs = replicate (length script.sections) no_run;
}

-- what the sections print
abbrev pub section_outs : List Section → List Run → List SectionOut
section_outs [] runs = []
section_outs (s ∷ sections) [] = []
section_outs (s ∷ sections) (r ∷ runs) = record { name = s.name; outcomes = r.outs; rolled_back = is_some r.open_ } ∷ section_outs sections runs

-- a world's transcript
abbrev pub transcript_of : {K D C Q X Y : Type 0} → Judges K D C Q X Y → Script → World K → Transcript
transcript_of J script w = record {
  has_setup = script.has_setup;
  sections = section_outs script.sections w.runs;
  tables = J.tables w.catalog;
  log = w.core.log;
  peak = w.core.peak;
}

-- a seat for each section, and one more
abbrev pub seats_of : Script → ℕ
seats_of script = length script.sections + 1

-- the setup's items, then the order, then each section in file order to its end
pub record Stepped {K D C Q X Y : Type 0} (J : Judges K D C Q X Y) (empty : K) (limit : ℕ) (script : Script) (t : Transcript) : Type 0 where
  pub last : World K
  pub turns : Turns J limit script (first_world script empty (seats_of script)) (setup_turns script ++ (script.order ++ last_turns script)) last
  pub is_transcript : t ≡ transcript_of J script last

-- WHAT A SCRIPT'S SECTIONS KEEP

-- these turns are sessions'
abbrev pub AreSessionTurns : List ℕ → Type 0
AreSessionTurns [] = Unit {0}
AreSessionTurns (n ∷ ns) = (n ≡ 0 → ⊥) × AreSessionTurns ns

-- a wait names an earlier section and one of its items
abbrev pub Earlier : {K D C Q X Y : Type 0} → Judges K D C Q X Y → Script → Type 0
Earlier J script = (n k : ℕ) (name : List ℕ) (m i : ℕ) (item : Item) → slice_get (items_of script n) k ≡ Some item → J.reads item (Waits name m i) → (m < n) × (i ≤ length (items_of script m))
