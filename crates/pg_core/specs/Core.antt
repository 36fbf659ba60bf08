-- The core, as plain data: the log, the bases that are kept and pinned, and the steps that change them.
use Rattle.std.specs.Prelude.{◌≡◌, ◌==◌, ◌≤◌, ◌<◌, ℕ, ◌+◌, ◌-◌, ◌^◌, Bool, true, false, cond, List, [], ◌∷◌, ◌++◌, length, get_or, slice_set, replicate, ◌||◌, nat_lt, is_some}
use Rattle.std.specs.declared.option.Option.{Option}
use Rattle.std.specs.declared.option.Option.TheVariants.{Some, None}
use Rattle.pg_value.specs.declared.shape.Shapes.{Shapes}
use Rattle.pg_value.specs.declared.write.Write.{Write}
use Rattle.pg_value.specs.declared.write.Commit.{Commit}
use Rattle.pg_value.specs.Tables.{FitWrites}
use Rattle.pg_value.specs.Writes.{Limited, IsInOrder}
use Rattle.pg_value.specs.Log.{held, conflict, IsFull}
use Rattle.pg_pins.specs.Held.{pinned_numbers, distinct}
use Rattle.pg_core.specs.declared.event.Event.{Event}
use Rattle.pg_core.specs.declared.event.Event.TheVariants as events
use Rattle.pg_core.specs.declared.event.Reply.{Reply}
pub use Rattle.pg_core.specs.declared.event.Build.{Build}
use Rattle.pg_core.specs.declared.event.Reply.TheVariants as replies

-- The log; the version of the current base; for each seat the base that it has pinned; the open build; for each session how
-- many items it has finished, and whether it has ended; whether the run has stopped; and the peak: the greatest number of
-- kept versions, with the number of pins at its first moment.
pub record Core : Type 0 where
  pub log : List Commit
  pub base : ℕ
  pub pins : List (Option ℕ)
  pub build : Option Build
  pub counts : List ℕ
  pub ended : List Bool
  pub stopped : Bool
  pub peak : ℕ × ℕ

-- how many seats have a pin
abbrev pub pin_count : List (Option ℕ) → ℕ
pin_count pins = length (pinned_numbers pins)

-- the bases that are listed: the distinct ones of the current base and the pinned ones
abbrev pub listed : Core → List ℕ
listed c = distinct (c.base ∷ pinned_numbers c.pins)

-- how many bases are kept: those that are listed, and one more while a build is open
abbrev pub kept : Core → ℕ
kept c = length (listed c) + cond (is_some c.build) 1 0

-- the peak after a moment: raised where more is kept than ever
abbrev pub seen_peak : Core → Core
seen_peak c = record c { peak = cond (nat_lt c.peak.0 (kept c)) (kept c, pin_count c.pins) c.peak }

abbrev pub pin_of : Core → ℕ → Option ℕ
pin_of c seat = get_or c.pins seat None

-- a seat pins the current base
abbrev pub after_pin : Core → ℕ → Core
after_pin c seat = seen_peak (record c { pins = slice_set c.pins seat (Some c.base) })

-- a seat's pin goes; where it has none nothing changes
abbrev pub after_release : Core → ℕ → Core
after_release c seat = seen_peak (record c { pins = slice_set c.pins seat None })

-- how many versions may stand over a base
abbrev pub most_over_base : ℕ
most_over_base = 256

-- the current base after a commit at this length: a commit that finds as many versions over the base as may be first folds them to a new one
abbrev pub base_after : ℕ → ℕ → ℕ
base_after base length_before = cond (length_before - base == most_over_base) length_before base

abbrev pub after_commit : Core → Commit → Core
after_commit c commit = seen_peak (record c { log = c.log ++ commit ∷ []; base = base_after c.base (length c.log) })

-- a session has finished one more item
abbrev pub after_mark : Core → ℕ → Core
after_mark c session = seen_peak (record c { counts = slice_set c.counts session (get_or c.counts session 0 + 1) })

-- an accepted definition folds everything to a base at the head
abbrev pub after_redefine : Core → Core
after_redefine c = seen_peak (record c { base = length c.log })

abbrev pub after_fold : Core → ℕ → Core
after_fold c seat = seen_peak (record c { pins = slice_set c.pins seat (Some c.base); build = Some (record { seat = seat; base = c.base; at = length c.log }) })

-- a build ends, and its seat's pin goes; a build that is installed makes its version the current base
abbrev pub after_abandon : Core → Build → Core
after_abandon c b = seen_peak (record c { pins = slice_set c.pins b.seat None; build = None })

abbrev pub after_install : Core → Build → Core
after_install c b = seen_peak (record c { base = b.at; pins = slice_set c.pins b.seat None; build = None })

-- no build, or another seat's
abbrev pub IsNotBuilding : Core → ℕ → Type 0
IsNotBuilding c seat = (b : Build) → c.build ≡ Some b → b.seat ≡ seat → ⊥

-- WHETHER A COMMIT IS TAKEN

-- it had read a version that there is, it writes something, no commit since wrote a row that it writes, and the log has room for it
pub record IsTaken (limit : ℕ) (log : List Commit) (commit : Commit) : Type 0 where
  pub before : commit.from ≤ length log
  pub some : commit.writes.list ≡ [] → ⊥
  pub free : conflict log commit.from commit.writes.list ≡ None
  pub room : held log + length commit.writes.list ≤ limit

-- how the core answers a commit: conflict first, then a full log, else it is taken
pub data CommitAnswers (limit : ℕ) (old : Core) (commit : Commit) (reply : Reply) (new : Core) : Type 0 where
  conflicts : (w : Write) (at : ℕ)
      → conflict old.log commit.from commit.writes.list ≡ Some (w, at)
      → reply ≡ replies.Conflict w.table w.key at
      → new ≡ old
      → CommitAnswers limit old commit reply new
  fills :
      conflict old.log commit.from commit.writes.list ≡ None
      → IsFull limit old.log commit.writes.list
      → reply ≡ replies.LogFull (held old.log)
      → new ≡ old
      → CommitAnswers limit old commit reply new
  takes :
      IsTaken limit old.log commit
      → reply ≡ replies.Committed (length old.log + 1)
      → new ≡ after_commit old commit
      → CommitAnswers limit old commit reply new

-- EVENTS AND REPLIES

-- a commit may come: from a seat that there is, over a version that there is, of writes that there are, in order, no place twice, which fit the shapes
pub record CanCommit (shapes : Shapes) (c : Core) (seat from : ℕ) (writes : List Write) : Type 0 where
  pub seated : seat < length c.pins
  pub before : from ≤ length c.log
  pub some : writes ≡ [] → ⊥
  pub in_order : IsInOrder writes
  pub fit : FitWrites shapes writes

-- whether an event may come
abbrev pub CanCome : Shapes → Core → Event → Type 0
CanCome shapes c (events.Pin seat) = (seat < length c.pins) × (pin_of c seat ≡ None)
CanCome shapes c (events.Release seat) = (seat < length c.pins) × IsNotBuilding c seat
CanCome shapes c (events.Commit seat from writes) = CanCommit shapes c seat from writes.list
CanCome shapes c (events.BeginFold seat) = (seat < length c.pins) × (pin_of c seat ≡ None)
CanCome shapes c events.Install = is_some c.build ≡ true
CanCome shapes c events.Abandon = is_some c.build ≡ true
CanCome shapes c (events.Mark n) = (n < length c.counts) × (get_or c.ended n false ≡ false) × (get_or c.counts n 0 + 1 < 2 ^ 32)
CanCome shapes c (events.EndSession n) = n < length c.ended
CanCome shapes c events.Stop = Unit {0}

-- One step of the core: an event, its reply, and the core after it. What is not named stays. An event that may not come is refused and changes nothing.
pub data Step (shapes : Shapes) (limit : ℕ) (old : Core) (event : Event) (reply : Reply) (new : Core) : Type 0 where
  refuses : (CanCome shapes old event → ⊥) → reply ≡ replies.Refused → new ≡ old → Step shapes limit old event reply new
  pins : (seat : ℕ) → event ≡ events.Pin seat → CanCome shapes old event
      → reply ≡ replies.Pinned (length old.log) old.base → new ≡ after_pin old seat → Step shapes limit old event reply new
  releases : (seat : ℕ) → event ≡ events.Release seat → CanCome shapes old event
      → reply ≡ replies.Released (is_some (pin_of old seat)) → new ≡ after_release old seat → Step shapes limit old event reply new
  commits : (seat from : ℕ) (writes : Limited) → event ≡ events.Commit seat from writes → CanCome shapes old event
      → CommitAnswers limit old (record { session = seat; from = from; writes = writes }) reply new → Step shapes limit old event reply new
  fold_stopped : (seat : ℕ) → event ≡ events.BeginFold seat → CanCome shapes old event → old.stopped ≡ true
      → reply ≡ replies.Stopped → new ≡ old → Step shapes limit old event reply new
  fold_not_yet : (seat : ℕ) → event ≡ events.BeginFold seat → CanCome shapes old event → old.stopped ≡ false → ((length old.log == old.base) || is_some old.build) ≡ true
      → reply ≡ replies.NotYet → new ≡ old → Step shapes limit old event reply new
  fold_begins : (seat : ℕ) → event ≡ events.BeginFold seat → CanCome shapes old event → old.stopped ≡ false → (length old.log ≡ old.base → ⊥) → old.build ≡ None
      → reply ≡ replies.Job (length old.log) → new ≡ after_fold old seat → Step shapes limit old event reply new
  install_stale : (b : Build) → event ≡ events.Install → old.build ≡ Some b → (old.base ≡ b.base → ⊥)
      → reply ≡ replies.Stale old.base → new ≡ after_abandon old b → Step shapes limit old event reply new
  installs : (b : Build) → event ≡ events.Install → old.build ≡ Some b → old.base ≡ b.base
      → reply ≡ replies.Installed → new ≡ after_install old b → Step shapes limit old event reply new
  abandons : (b : Build) → event ≡ events.Abandon → old.build ≡ Some b → reply ≡ replies.Done → new ≡ after_abandon old b → Step shapes limit old event reply new
  marks : (session : ℕ) → event ≡ events.Mark session → CanCome shapes old event
      → reply ≡ replies.Done → new ≡ after_mark old session → Step shapes limit old event reply new
  ends : (session : ℕ) → event ≡ events.EndSession session → CanCome shapes old event
      → reply ≡ replies.Done → new ≡ record old { ended = slice_set old.ended session true } → Step shapes limit old event reply new
  stops : event ≡ events.Stop → reply ≡ replies.Done → new ≡ record old { stopped = true } → Step shapes limit old event reply new

-- events one after another, each of which may come
abbrev pub Steps : Shapes → ℕ → Core → List Event → Core → Type 0
Steps shapes limit old [] new = new ≡ old
Steps shapes limit old (e ∷ es) new = (reply : Reply) × (m : Core) × CanCome shapes old e × Step shapes limit old e reply m × Steps shapes limit m es new

-- events one after another, each of which is taken or refused, with their replies
abbrev pub Replays : Shapes → ℕ → Core → List Event → List Reply → Core → Type 0
Replays shapes limit old [] [] new = new ≡ old
Replays shapes limit old [] (r ∷ rs) new = ⊥
Replays shapes limit old (e ∷ es) [] new = ⊥
Replays shapes limit old (e ∷ es) (r ∷ rs) new = (m : Core) × Step shapes limit old e r m × Replays shapes limit m es rs new

-- The core before the first event: so many seats, places for so many sections, the setup's (of which nothing is counted) and each session's, and nothing else.
abbrev pub first_core : ℕ → ℕ → Core
first_core seats sections = record {
  log = [];
  base = 0;
  pins = replicate seats None;
  build = None;
  counts = replicate sections 0;
  ended = replicate sections false;
  stopped = false;
  peak = (1, 0);
}
