-- The core as contracts see it, and what each call answers.
use Rattle.std.specs.Prelude.{ℕ, ◌≡◌, ◌==◌, ◌||◌, ◌<◌, ◌≤◌, is_some, Bool, true, false, List, [], length, replicate, get_or, Result, Ok, Err}
use Rattle.std.specs.declared.option.Option.{Option}
use Rattle.std.specs.declared.option.Option.TheVariants.{Some, None}
use Rattle.pg_value.specs.declared.shape.Shapes.{Shapes}
use Rattle.pg_value.specs.declared.write.Write.{Write}
use Rattle.pg_value.specs.declared.write.Commit.{Commit}
use Rattle.pg_core.specs.declared.parts.Begin.{Begin}
use Rattle.pg_core.specs.declared.parts.Begin.TheVariants as begins
use Rattle.pg_core.specs.declared.parts.Stale.{Stale}
use Rattle.pg_core.specs.declared.event.Event.{Event}
use Rattle.pg_core.specs.declared.event.Reply.{Reply}
use Rattle.pg_core.specs.declared.event.Reply.TheVariants as replies
use Rattle.pg_core.specs.declared.events.Opened.{Opened}
use Rattle.pg_core.specs.declared.fault.CommitFault.{CommitFault}
use Rattle.pg_core.specs.declared.fault.CommitFault.TheVariants as faults
use Rattle.pg_core.specs.declared.fault.Marked.{Marked}
use Rattle.pg_core.specs.declared.fault.Marked.TheVariants as marks
use Rattle.pg_core.specs.Versions.{BaseOf, RunOf, Versioned, StandsFor, IsBaseOf}
use Rattle.pg_core.specs.Core.{Core, Build, CommitAnswers, Step, after_fold, after_install, after_abandon}

-- the core, the shapes of its tables, and how many writes its log may hold
pub record Standing : Type 0 where
  pub core : Core
  pub shapes : Shapes
  pub limit : ℕ

-- the core of these versions, counts and flags
abbrev pub standing_of : {B R : Type 0} → Versioned B R → List ℕ → List Bool → Bool → ℕ × ℕ → Standing
standing_of v counts ended stopped peak = record {
  core = record {
    log = v.log;
    base = v.held.current;
    pins = v.held.pins;
    build = v.building;
    counts = counts;
    ended = ended;
    stopped = stopped;
    peak = peak;
  };
  shapes = v.shapes;
  limit = v.limit;
}

-- a truth value that tells whether P holds
abbrev pub Tells : Bool → Type 0 → Type 0
Tells true P = P
Tells false P = P → ⊥

-- the core becomes this one, and its shapes and limit stay
abbrev pub becomes : Standing → Core → Standing
becomes s core = record s { core = core }

-- versions change so that the core becomes what f makes of it; shapes and limit stay
abbrev pub Moves : {B R : Type 0} → Versioned B R → Versioned B R → (Core → Core) → Type 0
Moves old new f = (counts : List ℕ) (ended : List Bool) (stopped : Bool) (peak : ℕ × ℕ)
    → standing_of new counts ended stopped peak ≡ becomes (standing_of old counts ended stopped peak) (f (standing_of old counts ended stopped peak).core)

-- versions of an empty log, with so many seats
pub record AreFirst {B R : Type 0} (shapes : Shapes) (limit seats : ℕ) (v : Versioned B R) : Type 0 where
  pub made : v.shapes ≡ shapes
  pub bound : v.limit ≡ limit
  pub empty : v.log ≡ []
  pub current : v.held.current ≡ 0
  pub pins : v.held.pins ≡ replicate seats None
  pub build : v.building ≡ None

-- versions folded to one base at the head, under new shapes
pub record AreRedefined {B R : Type 0} (shapes : Shapes) (old new : Versioned B R) : Type 0 where
  pub made : new.shapes ≡ shapes
  pub bound : new.limit ≡ old.limit
  pub log : new.log ≡ old.log
  pub current : new.held.current ≡ length old.log
  pub pins : new.held.pins ≡ old.held.pins
  pub build : new.building ≡ old.building

-- what the core replies to a commit that is refused; nothing where memory was wanted
abbrev pub refusal : CommitFault → Option Reply
refusal (faults.Conflict table key at) = Some (replies.Conflict table key at)
refusal (faults.LogFull held) = Some (replies.LogFull held)
refusal faults.Memory = None

abbrev pub committed : Result ℕ CommitFault → Option Reply
committed (Ok at) = Some (replies.Committed at)
committed (Err fault) = refusal fault

-- a commit is answered by the core's definition; after want of memory all is as before
abbrev pub Refuses : Standing → Standing → Commit → Option Reply → Type 0
Refuses old new c None = new ≡ old
Refuses old new c (Some reply) = (new ≡ old) × CommitAnswers old.limit old.core c reply new.core

abbrev pub Commits : Standing → Standing → Commit → Result ℕ CommitFault → Type 0
Commits old new c (Ok at) = (new ≡ becomes old new.core) × CommitAnswers old.limit old.core c (replies.Committed at) new.core
Commits old new c (Err fault) = Refuses old new c (refusal fault)

-- whether a session has finished so many items
abbrev pub IsMarked : Core → ℕ → ℕ → Marked → Type 0
IsMarked c session n (marks.At at) = (n ≤ get_or c.counts session 0) × (at ≡ length c.log)
IsMarked c session n marks.NotYet = (get_or c.counts session 0 < n) × (get_or c.ended session false ≡ false)
IsMarked c session n marks.Ended = (get_or c.counts session 0 < n) × (get_or c.ended session false ≡ true)

-- a refused commit's fault for a conflict at a write; nothing is said where memory was wanted
abbrev pub IsConflict : Write → ℕ → CommitFault → Type 0
IsConflict w at (faults.Conflict table key k) = (table ≡ w.table) × (key ≡ w.key) × (k ≡ at)
IsConflict w at (faults.LogFull held) = ⊥
IsConflict w at faults.Memory = Unit {0}

-- what is answered where a build is to begin
abbrev pub Begins : {B R : Type 0} → (B → BaseOf) → (R → RunOf) → Standing → Standing → ℕ → Begin B R → Type 0
Begins base run old new seat begins.Stopped = (old.core.stopped ≡ true) × (new ≡ old)
Begins base run old new seat begins.NotYet = (old.core.stopped ≡ false) × (((length old.core.log == old.core.base) || is_some old.core.build) ≡ true) × (new ≡ old)
Begins base run old new seat (begins.Job job) =
    (old.core.stopped ≡ false) × (length old.core.log ≡ old.core.base → ⊥) × (old.core.build ≡ None)
    × (job.build ≡ record { seat = seat; base = old.core.base; at = length old.core.log })
    × StandsFor base run old.shapes old.core.log (length old.core.log) job.parts
    × (new ≡ becomes old (after_fold old.core seat))

-- what is answered where a build is to be installed
abbrev pub Installs : Standing → Standing → Build → Result Unit Stale → Type 0
Installs old new b (Ok u) = (old.core.base ≡ b.base) × (new ≡ becomes old (after_install old.core b))
Installs old new b (Err stale) = (old.core.base ≡ b.base → ⊥) × (stale.base ≡ old.core.base) × (new ≡ becomes old (after_abandon old.core b))

-- what the core replies where a build is installed
abbrev pub installed : Result Unit Stale → Reply
installed (Ok u) = replies.Installed
installed (Err stale) = replies.Stale stale.base

-- an event changes the core by one step, and shapes and limit stay
abbrev pub Takes : Standing → Event → Reply → Standing → Type 0
Takes old event reply new = Step old.shapes old.limit old.core event reply new.core × (new ≡ becomes old new.core)

-- what is held of an open build is that build, with a base of its version; nothing is held where no build is open
abbrev pub HasOpen : {B R : Type 0} → (B → BaseOf) → Standing → Option (Opened B R) → Type 0
HasOpen base s None = s.core.build ≡ None
HasOpen base s (Some o) = (s.core.build ≡ Some o.job.build) × IsBaseOf s.shapes s.core.log o.job.build.at (base o.base)
