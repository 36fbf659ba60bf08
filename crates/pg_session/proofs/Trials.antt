-- Three small runs, on which the definitions of stepped runs are tried: turns of a lost update, of an AFTER, and of a session that commits while another
-- has its base pinned. Each holds for every language J that reads the items as said: what J says is a premise, and the log, the core and the next world
-- are computed. Behind each stands which wrong definition would make it false.
use Rattle.std.proofs.Common.{◌≡◌, ◌≤◌, ◌+◌, ℕ, pos, true, false, List, [], ◌∷◌, ◌++◌, length, drop, inl, inr, refl, sym, ap, ◌∙◌, arith}
use Rattle.std.specs.Prelude.{codes, slice_get}
use Rattle.std.specs.declared.option.Option.{Option}
use Rattle.std.specs.declared.option.Option.TheVariants.{Some, None}
use Rattle.pg_value.specs.declared.value.Value.TheVariants.{Int, Text}
use Rattle.pg_value.specs.declared.row.Key.{Key}
use Rattle.pg_value.specs.declared.write.Write.{Write}
use Rattle.pg_value.specs.declared.write.Commit.{Commit}
use Rattle.pg_value.specs.Writes.{Limited}
use Rattle.pg_value.specs.Tables.{FitWrites}
use Rattle.pg_script.specs.declared.script.Item.{Item}
use Rattle.pg_script.specs.declared.script.Script.{Script}
use Rattle.pg_script.specs.declared.outcome.Outcome.{Outcome}
use Rattle.pg_script.specs.declared.outcome.Outcome.TheVariants.{Began, Changed, ChangedAlone, Committed, After, Conflict}
use Rattle.pg_value.specs.Log.{conflict, conflict_after, held, view}
use Rattle.pg_script.specs.Judged.{Judges, Open, Commits, Changes, Waits, Fine, Done, committed, changed_alone, waited, logged, conflicted}
use Rattle.pg_script.specs.Legal.{items_of}
use Rattle.pg_core.specs.declared.event.Reply.TheVariants as replies
use Rattle.pg_core.specs.Core.{Core, IsTaken, kept, pin_count, base_after, seen_peak, after_commit, CanCommit, conflicts, takes, pins as pinned_by, commits, releases, marks}
use Rattle.pg_session.specs.Stepped.{World, Run, Turn}

-- THE WRITES AND THE COMMITS

abbrev key : ℕ → Key
key i = record { values = Int (pos i) ∷ [] }

-- the row of person i is written
abbrev person : ℕ → List ℕ → Write
person i name = record { table = record { 0 = 0 }; key = key i; row = Some (record { values = Int (pos i) ∷ Text name ∷ [] }) }

abbrev own : List Write → Limited
own ws = record { list = ws; limit = 1048576 }

abbrev commit : ℕ → ℕ → List Write → Commit
commit n k ws = record { session = n; from = k; writes = own ws }

-- the setup's commits
abbrev setup : List Commit
setup = commit 0 0 (person 1 (codes "Ann") ∷ []) ∷ commit 0 1 (person 2 (codes "Bob") ∷ []) ∷ []

abbrev limit : ℕ
limit = 4194304

-- a core of a setup and two sessions, with a seat more
abbrev core_at : List Commit → ℕ → List (Option ℕ) → List ℕ → ℕ × ℕ → Core
core_at log base pins counts peak = record { log = log; base = base; pins = pins; build = None; counts = counts; ended = false ∷ false ∷ false ∷ []; stopped = false; peak = peak }

abbrev none : Option ℕ
none = None

-- a section that has answered so, with this transaction open
abbrev answered : List Outcome → Option Open → Run
answered outs t = record { outs = outs; open_ = t }

abbrev opened : ℕ → List Write → Option Open
opened k ws = Some (record { from = k; writes = ws })

-- LOST UPDATE: both sessions began over version 2 and wrote the row of person 1; it is the turn of a, and then of b, to commit.

abbrev setup_run : Run
setup_run = answered [] None

abbrev begun : ℕ → List Outcome
begun k = Began k ∷ Changed 1 k ∷ []

abbrev lost : List Commit
lost = setup ++ commit 1 2 (person 1 (codes "A") ∷ []) ∷ []

abbrev a_writes : List Write
a_writes = person 1 (codes "A") ∷ []

abbrev b_writes : List Write
b_writes = person 1 (codes "B") ∷ []

module _ {K D C Q X Y : Type 0} (J : Judges K D C Q X Y) (script : Script) (catalog : K) (tables : J.tables catalog ≡ codes "PERSON" ∷ []) (most : 1048576 ≡ J.most_writes) where
  -- both are in a transaction
  abbrev two_open : World K
  two_open = record {
    core = core_at setup 0 (none ∷ Some 0 ∷ Some 0 ∷ none ∷ []) (0 ∷ 2 ∷ 2 ∷ []) (1, 0);
    catalog = catalog;
    runs = setup_run ∷ answered (begun 2) (opened 2 a_writes) ∷ answered (begun 2) (opened 2 b_writes) ∷ [];
  }

  -- a has committed
  abbrev one_open : World K
  one_open = record {
    core = core_at lost 0 (none ∷ none ∷ Some 0 ∷ none ∷ []) (0 ∷ 3 ∷ 2 ∷ []) (1, 0);
    catalog = catalog;
    runs = setup_run ∷ answered (Began 2 ∷ Changed 1 2 ∷ Committed 2 3 ∷ []) None ∷ answered (begun 2) (opened 2 b_writes) ∷ [];
  }

  -- b has been refused
  abbrev both_ended : World K
  both_ended = record {
    core = core_at lost 0 (none ∷ none ∷ none ∷ none ∷ []) (0 ∷ 3 ∷ 3 ∷ []) (1, 0);
    catalog = catalog;
    runs = setup_run ∷ answered (Began 2 ∷ Changed 1 2 ∷ Committed 2 3 ∷ []) None ∷ answered (Began 2 ∷ Changed 1 2 ∷ Conflict (codes "PERSON") (key 1) 2 3 ∷ []) None ∷ [];
  }

  -- a's turn: `3 commit from 2 at 3`, by a commit, an end and a mark. (False if the commit were numbered from 0, if the pin stayed, if the finished item were
  -- not counted, or if a commit moved the base before 256.)
  pub lost_update_a : (item : Item) → slice_get (items_of script 1) 2 ≡ Some item → J.reads item Commits → FitWrites (J.shapes catalog) a_writes → Turn J limit script two_open 1 one_open
  lost_update_a item next reads fit = inr (record {
    item = item;
    outcome = Committed 2 3;
    writes = own a_writes;
    limited = most;
    session = record { open_ = None; catalog = catalog };
    next = next;
    judged = committed _ reads refl (λ e. cc) (logged 3 (commit 1 2 a_writes) (record { before = omega arith; some = λ e. cc; free = refl; room = omega arith }, refl, refl) (record { session = refl; from = refl; writes = refl }) refl) refl;
    core = (
      replies.Committed 3,
      core_at lost 0 (none ∷ Some 0 ∷ Some 0 ∷ none ∷ []) (0 ∷ 2 ∷ 2 ∷ []) (1, 0),
      may,
      commits 1 2 (own a_writes) refl may (takes (record { before = omega arith; some = λ e. cc; free = refl; room = omega arith }) refl refl),
      (
        replies.Released true,
        core_at lost 0 (none ∷ none ∷ Some 0 ∷ none ∷ []) (0 ∷ 2 ∷ 2 ∷ []) (1, 0),
        (omega arith, λ b e. cc),
        releases 1 refl (omega arith, λ b e. cc) refl refl,
        (
          replies.Done,
          core_at lost 0 (none ∷ none ∷ Some 0 ∷ none ∷ []) (0 ∷ 3 ∷ 2 ∷ []) (1, 0),
          (omega arith, refl, omega arith),
          marks 1 refl (omega arith, refl, omega arith) refl refl,
          refl,
        ),
      ),
    );
    catalog = refl;
    runs = refl;
  }) where
    may : CanCommit (J.shapes catalog) (core_at setup 0 (none ∷ Some 0 ∷ Some 0 ∷ none ∷ []) (0 ∷ 2 ∷ 2 ∷ []) (1, 0)) 1 2 a_writes
    may = record { seated = omega arith; before = omega arith; some = λ e. cc; in_order = (tt, tt); fit = fit }

  -- b's turn: `3 refused Conflict PERSON (1) from 2 at 3`; the log stays, and the transaction has ended. (False if a refused commit came to the log, if it
  -- left the pin, or if a refused item were not counted.)
  pub lost_update_b : (item : Item) → slice_get (items_of script 2) 2 ≡ Some item → J.reads item Commits → FitWrites (J.shapes catalog) b_writes → Turn J limit script one_open 2 both_ended
  lost_update_b item next reads fit = inr (record {
    item = item;
    outcome = Conflict (codes "PERSON") (key 1) 2 3;
    writes = own b_writes;
    limited = most;
    session = record { open_ = None; catalog = catalog };
    next = next;
    judged = committed _ reads refl (λ e. cc) (conflicted (person 1 (codes "B")) 3 (refl, refl) (rw tables refl)) refl;
    core = (
      replies.Conflict (record { 0 = 0 }) (key 1) 3,
      core_at lost 0 (none ∷ none ∷ Some 0 ∷ none ∷ []) (0 ∷ 3 ∷ 2 ∷ []) (1, 0),
      may,
      commits 2 2 (own b_writes) refl may (conflicts (person 1 (codes "B")) 3 refl refl refl),
      (
        replies.Released true,
        core_at lost 0 (none ∷ none ∷ none ∷ none ∷ []) (0 ∷ 3 ∷ 2 ∷ []) (1, 0),
        (omega arith, λ b e. cc),
        releases 2 refl (omega arith, λ b e. cc) refl refl,
        (
          replies.Done,
          core_at lost 0 (none ∷ none ∷ none ∷ none ∷ []) (0 ∷ 3 ∷ 3 ∷ []) (1, 0),
          (omega arith, refl, omega arith),
          marks 2 refl (omega arith, refl, omega arith) refl refl,
          refl,
        ),
      ),
    );
    catalog = refl;
    runs = refl;
  }) where
    may : CanCommit (J.shapes catalog) (core_at lost 0 (none ∷ none ∷ Some 0 ∷ none ∷ []) (0 ∷ 3 ∷ 2 ∷ []) (1, 0)) 2 2 b_writes
    may = record { seated = omega arith; before = omega arith; some = λ e. cc; in_order = (tt, tt); fit = fit }

-- AFTER: b waits for a's second item.

module _ {K D C Q X Y : Type 0} (J : Judges K D C Q X Y) (script : Script) (catalog : K) (most : 1048576 ≡ J.most_writes) where
  -- a has answered so, and b nothing yet
  abbrev waiting : List Outcome → World K
  waiting outs = record {
    core = core_at lost 0 (none ∷ none ∷ none ∷ none ∷ []) (0 ∷ length outs ∷ 0 ∷ []) (1, 0);
    catalog = catalog;
    runs = setup_run ∷ answered outs None ∷ answered [] None ∷ [];
  }

  abbrev both : List Outcome
  both = ChangedAlone 1 1 2 ∷ ChangedAlone 1 2 3 ∷ []

  -- after one item of a, b's turn does nothing. (False if an AFTER were met one item too early.)
  pub after_waits : (item : Item) → slice_get (items_of script 2) 0 ≡ Some item → J.reads item (Waits (codes "a") 1 2) → Turn J limit script (waiting (ChangedAlone 1 1 2 ∷ [])) 2 (waiting (ChangedAlone 1 1 2 ∷ []))
  after_waits item next reads = inl (inr (item, codes "a", 1, 2, next, reads, omega arith), refl)

  -- after two, it is met at the log's length, by a mark alone. (False if it printed another length, pinned a base, or were not counted.)
  pub after_met : (item : Item) → slice_get (items_of script 2) 0 ≡ Some item → J.reads item (Waits (codes "a") 1 2) → Turn J limit script (waiting both) 2 (record {
    core = core_at lost 0 (none ∷ none ∷ none ∷ none ∷ []) (0 ∷ 2 ∷ 1 ∷ []) (1, 0);
    catalog = catalog;
    runs = setup_run ∷ answered both None ∷ answered (After (codes "a") 2 3 ∷ []) None ∷ [];
  })
  after_met item next reads = inr (record {
    item = item;
    outcome = After (codes "a") 2 3;
    writes = own [];
    limited = most;
    session = record { open_ = None; catalog = catalog };
    next = next;
    judged = waited (codes "a") 1 2 3 reads (omega arith, refl) refl refl;
    core = (replies.Done, core_at lost 0 (none ∷ none ∷ none ∷ none ∷ []) (0 ∷ 2 ∷ 1 ∷ []) (1, 0), (omega arith, refl, omega arith), marks 2 refl (omega arith, refl, omega arith) refl refl, refl);
    catalog = refl;
    runs = refl;
  })

-- PINNED BASE: r has base 0 pinned; w's statement finds 256 commits over it, and folds under r.

abbrev w_writes : List Write
w_writes = person 1 (codes "N") ∷ []

all_dropped : (log : List Commit) → drop (length log) log ≡ []
all_dropped [] = refl
all_dropped (c ∷ log) = all_dropped log

module _ {K D C Q X Y : Type 0} (J : Judges K D C Q X Y) (script : Script) (catalog : K) (most : 1048576 ≡ J.most_writes) (log : List Commit) (long : length log ≡ 256) where
  abbrev written : Commit
  written = commit 2 256 w_writes

  -- r has begun, and its base is pinned
  abbrev one_pinned : World K
  one_pinned = record {
    core = core_at log 0 (none ∷ Some 0 ∷ none ∷ none ∷ []) (0 ∷ 1 ∷ 0 ∷ []) (1, 0);
    catalog = catalog;
    runs = setup_run ∷ answered (Began 2 ∷ []) (opened 2 []) ∷ answered [] None ∷ [];
  }

  -- w has written over a base of its own, and r's stays
  abbrev folded : World K
  folded = record {
    core = core_at (log ++ written ∷ []) 256 (none ∷ Some 0 ∷ none ∷ none ∷ []) (0 ∷ 1 ∷ 1 ∷ []) (2, 2);
    catalog = catalog;
    runs = setup_run ∷ answered (Began 2 ∷ []) (opened 2 []) ∷ answered (ChangedAlone 1 256 257 ∷ []) None ∷ [];
  }

  -- while w's statement has its pin: one base is kept, and two seats have it pinned
  abbrev found : Core
  found = core_at log 0 (none ∷ Some 0 ∷ Some 0 ∷ none ∷ []) (0 ∷ 1 ∷ 0 ∷ []) (1, 0)

  -- the core with the base at this version, and the log one commit longer
  abbrev folded_to : ℕ → Core
  folded_to base = record found { log = log ++ written ∷ []; base = base }

  pub pinned_before : (kept found ≡ 1) × (pin_count found.pins ≡ 2)
  pinned_before = (refl, refl)

  -- one commit earlier nothing is folded
  pub pinned_not_yet : base_after 0 255 ≡ 0
  pinned_not_yet = refl

  -- the commit makes version 256 the base, and keeps r's
  pub pinned_base : after_commit found written ≡ core_at (log ++ written ∷ []) 256 (none ∷ Some 0 ∷ Some 0 ∷ none ∷ []) (0 ∷ 1 ∷ 0 ∷ []) (2, 2)
  pinned_base = ap (λ k. seen_peak (folded_to (base_after 0 k))) long

  no_conflict : conflict log 256 w_writes ≡ None
  no_conflict = ap (λ later. conflict_after 257 later w_writes) (ap (λ k. drop k log) (sym long) ∙ all_dropped log)

  taken : held log + 1 ≤ limit → IsTaken limit log written
  taken room = record { before = omega (arith, long); some = λ e. cc; free = no_conflict; room = room }

  -- w's turn: `1 changed 1 from 256 at 257`, by a start, a commit, an end and a mark; then `@peak kept 2 pins 2`. (False if a fold came a commit too early or too
  -- late, if it took r's base away, if equal bases counted twice, or if the peak were that of another moment.)
  pub pinned_turn : (item : Item) (c : C) (x : X) → slice_get (items_of script 2) 0 ≡ Some item → J.reads item (Changes c) → J.resolves catalog c (Fine x)
      → J.affects catalog (view log 256 []) [] x (Done w_writes 1) → FitWrites (J.shapes catalog) w_writes → held log + 1 ≤ limit → Turn J limit script one_pinned 2 folded
  pinned_turn item c x next reads resolves affects fit room = inr (record {
    item = item;
    outcome = ChangedAlone 1 256 257;
    writes = own w_writes;
    limited = most;
    session = record { open_ = None; catalog = catalog };
    next = next;
    judged = changed_alone c x (record { from = 256; writes = []; tables = view log 256 [] }) 1 w_writes reads resolves (record { closed = refl; starts = sym long; unwritten = refl; sees = refl }) affects (omega arith)
        (logged 257 written (taken room, refl, ap (λ k. k + 1) (sym long)) (record { session = refl; from = refl; writes = refl }) refl) refl;
    core = (
      replies.Pinned (length log) 0,
      found,
      (omega arith, refl),
      pinned_by 2 refl (omega arith, refl) refl refl,
      (
        replies.Committed (length log + 1),
        core_at (log ++ written ∷ []) 256 (none ∷ Some 0 ∷ Some 0 ∷ none ∷ []) (0 ∷ 1 ∷ 0 ∷ []) (2, 2),
        may,
        commits 2 256 (own w_writes) refl may (takes (taken room) refl (sym pinned_base)),
        (
          replies.Released true,
          core_at (log ++ written ∷ []) 256 (none ∷ Some 0 ∷ none ∷ none ∷ []) (0 ∷ 1 ∷ 0 ∷ []) (2, 2),
          (omega arith, λ b e. cc),
          releases 2 refl (omega arith, λ b e. cc) refl refl,
          (
            replies.Done,
            core_at (log ++ written ∷ []) 256 (none ∷ Some 0 ∷ none ∷ none ∷ []) (0 ∷ 1 ∷ 1 ∷ []) (2, 2),
            (omega arith, refl, omega arith),
            marks 2 refl (omega arith, refl, omega arith) refl refl,
            refl,
          ),
        ),
      ),
    );
    catalog = refl;
    runs = refl;
  }) where
    may : CanCommit (J.shapes catalog) found 2 256 w_writes
    may = record { seated = omega arith; before = omega (arith, long); some = λ e. cc; in_order = (tt, tt); fit = fit }
