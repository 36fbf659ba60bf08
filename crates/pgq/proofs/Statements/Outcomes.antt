-- The rows of the table of outcomes, for a statement outside a transaction over the whole log.
use Rattle.std.proofs.Common.{◌≡◌, inr, ℕ, zero, cond, suc, ◌+◌, ◌<◌, ◌≤◌, ◌==◌, Bool, true, false, List, [], ◌∷◌, ◌++◌, length, replicate, get_or, refl, ap, sym, subst, ◌∙◌, arith, IfOk}
use Rattle.std.proofs.lemmas.Bool.{eq-eqb}
use Rattle.std.proofs.lemmas.List.{length-replicate}
use Rattle.std.specs.Prelude.{Result, Ok, Err, slice_set}
use Rattle.std.specs.declared.alloc.AllocError.{AllocError}
use Rattle.std.specs.declared.option.Option.{Option}
use Rattle.std.specs.declared.option.Option.TheVariants.{None}
use Rattle.std.specs.Option.{unwrap_or}
use Rattle.std.specs.List.Sorted.{IsSorted}
use Rattle.pg_keyed.specs.Puts.{put_nothing}
use Rattle.pg_value.specs.declared.row.Row.{Row}
use Rattle.pg_value.specs.declared.write.Write.{Write}
use Rattle.pg_value.specs.declared.write.Commit.{Commit}
use Rattle.pg_value.specs.Order.{place_cmp}
use Rattle.pg_value.specs.Orders.{places, row_order}
use Rattle.pg_value.specs.declared.shape.Shapes.{Shapes}
use Rattle.pg_value.specs.Writes.{Limited, IsInOrder, named}
use Rattle.pg_value.specs.Tables.{Tables, place_of, FitWrites}
use Rattle.pg_value.specs.Log.{row_given, put, after, view, held, conflict}
use Rattle.pg_ast.specs.declared.define.Define.{Define}
use Rattle.pg_rules.specs.Changes.{Change}
use Rattle.pg_meaning.specs.declared.checked.CheckedChange.{CheckedChange}
use Rattle.pg_meaning.specs.declared.checked.CheckedQuery.{CheckedQuery}
use Rattle.pg_rules.specs.Catalog.{Defined as Entries}
use Rattle.pg_rules.specs.Catalog.Shapes.{shapes}
use Rattle.pg_rules.specs.Definitions.{define_fault, with_definition}
use Rattle.pg_meaning.specs.Answers.{Answer, column_names}
use Rattle.pg_sql.specs.declared.parsed.Parsed.{Parsed}
use Rattle.pg_sql.specs.Parsed.{IsParsedOf}
use Rattle.pg_script.specs.declared.script.Item.{Item}
use Rattle.pg_script.specs.declared.script.Item.TheVariants.{Sql}
use Rattle.pg_script.specs.declared.outcome.FaultKind.{FaultKind}
use Rattle.pg_script.specs.declared.outcome.FaultKind.TheVariants.{DefinitionInSession, NotYet}
use Rattle.pg_script.specs.declared.outcome.Outcome.{Outcome}
use Rattle.pg_script.specs.declared.outcome.Outcome.TheVariants.{Defined, Changed, ChangedAlone, Rows, AtByte, LogFull}
use Rattle.pg_script.specs.Judged.{Reading, Unread, Defines, Changes, Asks, Faulty, Fine, Refusal, IsDuplicate, IsTooMany, IsAtColumn, Effect, Stopped, Done, refused, IsCommit, View, AtStart, Judged, unread, defines_in_session, define_fault as define_faulty, defined, change_fault, change_stopped, changed_none, changed_alone, query_fault, answered, logged, filled}
use Rattle.pg_script.specs.declared.script.Script.{Script}
use Rattle.pgq.specs.declared.engine.Engine.{Engine}
use Rattle.pg_core.specs.declared.event.Event.{Event}
use Rattle.pg_core.specs.declared.event.Event.TheVariants as events
use Rattle.pg_core.specs.Core.{Core, base_after, after_redefine, IsTaken, CanCommit, CanCome, Steps}
use Rattle.pg_session.specs.Stepped.{base_of, now, events_of, marking, AfterItem}
use Rattle.pg_ast.specs.declared.pattern.Query.{Query}
use Rattle.pg_language.specs.Language.{language, reads, reading_of, defines, resolves, checks, affects, name_of, most_transaction_writes}
use Rattle.pgq.specs.Engine.{most_log_writes, core_of, counts_then, CanCount, resting, peak_after, Answers, AnswersTo}
use Rattle.pgq.proofs.Commits.LongerLog.{no_conflict}
use Rattle.pgq.proofs.Runs.OneStatement.{IsAtRest, counted, none_pinned, redefine_is, still_steps, read_steps, full_steps, commit_steps}

all_none : (k n : ℕ) → get_or {A = Option ℕ} (replicate k None) n None ≡ None
all_none zero n = refl
all_none (suc k) zero = refl
all_none (suc k) (suc n) = all_none k n

-- between statements a statement is read over the current base
base_is : (sections : ℕ) (counts : List ℕ) (e : Engine) (n : ℕ) → base_of (core_of sections counts e) n ≡ e.base
base_is sections counts e n = ap (λ (p : Option ℕ). unwrap_or p e.base) (all_none (sections + 1) n)

unwritten : (tables : Tables) → put tables [] ≡ tables
unwritten tables = put_nothing place_of named row_given place_cmp places tables

-- THE CORE

-- the core between two statements, with the session's count one higher
counts_more : (sections n : ℕ) (counts : List ℕ) (e : Engine) → core_of sections (counts_then n 1 counts) e ≡ counted (core_of sections counts e) n
counts_more sections n counts e = same (n == 0) where
  same : (b : Bool) → core_of sections (cond b counts (slice_set counts n (get_or counts n 0 + 1))) e ≡ cond b (core_of sections counts e) (core_of sections (slice_set counts n (get_or counts n 0 + 1)) e)
  same true = refl
  same false = refl

none_ended : (k n : ℕ) → get_or (replicate k false) n false ≡ false
none_ended zero n = refl
none_ended (suc k) zero = refl
none_ended (suc k) (suc n) = none_ended k n

module _ (n : ℕ) (e : Engine) (sections : ℕ) (counts : List ℕ) (peak : 1 ≤ e.peak.0) (can : CanCount sections counts n 1) where
  abbrev Old : Core
  Old = core_of sections counts e

  abbrev Shaped : Shapes
  Shaped = shapes e.catalog

  at_rest : IsAtRest Old
  at_rest = record { no_pin = none_pinned (sections + 1); no_build = refl; peak = peak }

  seat : n < length Old.pins
  seat = omega (arith, can.stands, length-replicate {A = Option ℕ} (sections + 1) None)

  can_mark : CanCome Shaped Old (events.Mark n)
  can_mark = (omega (arith, can.stands, can.as_many), none_ended sections n, can.few)

  abbrev StepsOver : List Event → Engine → Type 0
  StepsOver es e' = Steps Shaped most_log_writes Old es (core_of sections (counts_then n 1 counts) e')

  here : (es : List Event) → Steps Shaped most_log_writes Old es (counted Old n) → StepsOver es e
  here es s = subst (Steps Shaped most_log_writes Old es) (sym (counts_more sections n counts e)) s

  -- nothing but a mark
  still_core : StepsOver (marking n) e
  still_core = here (marking n) (still_steps Shaped most_log_writes Old n at_rest seat can_mark)

  -- a start and an end
  read_core : StepsOver (events.Pin n ∷ events.Release n ∷ marking n) e
  read_core = here (events.Pin n ∷ events.Release n ∷ marking n) (read_steps Shaped most_log_writes Old n at_rest seat can_mark)

  refused_core : (refusal : Refusal) (k : ℕ) (writes : Limited) → AfterItem Shaped most_log_writes Old (events_of n None writes (refused refusal k) ++ marking n) (refused refusal k) (core_of sections (counts_then n 1 counts) e)
  refused_core (IsDuplicate row) k writes = read_core
  refused_core (IsTooMany row) k writes = read_core
  refused_core (IsAtColumn kind row column) k writes = read_core

  module _ (writes : Limited) (some : writes.list ≡ [] → ⊥) (in_order : IsInOrder writes.list) (fit : FitWrites Shaped writes.list) where
    may : CanCommit Shaped Old n (length e.log) writes.list
    may = record { seated = seat; before = omega arith; some = some; in_order = in_order; fit = fit }

    -- a start, a refused commit and an end
    full_core : most_log_writes < held e.log + length writes.list → StepsOver (events.Pin n ∷ events.Commit n (length e.log) writes ∷ events.Release n ∷ marking n) e
    full_core full = here (events.Pin n ∷ events.Commit n (length e.log) writes ∷ events.Release n ∷ marking n)
        (full_steps Shaped most_log_writes Old n at_rest seat writes can_mark may (no_conflict e.log writes.list) full)

    -- a start, a commit and an end
    commit_core : held e.log + length writes.list ≤ most_log_writes → (e' : Engine) → e'.log ≡ e.log ++ record { session = n; from = length e.log; writes = writes } ∷ []
        → e'.base ≡ base_after e.base (length e.log) → e'.peak ≡ peak_after e.base (length e.log) e.peak
        → StepsOver (events.Pin n ∷ events.Commit n (length e.log) writes ∷ events.Release n ∷ marking n) e'
    commit_core room e' log base after =
        let own : Commit = record { session = n; from = length e.log; writes = writes } in
        let left : Core = record Old { log = e.log ++ own ∷ []; base = base_after e.base (length e.log); peak = peak_after e.base (length e.log) e.peak } in
        let is : core_of sections counts e' ≡ left = λ i. record Old { log = log i; base = base i; peak = after i } in
        subst (Steps Shaped most_log_writes Old (events.Pin n ∷ events.Commit n (length e.log) writes ∷ events.Release n ∷ marking n))
        (sym (counts_more sections n counts e' ∙ ap (λ c. counted c n) is))
        (commit_steps Shaped most_log_writes Old n at_rest seat writes can_mark may (record { before = omega arith; some = some; free = no_conflict e.log writes.list; room = room }))

-- an accepted definition of the setup
defined_core : (sections : ℕ) (counts : List ℕ) (e e' : Engine) → 1 ≤ e.peak.0 → e'.log ≡ e.log → e'.base ≡ length e.log → e'.peak ≡ e.peak → core_of sections counts e' ≡ after_redefine (core_of sections counts e)
defined_core sections counts e e' peak log base after =
    (λ i. record (core_of sections counts e) { log = log i; base = base i; peak = after i })
    ∙ sym (redefine_is (core_of sections counts e) (record { no_pin = none_pinned (sections + 1); no_build = refl; peak = peak }))

-- THE ROWS OF THE TABLE

abbrev no_writes : Limited
no_writes = record { list = []; limit = most_transaction_writes }

module _ (script : Script) (n : ℕ) (e : Engine) (item : Item) where
  abbrev Says : Outcome → Limited → Entries → Type 0
  Says o writes d = (sections : ℕ) (counts : List ℕ) (outs : ℕ → List Outcome) (seen : ℕ)
      → Judged (language script) (now most_log_writes (core_of sections counts e) outs writes n) n seen (resting e.catalog) item o (resting d)

  -- an answer at a place, which comes before any start
  told : (kind : FaultKind) (at : ℕ) → Says (AtByte kind at) no_writes e.catalog → Answers script n e item (AtByte kind at) e
  told kind at says = record { writes = no_writes; limited = refl; judged = says; core = λ sections counts peak can. still_core n e sections counts peak can }

  pub unread_is : (kind : FaultKind) (at : ℕ) → reads script item (Unread kind at) → Answers script n e item (AtByte kind at) e
  unread_is kind at r = told kind at (λ sections counts outs seen. unread kind at r refl refl)

  pub in_session_is : (d : Define) (at : ℕ) → reads script item (Defines d at) → (n ≡ 0 → ⊥) → Answers script n e item (AtByte DefinitionInSession at) e
  in_session_is d at r later = told DefinitionInSession at (λ sections counts outs seen. defines_in_session d at r later refl refl)

  pub define_fault_is : (d : Define) (byte : ℕ) (kind : FaultKind) (at : ℕ) → reads script item (Defines d byte) → n ≡ 0 → defines e.catalog d (Faulty kind at) → Answers script n e item (AtByte kind at) e
  define_fault_is d byte kind at r setup faulty = told kind at (λ sections counts outs seen. define_faulty d byte kind at r setup refl faulty refl refl)

  pub defined_is : (d : Define) (byte : ℕ) (e' : Engine) → reads script item (Defines d byte) → n ≡ 0 → define_fault e.catalog d ≡ None
      → e'.catalog ≡ with_definition e.catalog d → e'.log ≡ e.log → e'.base ≡ length e.log → e'.peak ≡ e.peak
      → Answers script n e item (Defined (name_of d) (length e.log)) e'
  defined_is d byte e' r setup right catalog log base after = record {
    writes = no_writes;
    limited = refl;
    judged = λ sections counts outs seen. defined d byte (name_of d) (length e.log) (with_definition e.catalog d) r setup refl (right, refl) refl refl (ap resting catalog);
    core = λ sections counts peak can. ap (λ b. core_of sections (cond b counts (slice_set counts n (get_or counts n 0 + 1))) e') (eq-eqb n 0 setup) ∙ defined_core sections counts e e' peak log base after;
  }

  pub change_fault_is : (i : Change) (kind : FaultKind) (at : ℕ) → reads script item (Changes i) → resolves e.catalog i (Faulty kind at) → Answers script n e item (AtByte kind at) e
  change_fault_is i kind at r faulty = told kind at (λ sections counts outs seen. change_fault i kind at r faulty refl refl)

  abbrev Effects : CheckedChange → Effect → Type 0
  Effects x effect = affects e.catalog (after e.log (length e.log)) [] x effect

  abbrev NewView : View
  NewView = record { from = length e.log; writes = []; tables = view e.log (length e.log) [] }

  under_none : (x : CheckedChange) (effect : Effect) → Effects x effect → affects e.catalog (view e.log (length e.log) []) [] x effect
  under_none x effect a = subst (λ t. affects e.catalog t [] x effect) (sym (unwritten (after e.log (length e.log)))) a

  -- a statement outside a transaction reads the whole log
  starts_here : (sections : ℕ) (counts : List ℕ) (outs : ℕ → List Outcome) (seen : ℕ) (writes : Limited) → AtStart (now most_log_writes (core_of sections counts e) outs writes n) seen (resting e.catalog) NewView
  starts_here sections counts outs seen writes = record { closed = refl; starts = refl; unwritten = refl; sees = refl }

  pub stopped_is : (i : Change) (x : CheckedChange) (refusal : Refusal) → reads script item (Changes i) → resolves e.catalog i (Fine x) → Effects x (Stopped refusal)
      → Answers script n e item (refused refusal (length e.log)) e
  stopped_is i x refusal r fine a = record {
    writes = no_writes;
    limited = refl;
    judged = λ sections counts outs seen. change_stopped i x NewView refusal r fine (inr (starts_here sections counts outs seen no_writes)) (under_none x (Stopped refusal) a) refl refl;
    core = λ sections counts peak can. refused_core n e sections counts peak can refusal (length e.log) no_writes;
  }

  pub none_is : (i : Change) (x : CheckedChange) (ws : List Write) → reads script item (Changes i) → resolves e.catalog i (Fine x) → Effects x (Done ws 0) → Answers script n e item (Changed 0 (length e.log)) e
  none_is i x ws r fine a = record {
    writes = no_writes;
    limited = refl;
    judged = λ sections counts outs seen. changed_none i x NewView ws r fine (starts_here sections counts outs seen no_writes) (under_none x (Done ws 0) a) refl refl;
    core = λ sections counts peak can. read_core n e sections counts peak can;
  }

  module _ (i : Change) (x : CheckedChange) (ws : List Write) (rows : ℕ) (r : reads script item (Changes i)) (fine : resolves e.catalog i (Fine x)) (a : Effects x (Done ws rows)) (some : 0 < rows) (written : ws ≡ [] → ⊥)
      (in_order : IsInOrder ws) (fit : FitWrites (shapes e.catalog) ws) where
    pub full_is : most_log_writes < held e.log + length ws → Answers script n e item (LogFull (length e.log) (held e.log)) e
    full_is full = let own : Limited = record { list = ws; limit = most_transaction_writes } in record {
      writes = own;
      limited = refl;
      judged = λ sections counts outs seen. changed_alone i x NewView rows ws r fine (starts_here sections counts outs seen own) (under_none x (Done ws rows) a) some
          (filled (held e.log) (refl, no_conflict e.log ws, refl, full) refl) refl;
      core = λ sections counts peak can. full_core n e sections counts peak can own written in_order fit full;
    }

    pub changed_is : (commit : Commit) (e' : Engine) → commit.writes.limit ≡ most_transaction_writes → held e.log + length ws ≤ most_log_writes → IsCommit commit n (length e.log) ws
        → e'.catalog ≡ e.catalog → e'.log ≡ e.log ++ commit ∷ [] → e'.base ≡ base_after e.base (length e.log) → e'.peak ≡ peak_after e.base (length e.log) e.peak
        → Answers script n e item (ChangedAlone rows (length e.log) (length e.log + 1)) e'
    changed_is commit e' limited room is catalog log base after = record {
      writes = commit.writes;
      limited = limited;
      judged = λ sections counts outs seen. changed_alone i x NewView rows ws r fine (starts_here sections counts outs seen commit.writes) (under_none x (Done ws rows) a) some
          (logged (length e.log + 1) commit (taken, refl, refl) is refl)
          (ap resting catalog);
      core = λ sections counts peak can. subst (λ k. AfterItem (shapes k) most_log_writes (core_of sections counts e)
          (events.Pin n ∷ events.Commit n (length e.log) commit.writes ∷ events.Release n ∷ marking n) (ChangedAlone rows (length e.log) (length e.log + 1)) (core_of sections (counts_then n 1 counts) e')) (sym catalog)
          (commit_core n e sections counts peak can commit.writes
          (λ z. written (sym is.writes ∙ z)) (subst IsInOrder (sym is.writes) in_order) (subst (FitWrites (shapes e.catalog)) (sym is.writes) fit) (omega (arith, room, ap length is.writes)) e' (log ∙ ap (λ c. e.log ++ c ∷ []) own_is) base after);
    } where
      own_is : commit ≡ record { session = n; from = length e.log; writes = commit.writes }
      own_is = λ j. record { session = is.session j; from = is.from j; writes = commit.writes }

      taken : IsTaken most_log_writes e.log commit
      taken = record {
        before = omega (arith, is.from);
        some = λ z. written (sym is.writes ∙ z);
        free = ap (λ k. conflict e.log k commit.writes.list) is.from ∙ no_conflict e.log commit.writes.list;
        room = omega (arith, room, ap length is.writes);
      }

  pub query_fault_is : (q : Query) (kind : FaultKind) (at : ℕ) → reads script item (Asks q) → checks e.catalog q (Faulty kind at) → Answers script n e item (AtByte kind at) e
  query_fault_is q kind at r faulty = told kind at (λ sections counts outs seen. query_fault q kind at r faulty refl refl)

  pub rows_are : (q : Query) (y : CheckedQuery) (rows : List Row) → reads script item (Asks q) → checks e.catalog q (Fine y) → Answer (shapes e.catalog) (after e.log (length e.log)) y rows → IsSorted row_order rows
      → Answers script n e item (Rows (length e.log) e.base (column_names y) rows) e
  rows_are q y rows r fine a sorted = record {
    writes = no_writes;
    limited = refl;
    judged = λ sections counts outs seen. answered q y NewView e.base rows r fine (inr (starts_here sections counts outs seen no_writes))
        (subst (λ t. Answer (shapes e.catalog) t y rows) (sym (unwritten (after e.log (length e.log)))) a, sorted) (sym (base_is sections counts e n)) refl refl;
    core = λ sections counts peak can. read_core n e sections counts peak can;
  }

-- what cannot be read as a statement that runs
pub not_read : (n : ℕ) (e : Engine) (r : Reading Define Change Query) (kind : FaultKind) (at : ℕ) (o : Outcome) → r ≡ Unread kind at → o ≡ AtByte kind at → AnswersTo r n e o e
not_read n e r kind at o says is script item read = subst (λ x. Answers script n e item x e) (sym is) (unread_is script n e item kind at (subst (reads script item) says read))

-- a statement of a part of the text, by what that reads as
pub part_ok : (script : Script) (n from to : ℕ) (e e' : Engine) (p : Parsed) (r : Result Outcome AllocError) → IsParsedOf script.text from to p → IfOk r (λ o. AnswersTo (reading_of p) n e o e') → IfOk r (λ o. Answers script n e (Sql from to) o e')
part_ok script n from to e e' p (Ok o) is h = h script (Sql from to) (p, is, refl)
part_ok script n from to e e' p (Err x) is h = tt

-- a statement that is not run yet
pub not_run : (n : ℕ) (e : Engine) (r : Reading Define Change Query) (at : ℕ) (o : Outcome) → r ≡ Unread NotYet at → o ≡ AtByte NotYet at → AnswersTo r n e o e
not_run n e r at o = not_read n e r NotYet at o
