-- What holds between the turns of a stepped run: it is legal so far.
use Rattle.std.proofs.Common.{◌≡◌, ◌≢◌, ◌==◌, ℕ, ◌+◌, ◌<◌, ◌≤◌, cond, List, [], ◌∷◌, ◌++◌, length, take, get_or}
use Rattle.std.specs.Prelude.{slice_get, slice_set}
use Rattle.std.specs.declared.option.Option.{Option}
use Rattle.std.specs.declared.option.Option.TheVariants.{Some, None}
use Rattle.pg_value.specs.declared.write.Commit.{Commit}
use Rattle.pg_value.specs.Log.{IsLawful}
use Rattle.pg_script.specs.declared.script.Script.{Script}
use Rattle.pg_script.specs.declared.outcome.Outcome.{Outcome}
use Rattle.pg_script.specs.Judged.{Judges, Session, Open}
use Rattle.pg_script.specs.Session.{all_printed, raised, NumbersWithin, IsMet, whole, Runs}
use Rattle.pg_script.specs.Legal.{items_of, places, setup_of}
use Rattle.pg_core.specs.Core.{Core, pin_of, most_over_base}
use Rattle.pg_session.specs.Stepped.{World, no_run, outs_of, session_at, first_seen}
use Rattle.pg_session.proofs.ItemCore.{IsNear, IsPeakFit}

abbrev pub first_session : {K : Type 0} → K → World K → ℕ → Session K
first_session empty w n = record { open_ = None; catalog = cond (n == 0) empty w.catalog }

-- the world after section n answered o, with this core, and was left as this session
abbrev pub moved : {K : Type 0} → World K → ℕ → Outcome → Core → Session K → World K
moved w n o core s = record { core = core; catalog = s.catalog; runs = slice_set w.runs n (record { outs = outs_of w.runs n ++ o ∷ []; open_ = s.open_ }) }

-- a section's pin: none without a transaction, and near the transaction's version until the section is finished
pub record IsPinned (log : List Commit) (pin : Option ℕ) (open_ : Option Open) (left : Type 0) : Type 0 where
  pub old : (t : Open) → open_ ≡ Some t → t.from ≤ length log
  pub free : open_ ≡ None → pin ≡ None
  pub near : (t : Open) → open_ ≡ Some t → left → (b : ℕ) × (pin ≡ Some b) × (b ≤ t.from) × (t.from ≤ b + most_over_base)

pub record SoFar {K D C Q X Y : Type 0} (J : Judges K D C Q X Y) (empty : K) (limit : ℕ) (script : Script) (w : World K) : Type 0 where
  pub lawful : IsLawful limit w.core.log
  pub near : IsNear w.core
  pub peak : IsPeakFit w.core
  pub as_many : length w.runs ≡ length script.sections
  pub seats : length script.sections ≤ length w.core.pins
  pub heard : (m : ℕ) → NumbersWithin (length w.core.log) 0 (outs_of w.runs m)
  pub fits : (m : ℕ) → length (outs_of w.runs m) ≤ length (items_of script m)
  pub runs : (m : ℕ) → Runs J (whole limit w.core.log (IsMet (outs_of w.runs)) m) m (first_seen w.core.log m) (first_session empty w m) (take (length (outs_of w.runs m)) (items_of script m)) (outs_of w.runs m) (session_at w m)
  pub pins : (m : ℕ) → IsPinned w.core.log (pin_of w.core m) (session_at w m).open_ (length (outs_of w.runs m) < length (items_of script m))
  pub entries : (m : ℕ) → places m 1 w.core.log ≡ all_printed (outs_of w.runs m)
  pub setup_low : setup_of w.core.log ≤ length w.core.log
  pub setup_first : (c : ℕ) (commit : Commit) → slice_get w.core.log c ≡ Some commit → setup_of w.core.log ≤ c → commit.session ≢ 0

-- while the setup runs, no session has begun, all commits are the setup's, and it has seen them all
pub record InSetup {K : Type 0} (w : World K) : Type 0 where
  pub alone : (m : ℕ) → (m ≡ 0 → ⊥) → get_or w.runs m no_run ≡ no_run
  pub all : setup_of w.core.log ≡ length w.core.log
  pub exact : length w.core.log ≡ raised 0 (outs_of w.runs 0)
