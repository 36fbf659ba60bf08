-- A legal transcript of a script: one lawful log against which every section is judged.
use Rattle.std.specs.Prelude.{◌≡◌, ◌≢◌, ℕ, ◌+◌, ◌<◌, ◌≤◌, ◌==◌, false, cond, List, [], ◌∷◌, length, map, get_or, slice_get, is_some}
use Rattle.std.specs.declared.option.Option.TheVariants.{Some, None}
use Rattle.pg_value.specs.declared.write.Commit.{Commit}
use Rattle.pg_value.specs.Log.{IsLawful}
use Rattle.pg_script.specs.declared.script.Item.{Item}
use Rattle.pg_script.specs.declared.script.Section.{Section}
use Rattle.pg_script.specs.declared.script.Script.{Script}
use Rattle.pg_script.specs.declared.outcome.Outcome.{Outcome}
use Rattle.pg_script.specs.declared.transcript.SectionOut.{SectionOut}
use Rattle.pg_script.specs.declared.transcript.Transcript.{Transcript}
use Rattle.pg_script.specs.Judged.{Judges, Session}
use Rattle.pg_script.specs.Session.{IsMet, whole, Runs, all_printed}

abbrev pub no_section : Section
no_section = record { name = []; items = [] }

abbrev pub items_of : Script → ℕ → List Item
items_of script n = (get_or script.sections n no_section).items

abbrev pub no_answers : SectionOut
no_answers = record { name = []; outcomes = []; rolled_back = false }

abbrev pub outcomes_of : List SectionOut → ℕ → List Outcome
outcomes_of sections n = (get_or sections n no_answers).outcomes

-- the numbers of section n's commits, the first of the list being numbered `at`
abbrev pub places : ℕ → ℕ → List Commit → List ℕ
places n at [] = []
places n at (c ∷ cs) = cond (c.session == n) (at ∷ places n (at + 1) cs) (places n (at + 1) cs)

-- how many commits the setup made
abbrev pub setup_of : List Commit → ℕ
setup_of log = length (places 0 1 log)

-- A section is legal over a log, and by what AFTER is judged by: its items have answered so from this catalog on, and leave that one; it says
-- `rolled back` where a transaction is left open. (Where a session is judged alone, `met` is what it noted.)
pub record IsLegalSection {K D C Q X Y : Type 0} (J : Judges K D C Q X Y) (limit : ℕ) (log : List Commit) (met : ℕ → ℕ → ℕ → Type 0) (n seen : ℕ) (items : List Item) (out : SectionOut) (catalog catalog' : K) : Type 0 where
  pub last : Session K
  pub runs : Runs J (whole limit log met n) n seen (record { open_ = None; catalog = catalog }) items out.outcomes last
  pub leaves : last.catalog ≡ catalog'
  pub rolled_back : out.rolled_back ≡ is_some last.open_

abbrev pub section_out : Transcript → ℕ → SectionOut
section_out t n = get_or t.sections n no_answers

-- The setup begins with an empty log and the empty catalog, each session with the setup's commits and the catalog that the setup left.
pub record Legal {K D C Q X Y : Type 0} (J : Judges K D C Q X Y) (empty : K) (limit : ℕ) (script : Script) (t : Transcript) : Type 0 where
  pub catalog : K
  pub lawful : IsLawful limit t.log
  pub as_setup : t.has_setup ≡ script.has_setup
  pub as_named : map (λ s. s.name) t.sections ≡ map (λ s. s.name) script.sections
  pub setup : IsLegalSection J limit t.log (IsMet (outcomes_of t.sections)) 0 0 (items_of script 0) (section_out t 0) empty catalog
  pub each : (n : ℕ) → 0 < n → n < length script.sections → IsLegalSection J limit t.log (IsMet (outcomes_of t.sections)) n (setup_of t.log) (items_of script n) (section_out t n) catalog catalog
  -- the commits of each section in the log are those that its outcomes print, in order, each once
  pub entries : (n : ℕ) → places n 1 t.log ≡ all_printed (outcomes_of t.sections n)
  -- the setup's come first
  pub setup_first : (c : ℕ) (commit : Commit) → slice_get t.log c ≡ Some commit → setup_of t.log ≤ c → commit.session ≢ 0
  pub tables_named : t.tables ≡ J.tables catalog
  pub peak : t.peak.0 ≤ t.peak.1 + 2
