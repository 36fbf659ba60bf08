-- A section's items answered one after another, and the run of a script of a setup and at most one session.
use Rattle.std.specs.Prelude.{ℕ, ◌≡◌, ◌+◌, ◌≤◌, ◌<◌, ◌^◌, Bool, false, List, [], ◌∷◌, map, length, replicate, get_or, slice_set}
use Rattle.std.specs.declared.option.Option.TheVariants.{None}
use Rattle.std.specs.List.{AllZip}
use Rattle.pg_rules.specs.Catalog.{Defined}
use Rattle.pg_keyed.specs.Keyed.{Each}
use Rattle.pg_script.specs.declared.script.Item.{Item}
use Rattle.pg_script.specs.declared.script.Item.TheVariants.{Sql}
use Rattle.pg_script.specs.declared.script.Section.{Section}
use Rattle.pg_script.specs.declared.script.Script.{Script}
use Rattle.pg_script.specs.declared.outcome.Outcome.{Outcome}
use Rattle.pg_script.specs.declared.transcript.SectionOut.{SectionOut}
use Rattle.pg_script.specs.declared.transcript.Transcript.{Transcript}
use Rattle.pg_rules.specs.Catalog.LookUps.{nothing}
use Rattle.pg_script.specs.Legal.{items_of, Legal}
use Rattle.pgq.specs.declared.engine.Engine.{Engine}
use Rattle.pg_session.specs.Stepped.{World, Run, no_run, Turns, section_outs, Stepped}
use Rattle.pg_lex.specs.Parts.{IsPartAt}
use Rattle.pg_language.specs.Language.{language}
use Rattle.pgq.specs.Engine.{most_log_writes, core_of, counts_then, CanCount}

abbrev pub world : ℕ → List ℕ → List Run → Engine → World Defined
world sections counts runs e = record { core = core_of sections counts e; catalog = e.catalog; runs = runs }

-- what a section has answered, with no transaction open
abbrev pub closed : List Outcome → Run
closed outs = record { outs = outs; open_ = None }

-- the runs, when section n has answered so
abbrev pub runs_then : ℕ → List Outcome → List Run → List Run
runs_then n outs runs = slice_set runs n (closed outs)

-- Items of a script's section n, from its first on, have answered so: where the section's items are these, by as many turns of a stepped run from any
-- world in which the section has answered nothing.
abbrev pub HasAnswered : Script → ℕ → List Item → Engine → List Outcome → Engine → Type 0
HasAnswered script n items e outs e' =
    (sections : ℕ) (counts : List ℕ) (runs : List Run) → items_of script n ≡ items → n < length runs → CanCount sections counts n (length items) → get_or runs n no_run ≡ no_run
    → Turns (language script) most_log_writes script (world sections counts runs e) (replicate (length outs) n) (world sections (counts_then n (length outs) counts) (runs_then n outs runs) e')

-- a section's items have all been answered
pub record IsWhole (script : Script) (n : ℕ) (e : Engine) (outs : List Outcome) (e' : Engine) : Type 0 where
  pub answered : HasAnswered script n (items_of script n) e outs e'
  pub all : length outs ≡ length (items_of script n)

-- the transcript of a script whose sections have answered so
abbrev pub transcript : Script → List (List Outcome) → Engine → Transcript
transcript script answers e = record {
  has_setup = script.has_setup;
  sections = section_outs script.sections (map closed answers);
  tables = map (λ t. t.0) e.catalog.0;
  log = e.log;
  peak = e.peak;
}

-- the sections from number n on answered whole, one after another
abbrev pub HaveAnswered : Script → ℕ → Engine → List (List Outcome) → Engine → Type 0
HaveAnswered script n e [] e' = e' ≡ e
HaveAnswered script n e (outs ∷ more) e' = (m : Engine) × IsWhole script n e outs m × HaveAnswered script (n + 1) m more e'

-- WHAT RUNNING THE SECTIONS GIVES

-- what is printed of a section, with no transaction open at its end
abbrev pub IsOutOf : Section → SectionOut → Type 0
IsOutOf section out = (out.name ≡ section.name) × (out.rolled_back ≡ false)

abbrev pub answers_of : List SectionOut → List (List Outcome)
answers_of outs = map (λ o. o.outcomes) outs

-- one section, by its number
pub record HasRunSection (script : Script) (n : ℕ) (section : Section) (e : Engine) (out : SectionOut) (e' : Engine) : Type 0 where
  pub whole : IsWhole script n e out.outcomes e'
  pub out_of : IsOutOf section out

-- these sections, which are the script's first
pub record HaveRun (script : Script) (sections : List Section) (e : Engine) (outs : List SectionOut) (e' : Engine) : Type 0 where
  pub answered : HaveAnswered script 0 e (answers_of outs) e'
  pub outs_of : AllZip IsOutOf sections outs

-- THE RUN

-- the transcript of sections that have printed so, under these names of tables
abbrev pub printed_by : Engine → Bool → List SectionOut → List (List ℕ) → Transcript
printed_by e has_setup outs names = record { has_setup = has_setup; sections = outs; tables = names; log = e.log; peak = e.peak }

-- the item is a statement that stands in the text
abbrev pub IsStatementIn : List ℕ → Item → Type 0
IsStatementIn text item = (from to : ℕ) × (item ≡ Sql from to) × IsPartAt text from to

-- a script of the setup and at most one session, whose items are statements, and whose order names that session alone
pub record IsRunnable (script : Script) : Type 0 where
  pub short : length script.text < 2 ^ 32
  pub some : 0 < length script.sections
  pub few : length script.sections ≤ 2
  pub statements : Each (λ (s : Section). Each (IsStatementIn script.text) s.items) script.sections
  pub few_items : (n : ℕ) → length (items_of script n) < 2 ^ 32
  pub order : Each (λ n. (0 < n) × (n < length script.sections)) script.order

-- the transcript is legal
abbrev pub IsLegal : Script → Transcript → Type 0
IsLegal script t = Legal (language script) nothing most_log_writes script t

-- the transcript is the stepped run's, and legal
pub record IsRun (script : Script) (t : Transcript) : Type 0 where
  pub stepped : Stepped (language script) nothing most_log_writes script t
  pub legal : IsLegal script t

-- what `step` makes today: the run of a script of at most one session
pub record IsStepped (script : Script) (t : Transcript) : Type 0 where
  pub one_session : length script.sections ≤ 2
  pub run : IsRun script t
