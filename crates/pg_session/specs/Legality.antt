-- The laws of stepped runs: what steps lead to is legal, and under an exact language it is one thing.
use Rattle.std.specs.Prelude.{ℕ, ◌≡◌, Bool, List, Contains}
use Rattle.pg_value.specs.declared.write.Commit.{Commit}
use Rattle.pg_script.specs.declared.script.Item.{Item}
use Rattle.pg_script.specs.declared.script.Script.{Script}
use Rattle.pg_script.specs.declared.outcome.Outcome.{Outcome}
use Rattle.pg_script.specs.declared.transcript.SectionOut.{SectionOut}
use Rattle.pg_script.specs.declared.transcript.Transcript.{Transcript}
use Rattle.pg_script.specs.Judged.{Judges}
use Rattle.pg_script.specs.Session.{Meeting, IsMet, IsNoted}
use Rattle.pg_script.specs.Legal.{IsLegalSection, Legal}
use Rattle.pg_script.specs.Exact.{IsExact, AsksPlain}
use Rattle.pg_script.specs.Fitting.{IsFitting, LogFits}
use Rattle.pg_script.specs.Text.{text_of}
use Rattle.pg_session.specs.Stepped.{Stepped, AreSessionTurns, Earlier}

-- Under a language, which may say of an item by its script what it says: every stepped run of a script whose AFTERs name items of earlier
-- sections, and whose order names sessions, has a legal transcript.
abbrev pub SteppedRunsAreLegal : {K D C Q X Y : Type 0} → (Script → Judges K D C Q X Y) → Type 0
SteppedRunsAreLegal {K} J = (empty : K) (limit : ℕ) (script : Script) (t : Transcript)
    → Earlier (J script) script → AreSessionTurns script.order → Stepped (J script) empty limit script t → Legal (J script) empty limit script t

-- A script whose queries are plain has, under a language that is exact for plain queries, at most one transcript of a stepped run, and one text.
abbrev pub SteppedRunsAreOne : {K D C Q X Y : Type 0} → (Script → Judges K D C Q X Y) → Type 0
SteppedRunsAreOne {K} {D} {C} {Q} {X} {Y} J = (plain : Y → Bool) (empty : K) (limit : ℕ) (script : Script) (t t' : Transcript)
    → IsExact (J script) plain → AsksPlain (J script) plain script → Stepped (J script) empty limit script t → Stepped (J script) empty limit script t' → (t ≡ t') × (text_of t ≡ text_of t')

-- Under a language whose changes write what fits, each commit of a legal transcript fits the shapes of its definitions, and its writes stand in order.
abbrev pub LegalLogsFit : {K D C Q X Y : Type 0} → (Script → Judges K D C Q X Y) → Type 0
LegalLogsFit {K} J = (empty : K) (limit : ℕ) (script : Script) (t : Transcript)
    → IsFitting (J script) empty → (legal : Legal (J script) empty limit script t) → LogFits ((J script).shapes legal.catalog) t.log

-- A section that is legal by the AFTERs that it noted is legal in the whole run, where each that it noted was met.
abbrev pub NotedSectionsAreLegal : {K D C Q X Y : Type 0} → (Script → Judges K D C Q X Y) → Type 0
NotedSectionsAreLegal {K} J = (limit : ℕ) (script : Script) (log : List Commit) (meetings : List Meeting) (outs : ℕ → List Outcome) (n seen : ℕ) (items : List Item) (out : SectionOut) (catalog catalog' : K)
    → ((m : Meeting) → Contains meetings m → IsMet outs m.session m.items m.at)
    → IsLegalSection (J script) limit log (IsNoted meetings) n seen items out catalog catalog' → IsLegalSection (J script) limit log (IsMet outs) n seen items out catalog catalog'
