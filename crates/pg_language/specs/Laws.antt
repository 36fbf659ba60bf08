-- Laws of the language of scripts.
use Rattle.std.specs.Prelude.{ℕ, ◌≡◌, List}
use Rattle.pg_value.specs.declared.write.Write.{Write}
use Rattle.pg_value.specs.Tables.{Tables}
use Rattle.pg_value.specs.Writes.{IsInOrder}
use Rattle.pg_ast.specs.declared.define.Define.{Define}
use Rattle.pg_meaning.specs.declared.checked.CheckedChange.{CheckedChange}
use Rattle.pg_meaning.specs.OneAnswer.{has_one_answer}
use Rattle.pg_rules.specs.Catalog.{Defined}
use Rattle.pg_rules.specs.Catalog.LookUps.{nothing}
use Rattle.pg_rules.specs.Catalog.Shapes.{shapes}
use Rattle.pg_script.specs.declared.script.Script.{Script}
use Rattle.pg_script.specs.declared.transcript.Transcript.{Transcript}
use Rattle.pg_script.specs.Judged.{Fine, Done}
use Rattle.pg_script.specs.Exact.{AsksPlain}
use Rattle.pg_script.specs.Legal.{Legal}
use Rattle.pg_script.specs.Fitting.{Extends, LogFits}
use Rattle.pg_script.specs.Text.{text_of}
use Rattle.pg_session.specs.Stepped.{Stepped}
use Rattle.pg_language.specs.Language.{defines, affects, language}

-- of a script without ANY and ANY SHORTEST: two transcripts of stepped runs are equal, and so their texts
abbrev pub TranscriptsAreOne : Type 0
TranscriptsAreOne = (empty : Defined) (limit : ℕ) (script : Script) (t t' : Transcript)
    → AsksPlain (language script) has_one_answer script
    → Stepped (language script) empty limit script t
    → Stepped (language script) empty limit script t'
    → (t ≡ t') × (text_of t ≡ text_of t')

-- an accepted definition leaves the tables that there are at their places
abbrev pub DefinitionsExtend : Type 0
DefinitionsExtend = (d : Defined) (definition : Define) (name : List ℕ) (d' : Defined) → defines d definition (Fine (name, d')) → Extends (shapes d) (shapes d')

-- a change leaves writes in order of table and key, no place twice, where they were
abbrev pub WritesStayInOrder : Type 0
WritesStayInOrder = (d : Defined) (tables : Tables) (ws : List Write) (x : CheckedChange) (ws' : List Write) (rows : ℕ)
    → IsInOrder ws → affects d tables ws x (Done ws' rows) → IsInOrder ws'

-- each commit of a legal transcript fits the shapes of its definitions, and its writes stand in order
abbrev pub LogsFit : Type 0
LogsFit = (limit : ℕ) (script : Script) (t : Transcript) → (legal : Legal (language script) nothing limit script t) → LogFits (shapes legal.catalog) t.log
