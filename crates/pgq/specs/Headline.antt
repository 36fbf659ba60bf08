-- What the program reads and writes, by its status.
use Rattle.std.specs.Prelude.{ℕ, ◌≡◌, ◌≤◌, ◌<◌, List, length}
use Rattle.std.specs.declared.option.Option.{Option}
use Rattle.std.specs.Io.KnownBytes.{Appends, Keeps}
use Rattle.pg_outside.specs.Causes.{Rose}
use Rattle.pg_script.specs.declared.transcript.Transcript.{Transcript}
use Rattle.pg_script.specs.Text.{text_of}
use Rattle.pg_script.specs.declared.script.Script.{Script}
use Rattle.pg_script.specs.declared.fault.ScriptKind.{ScriptKind}
use Rattle.pg_script.specs.Script.{most_bytes, IsScript, IsScriptFault}
use Rattle.pgq.specs.Bytes.{ReadsAll, ReadsSome, TookFront}
use Rattle.pgq.specs.Words.{HasForm, HasNoForm}
use Rattle.pgq.specs.Sections.{IsStepped}
use Rattle.pgq.specs.declared.words.Form.{Form}
use Rattle.pgq.specs.declared.words.Form.TheVariants.{Step}
use Rattle.pgq.specs.declared.step.NoText.{NoText}
use Rattle.pgq.specs.declared.step.NoText.TheVariants as no_text
use Rattle.pgq.specs.declared.status.Status.{Status}
use Rattle.pgq.specs.declared.status.Status.TheVariants.{Done, BadScript, BadWords, ReadFault, WriteFault, Memory, NotYet}

-- WHAT THE BYTES ARE

-- What a form makes of a script is a relation between scripts and their transcripts: that the transcript is legal, that it is legal and the stepped
-- run's, or another. The definitions below take it as a parameter.
abbrev pub Relation : Type 1
Relation = Script → Transcript → Type 0

-- the transcript is of the script which these bytes are, as the form makes one
pub record IsRunOf (makes : Relation) (bytes : List ℕ) (t : Transcript) : Type 0 where
  pub script : Script
  pub is_script : IsScript bytes script
  pub run : makes script t

-- the text is that of a transcript that the form makes of the script
abbrev pub IsTextOfRun : Relation → Script → List ℕ → Type 0
IsTextOfRun makes script text = (t : Transcript) × makes script t × (text ≡ text_of t)

-- the text is that of such a transcript
abbrev pub IsTextOf : Relation → List ℕ → List ℕ → Type 0
IsTextOf makes bytes text = (t : Transcript) × IsRunOf makes bytes t × (text ≡ text_of t)

-- the bytes are a script of two or more sessions
abbrev pub HasSessions : List ℕ → Type 0
HasSessions bytes = (script : Script) × IsScript bytes script × (2 < length script.sections)

-- why no text was made of the bytes of an input
abbrev pub IsNoText : List ℕ → NoText → Type 0
IsNoText bytes (no_text.Bad line kind) = IsScriptFault bytes line kind
IsNoText bytes no_text.NotYet = HasSessions bytes
IsNoText bytes no_text.Memory = Unit {0}

-- WHAT WAS READ

-- the source was read to its end, and the text is that of a transcript of what was read, as the form makes one
pub record ReadsRun (makes : Relation) (before after : Option (List ℕ)) (text : List ℕ) : Type 0 where
  pub bytes : List ℕ
  pub read : ReadsAll most_bytes before after bytes
  pub short : length bytes ≤ most_bytes
  pub is_text : IsTextOf makes bytes text

-- the source was read to its end, and the bytes are a script of two or more sessions, which is not run yet
pub record ReadsNoRun (before after : Option (List ℕ)) : Type 0 where
  pub bytes : List ℕ
  pub read : ReadsAll most_bytes before after bytes
  pub sessions : HasSessions bytes

-- What was read is no script, by this fault: all of the source, or one byte more than a script may have.
pub record ReadsNoScript (before after : Option (List ℕ)) (line : ℕ) (kind : ScriptKind) : Type 0 where
  pub bytes : List ℕ
  pub read : ReadsAll most_bytes before after bytes
  pub fault : IsScriptFault bytes line kind

-- BY THE STATUS

-- the bytes that are left to read and those that the sink holds, before and after, where they are told, and the counts of faults
module _ (left left' : Option (List ℕ)) (read_faults read_faults' : ℕ) (held held' : Option (List ℕ)) (write_faults write_faults' : ℕ) where
  -- no read and no write failed
  pub record HasNoFault : Type 0 where
    pub no_read_fault : read_faults' ≡ read_faults
    pub no_write_fault : write_faults' ≡ write_faults

  -- a form that reads a script and writes the text of a transcript: what was read and written, and why, by the status
  abbrev pub TranscriptMeans : Relation → Status → Type 0
  TranscriptMeans makes Done = (text : List ℕ) × ReadsRun makes left left' text × Appends held held' text × HasNoFault
  TranscriptMeans makes (BadScript line kind) = ReadsNoScript left left' line kind × Keeps held held' × HasNoFault
  TranscriptMeans makes BadWords = ⊥
  TranscriptMeans makes ReadFault = Rose read_faults read_faults' × (write_faults' ≡ write_faults) × ReadsSome most_bytes left left' × Keeps held held'
  TranscriptMeans makes WriteFault = Rose write_faults write_faults' × (read_faults' ≡ read_faults) × ((text : List ℕ) × ReadsRun makes left left' text × TookFront held held' text)
  TranscriptMeans makes Memory = ReadsSome most_bytes left left' × Keeps held held' × HasNoFault
  TranscriptMeans makes NotYet = ReadsNoRun left left' × Keeps held held' × HasNoFault

  -- what each form of the words does
  abbrev pub FormMeans : Form → Status → Type 0
  FormMeans Step status = TranscriptMeans IsStepped status

  -- nothing was read or written, and no fault came
  pub record Untouched : Type 0 where
    pub kept_left : Keeps left left'
    pub same_read_faults : read_faults' ≡ read_faults
    pub kept_held : Keeps held held'
    pub same_write_faults : write_faults' ≡ write_faults

  -- the program: bad words exactly where the words have no form, and else what their form does
  abbrev pub TopMeans : List (List ℕ) → Status → Type 0
  TopMeans words BadWords = HasNoForm words × Untouched
  TopMeans words status = (form : Form) × HasForm form words × FormMeans form status
