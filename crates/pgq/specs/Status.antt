-- How a run of the program is told: the number that it ends with, and its line on standard error.
use Rattle.std.specs.Prelude.{ℕ, List, [], ◌++◌, codes}
use Rattle.std.specs.Fmt.{decimal}
use Rattle.pg_script.specs.declared.fault.ScriptKind.{ScriptKind}
use Rattle.pg_script.specs.declared.fault.ScriptKind.TheVariants.{TooLong, NotText, Section, Sessions, Statements, AfterName}
use Rattle.pgq.specs.declared.status.Status.{Status}
use Rattle.pgq.specs.declared.status.Status.TheVariants.{Done, BadScript, BadWords, ReadFault, WriteFault, Memory, NotYet}

abbrev pub number_of : Status → ℕ
number_of Done = 0
number_of (BadScript line kind) = 1
number_of BadWords = 2
number_of ReadFault = 3
number_of WriteFault = 4
number_of Memory = 5
number_of NotYet = 6

-- the word for a kind of fault
abbrev pub word_of : ScriptKind → List ℕ
word_of TooLong = codes "TooLong"
word_of NotText = codes "NotText"
word_of Section = codes "Section"
word_of Sessions = codes "Sessions"
word_of Statements = codes "Statements"
word_of AfterName = codes "AfterName"

-- the line on standard error, without its end; `Done` has none
abbrev pub line_of : Status → List ℕ
line_of Done = []
line_of (BadScript line kind) = codes "pgq: line " ++ (decimal line ++ (codes ": " ++ word_of kind))
line_of BadWords = codes "pgq: bad words"
line_of ReadFault = codes "pgq: read fault"
line_of WriteFault = codes "pgq: write fault"
line_of Memory = codes "pgq: no memory"
line_of NotYet = codes "pgq: not yet"
