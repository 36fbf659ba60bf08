-- Which script the bytes of an input are, and what is wrong with bytes that are none.
use Rattle.std.specs.Prelude.{ℕ, ◌≡◌, ◌≢◌, ◌⊎◌, ◌+◌, ◌≤◌, ◌<◌, ◌&&◌, Bool, true, false, not, cond, List, [], ◌∷◌, ◌++◌, length, take, filter, slice_get, codes}
use Rattle.std.specs.declared.option.Option.TheVariants.{Some}
use Rattle.std.specs.List.{AllZip, list_any, flat_map}
use Rattle.std.specs.Str.{bytes_eq, IsUtf8}
use Rattle.pg_lex.specs.Tokens.{Gap}
use Rattle.pg_script.specs.declared.script.Item.{Item}
use Rattle.pg_script.specs.declared.script.Item.TheVariants.{Sql, After}
use Rattle.pg_script.specs.declared.script.Section.{Section}
use Rattle.pg_script.specs.declared.script.Script.{Script}
use Rattle.pg_script.specs.declared.fault.ScriptKind.{ScriptKind}
use Rattle.pg_script.specs.declared.fault.ScriptKind.TheVariants as kinds
use Rattle.pg_script.specs.declared.fault.ScriptFault.{ScriptFault}
use Rattle.pg_script.specs.declared.fault.ScriptFault.TheVariants as faults
use Rattle.pg_script.specs.Layout.{line_at, Block, IsLaidOut, Header, Setup, Session, Order, Other, IsHeader, Turn, AreTurns}
use Rattle.pg_script.specs.Statements.{Statement, HasStatements}
use Rattle.pg_script.specs.After.{begins_after, number_from, IsAfter}

-- SECTIONS AS THEY ARE READ

-- A section: its line, and by it the statements of its text, or the words of the order.
pub record Part : Type 0 where
  pub at : ℕ
  pub header : Header
  pub statements : List Statement
  pub turns : List Turn

abbrev pub HasContent : Header → Block → List Statement → List Turn → Type 0
HasContent Setup b statements turns = HasStatements b.from b.text statements × (turns ≡ [])
HasContent (Session name) b statements turns = HasStatements b.from b.text statements × (turns ≡ [])
HasContent Order b statements turns = (statements ≡ []) × AreTurns b.from b.text turns
HasContent Other b statements turns = (statements ≡ []) × (turns ≡ [])

pub record IsPart (b : Block) (p : Part) : Type 0 where
  pub at : p.at ≡ b.at
  pub header : IsHeader b.line p.header
  pub content : HasContent p.header b p.statements p.turns

-- the input as it is read: what stands before the first section line, and the sections in order
pub record IsRead (bytes head : List ℕ) (parts : List Part) : Type 0 where
  pub blocks : List Block
  pub laid_out : IsLaidOut bytes head blocks
  pub each : AllZip IsPart blocks parts

abbrev pub is_setup : Header → Bool
is_setup Setup = true
is_setup _ = false

abbrev pub is_session : Header → Bool
is_session (Session name) = true
is_session _ = false

abbrev pub is_order : Header → Bool
is_order Order = true
is_order _ = false

abbrev pub has_setup : List Part → Bool
has_setup = list_any (λ p. is_setup p.header)

abbrev pub has_order : List Part → Bool
has_order = list_any (λ p. is_order p.header)

abbrev pub sessions : List Part → List Part
sessions = filter (λ p. is_session p.header)

abbrev pub is_session_of : List ℕ → Header → Bool
is_session_of name (Session other) = bytes_eq name other
is_session_of name _ = false

-- a session of this name stands among the sections
abbrev pub has_session : List ℕ → List Part → Bool
has_session name = list_any (λ p. is_session_of name p.header)

-- AFTER, behind these sections: the number of the earlier session that it names, from 1, and how many of its items are awaited
pub record IsAfterOf (before : List Part) (bytes : List ℕ) (section n : ℕ) : Type 0 where
  pub name : List ℕ
  pub digits : List ℕ
  pub is : IsAfter bytes name digits
  pub place : ℕ
  pub earlier : Part
  pub stands : slice_get (sessions before) place ≡ Some earlier
  pub named : earlier.header ≡ Session name
  pub section_is : section ≡ place + 1
  pub n_is : n ≡ number_from 0 digits
  pub some : 1 ≤ n
  pub within : n ≤ length earlier.statements

-- WHAT IS WRONG WITH AN INPUT

-- `@setup` stands first, the names of sessions differ, and `@order` stands last
abbrev pub is_in_place : List Part → Header → Bool
is_in_place [] Setup = true
is_in_place (p ∷ ps) Setup = false
is_in_place before (Session name) = not (has_order before) && not (has_session name before)
is_in_place before Order = not (has_order before)
is_in_place before Other = false

-- the statement of this place in its section
abbrev pub Stands : List Statement → Statement → Type 0
Stands statements s = (front back : List Statement) × (statements ≡ front ++ s ∷ back)

-- what is wrong with a section behind other sections: the line, and the kind of the fault
pub data IsWrong (bytes : List ℕ) (before : List Part) (p : Part) (line : ℕ) (kind : ScriptKind) : Type 0 where
  -- no section line of a form, or one that may not stand here
  misplaced : is_in_place before p.header ≡ false → line ≡ line_at bytes p.at → kind ≡ kinds.Section → IsWrong bytes before p line kind
  -- a word of the order that is no session's name
  unknown : (front back : List Turn) (t : Turn) → p.turns ≡ front ++ t ∷ back → has_session t.name before ≡ false → line ≡ line_at bytes t.at → kind ≡ kinds.Section → IsWrong bytes before p line kind
  -- the 65th session
  many_sessions : is_session p.header ≡ true → 64 ≤ length (sessions before) → line ≡ line_at bytes p.at → kind ≡ kinds.Sessions → IsWrong bytes before p line kind
  -- the 100,001st statement of a section
  many_statements : (s : Statement) → slice_get p.statements 100000 ≡ Some s → line ≡ line_at bytes s.from → kind ≡ kinds.Statements → IsWrong bytes before p line kind
  -- AFTER in the setup, or one that names no earlier session or none of its items, or has another form
  bad_after : (s : Statement) → Stands p.statements s → begins_after s.bytes ≡ true
      → ((section n : ℕ) → is_session p.header ≡ true → IsAfterOf before s.bytes section n → ⊥)
      → line ≡ line_at bytes s.from → kind ≡ kinds.AfterName → IsWrong bytes before p line kind

-- what is wrong with an input as it is read
pub data HasFault (bytes head : List ℕ) (parts : List Part) (line : ℕ) (kind : ScriptKind) : Type 0 where
  -- more than white space and comments before the first section line
  early : (gap rest : List ℕ) → head ≡ gap ++ rest → Gap gap rest → rest ≢ [] → line ≡ line_at bytes (length gap) → kind ≡ kinds.Section → HasFault bytes head parts line kind
  within : (before after : List Part) (p : Part) → parts ≡ before ++ p ∷ after → IsWrong bytes before p line kind → HasFault bytes head parts line kind

-- which of two faults on one line is the one
abbrev pub rank : ScriptKind → ℕ
rank kinds.TooLong = 0
rank kinds.NotText = 1
rank kinds.Section = 2
rank kinds.Sessions = 3
rank kinds.Statements = 4
rank kinds.AfterName = 5

-- the fault on the first line that has one
pub record IsFirstFault (bytes head : List ℕ) (parts : List Part) (line : ℕ) (kind : ScriptKind) : Type 0 where
  pub is : HasFault bytes head parts line kind
  pub first : (l : ℕ) (k : ScriptKind) → HasFault bytes head parts l k → (line < l) ⊎ ((line ≡ l) × (rank kind ≤ rank k))

-- so many bytes are UTF-8, and no longer front is
pub record IsLongestText (bytes : List ℕ) (place : ℕ) : Type 0 where
  pub within : place < length bytes
  pub text : IsUtf8 (take place bytes)
  pub longest : (n : ℕ) → place < n → n ≤ length bytes → IsUtf8 (take n bytes) → ⊥

abbrev pub most_bytes : ℕ
most_bytes = 16777216

pub record IsText (bytes : List ℕ) : Type 0 where
  pub short : length bytes ≤ most_bytes
  pub utf8 : IsUtf8 bytes

-- The bytes are no script, by this fault. Too many bytes come before all others, and then bytes that are no text.
abbrev pub IsScriptFault : List ℕ → ℕ → ScriptKind → Type 0
IsScriptFault bytes line kinds.TooLong = (most_bytes < length bytes) × (line ≡ 0)
IsScriptFault bytes line kinds.NotText = (length bytes ≤ most_bytes) × ((place : ℕ) × IsLongestText bytes place × (line ≡ line_at bytes place))
IsScriptFault bytes line kind = IsText bytes × ((head : List ℕ) × (parts : List Part) × IsRead bytes head parts × IsFirstFault bytes head parts line kind)

-- THE SCRIPT

-- an item of a section behind others
abbrev pub IsItem : List Part → Statement → Item → Type 0
IsItem before s (Sql from to) = (begins_after s.bytes ≡ false) × (from ≡ s.from) × (to ≡ s.to)
IsItem before s (After section n) = (begins_after s.bytes ≡ true) × IsAfterOf before s.bytes section n

abbrev pub setup_statements : List Part → List Statement
setup_statements = flat_map (λ p. cond (is_setup p.header) p.statements [])

pub record IsSetup (parts : List Part) (section : Section) : Type 0 where
  pub named : section.name ≡ codes "setup"
  pub items : AllZip (IsItem []) (setup_statements parts) section.items

-- a session and the section that it is, behind these sections
pub record IsSession (before : List Part) (p : Part) (section : Section) : Type 0 where
  pub named : p.header ≡ Session section.name
  pub items : AllZip (IsItem before) p.statements section.items

-- the sessions among the sections, in order; `before` are those before them
abbrev pub AreSessions : List Part → List Part → List Section → Type 0
AreSessions before [] sections = sections ≡ []
AreSessions before (p ∷ ps) sections =
    ((is_session p.header ≡ false) × AreSessions (before ++ p ∷ []) ps sections)
    ⊎ ((section : Section) × (more : List Section) × (sections ≡ section ∷ more) × IsSession before p section × AreSessions (before ++ p ∷ []) ps more)

-- a word of the order and the number of its session, from 1
pub record IsTurn (parts : List Part) (t : Turn) (section : ℕ) : Type 0 where
  pub place : ℕ
  pub session : Part
  pub stands : slice_get (sessions parts) place ≡ Some session
  pub named : session.header ≡ Session t.name
  pub section_is : section ≡ place + 1

abbrev pub all_turns : List Part → List Turn
all_turns = flat_map (λ p. p.turns)

-- The bytes are that script. Section 0 is the setup.
pub record IsScript (bytes : List ℕ) (script : Script) : Type 0 where
  pub is_text : IsText bytes
  pub head : List ℕ
  pub parts : List Part
  pub read : IsRead bytes head parts
  pub right : (line : ℕ) (kind : ScriptKind) → HasFault bytes head parts line kind → ⊥
  pub text : script.text ≡ bytes
  pub setup_stands : script.has_setup ≡ has_setup parts
  pub setup : Section
  pub others : List Section
  pub sections : script.sections ≡ setup ∷ others
  pub is_setup : IsSetup parts setup
  pub are_sessions : AreSessions [] parts others
  pub order : AllZip (IsTurn parts) (all_turns parts) script.order

-- what `split` answers where it gives no script; want of memory is free
abbrev pub IsNoScript : List ℕ → ScriptFault → Type 0
IsNoScript bytes faults.Memory = Unit {0}
IsNoScript bytes (faults.Bad line kind) = IsScriptFault bytes line kind
