-- What is made of the sections so far, and which fault of several is the first.
use Rattle.std.specs.Prelude.{ℕ, ◌≡◌, ◌⊎◌, ◌+◌, ◌≤◌, ◌<◌, ◌&&◌, Bool, true, false, cond, nat_le, nat_lt, Option, Some, None, List, [], ◌∷◌, ◌++◌, length, map, take, drop, slice_get, codes}
use Rattle.std.specs.List.{AllZip, AllByRecursion}
use Rattle.pg_script.specs.declared.script.Item.{Item}
use Rattle.pg_script.specs.declared.script.Item.TheVariants.{Sql, After}
use Rattle.pg_lex.specs.Tokens.{Gap}
use Rattle.pg_script.specs.declared.script.Script.{Script}
use Rattle.pg_script.specs.declared.parts.Content.{Content}
use Rattle.pg_script.specs.declared.draft.Draft.{Draft}
use Rattle.pg_script.specs.declared.fault.ScriptKind.{ScriptKind}
use Rattle.pg_script.specs.declared.fault.ScriptKind.TheVariants as kinds
use Rattle.pg_script.specs.declared.fault.ScriptFault.{ScriptFault}
use Rattle.pg_script.specs.declared.fault.ScriptFault.TheVariants as faults
use Rattle.pg_script.specs.Layout.{line_at, Turn, Session}
use Rattle.pg_script.specs.Statements.{Statement}
use Rattle.pg_script.specs.After.{begins_after}
use Rattle.pg_script.specs.Script.{Part, is_session, is_session_of, has_setup, has_order, has_session, sessions, IsAfterOf, Stands, IsWrong, IsRead, HasFault, rank, IsItem, setup_statements, AreSessions, IsTurn, all_turns}
use Rattle.pg_script.specs.Passes.{Lies, Rise, AreSpread, header_in, statements_in, turns_in}

-- THE FIRST FAULT

-- of two faults the one comes before the other, or they are alike
abbrev pub Before : ℕ → ScriptKind → ℕ → ScriptKind → Type 0
Before line kind l k = (line < l) ⊎ ((line ≡ l) × (rank kind ≤ rank k))

-- a fault at a line, and no other one comes before it
pub record FirstOf (W : ℕ → ScriptKind → Type 0) (line : ℕ) (kind : ScriptKind) : Type 0 where
  pub is : W line kind
  pub first : (l : ℕ) (k : ScriptKind) → W l k → Before line kind l k

-- an answer that is the first fault, or want of memory
abbrev pub FaultOf : (ℕ → ScriptKind → Type 0) → ScriptFault → Type 0
FaultOf W faults.Memory = Unit {0}
FaultOf W (faults.Bad line kind) = FirstOf W line kind

abbrev pub NoneOf : (ℕ → ScriptKind → Type 0) → Type 0
NoneOf W = (l : ℕ) (k : ScriptKind) → W l k → ⊥

-- the fault, or the 100,001st statement where that is on the line `limit` and the fault is on no earlier one
abbrev pub earlier : ScriptFault → ℕ → ScriptFault
earlier faults.Memory limit = faults.Memory
earlier (faults.Bad line kind) limit = cond (nat_lt line limit) (faults.Bad line kind) (faults.Bad limit kinds.Statements)

-- ITEMS

-- the number of the first session, counted from n, that has this name and so many statements
abbrev pub find_session : List ℕ → ℕ → ℕ → List Part → Option ℕ
find_session name least n [] = None
find_session name least n (p ∷ ps) =
    cond (is_session p.header)
    (cond (is_session_of name p.header && nat_le least (length p.statements)) (Some n) (find_session name least (n + 1) ps))
    (find_session name least n ps)

-- AFTER that is no item of a section behind others, which is a session or not
abbrev pub IsBadAfter : List Part → Bool → Statement → Type 0
IsBadAfter before in_session s = (begins_after s.bytes ≡ true) × ((section n : ℕ) → in_session ≡ true → IsAfterOf before s.bytes section n → ⊥)

pub record IsGoodItem (before : List Part) (in_session : Bool) (s : Statement) (item : Item) : Type 0 where
  pub is : IsItem before s item
  pub good : IsBadAfter before in_session s → ⊥

-- one of the statements is such an AFTER
pub record HasBadAfter (bytes : List ℕ) (before : List Part) (in_session : Bool) (statements : List Statement) (line : ℕ) (kind : ScriptKind) : Type 0 where
  pub s : Statement
  pub stands : Stands statements s
  pub bad : IsBadAfter before in_session s
  pub line_is : line ≡ line_at bytes s.from
  pub kind_is : kind ≡ kinds.AfterName

-- there is a 100,001st statement
pub record HasMany (bytes : List ℕ) (statements : List Statement) (line : ℕ) (kind : ScriptKind) : Type 0 where
  pub s : Statement
  pub stands : slice_get statements 100000 ≡ Some s
  pub line_is : line ≡ line_at bytes s.from
  pub kind_is : kind ≡ kinds.Statements

abbrev pub HasBadStatement : List ℕ → List Part → Bool → List Statement → ℕ → ScriptKind → Type 0
HasBadStatement bytes before in_session statements line kind = HasMany bytes statements line kind ⊎ HasBadAfter bytes before in_session statements line kind

-- one of the words is no session's name
pub record HasUnknown (bytes : List ℕ) (before : List Part) (turns : List Turn) (line : ℕ) (kind : ScriptKind) : Type 0 where
  pub front : List Turn
  pub back : List Turn
  pub t : Turn
  pub stands : turns ≡ front ++ t ∷ back
  pub unknown : has_session t.name before ≡ false
  pub line_is : line ≡ line_at bytes t.at
  pub kind_is : kind ≡ kinds.Section

-- THE SECTIONS SO FAR

-- they are within the limits
pub record IsFair (parts : List Part) : Type 0 where
  pub few : length (sessions parts) ≤ 64
  pub short : AllByRecursion (λ p. length p.statements ≤ 100000) parts

-- what is made of the sections
pub record IsDraft (parts : List Part) (d : Draft) : Type 0 where
  pub setup_stands : d.has_setup ≡ has_setup parts
  pub order_stands : d.has_order ≡ has_order parts
  pub setup : AllZip (IsItem []) (setup_statements parts) d.setup
  pub made : AreSessions [] parts d.sessions
  pub count : length d.sessions ≡ length (sessions parts)
  pub order : AllZip (IsTurn parts) (all_turns parts) d.order
  pub fair : IsFair parts

-- a section's places stand somewhere in order
abbrev pub LiesSomewhere : Part → Type 0
LiesSomewhere p = (from to : ℕ) × Lies from to p

-- a section among the others is wrong
pub record IsWithin (bytes : List ℕ) (parts : List Part) (line : ℕ) (kind : ScriptKind) : Type 0 where
  pub before : List Part
  pub after : List Part
  pub p : Part
  pub stands : parts ≡ before ++ p ∷ after
  pub wrong : IsWrong bytes before p line kind

-- a section's part in a search: nothing where it is no session, and else whether it has this name and so many statements
abbrev pub session_match : List ℕ → ℕ → Part → Option Bool
session_match name least p = cond (is_session p.header) (Some (is_session_of name p.header && nat_le least (length p.statements))) None

-- the item of an AFTER with this name and number, whose number is exact where it is no greater than a section may have
abbrev pub IsWaitItem : List Part → List ℕ → ℕ → Option Item → Type 0
IsWaitItem before name number None = (place : ℕ) (earlier : Part) → slice_get (sessions before) place ≡ Some earlier → earlier.header ≡ Session name → 1 ≤ number → number ≤ length earlier.statements → ⊥
IsWaitItem before name number (Some (Sql from to)) = ⊥
IsWaitItem before name number (Some (After section n)) = (place : ℕ) × (earlier : Part) × (slice_get (sessions before) place ≡ Some earlier) × (earlier.header ≡ Session name) × (section ≡ place + 1) × (n ≡ number) × (1 ≤ n) × (n ≤ length earlier.statements) × (n ≤ 100000)

-- the statements begin at rising places
abbrev pub RiseSomewhere : List Statement → Type 0
RiseSomewhere statements = (low high : ℕ) × Rise low high (map (λ s. s.from) statements)

-- a section at a place with that content
abbrev pub part_with : List ℕ → ℕ → Content → Part
part_with bytes at content = record { at = at; header = header_in bytes content; statements = statements_in bytes content; turns = turns_in bytes content }

-- one section more was made something of, and nothing is wrong with it
pub record IsAdded (bytes : List ℕ) (before : List Part) (p : Part) (d : Draft) : Type 0 where
  pub drafted : IsDraft (before ++ p ∷ []) d
  pub right : NoneOf (IsWrong bytes before p)

-- nothing is wrong with these sections behind others
abbrev pub AreRight : List ℕ → List Part → List Part → Type 0
AreRight bytes before [] = Unit {0}
AreRight bytes before (p ∷ ps) = NoneOf (IsWrong bytes before p) × AreRight bytes (before ++ p ∷ []) ps

pub record IsDrafted (bytes : List ℕ) (parts : List Part) (d : Draft) : Type 0 where
  pub drafted : IsDraft parts d
  pub right : NoneOf (IsWithin bytes parts)

abbrev pub SpreadSomewhere : List ℕ → List Part → Type 0
SpreadSomewhere bytes parts = (from : ℕ) × AreSpread bytes from parts

-- the words stand at rising places
abbrev pub WordsRise : List Turn → Type 0
WordsRise turns = (low high : ℕ) × Rise low high (map (λ t. t.at) turns)

-- more than white space and comments stand in these bytes, from a place on
pub record IsEarly (head : List ℕ) (place : ℕ) : Type 0 where
  pub gap : Gap (take place head) (drop place head)
  pub within : place < length head

-- the input is read, nothing is wrong with it, and that is made of it
pub record IsSplit (bytes : List ℕ) (d : Draft) : Type 0 where
  pub head : List ℕ
  pub parts : List Part
  pub read : IsRead bytes head parts
  pub right : NoneOf (HasFault bytes head parts)
  pub drafted : IsDraft parts d

-- what is wrong with the input, as it is read; want of memory is free
abbrev pub SplitFault : List ℕ → ScriptFault → Type 0
SplitFault bytes faults.Memory = Unit {0}
SplitFault bytes (faults.Bad line kind) = (head : List ℕ) × (parts : List Part) × IsRead bytes head parts × FirstOf (HasFault bytes head parts) line kind

-- the script that a text and what is made of its sections give
pub record IsMade (text : List ℕ) (d : Draft) (script : Script) : Type 0 where
  pub text_is : script.text ≡ text
  pub setup_stands : script.has_setup ≡ d.has_setup
  pub sections : script.sections ≡ record { name = codes "setup"; items = d.setup } ∷ d.sessions
  pub order : script.order ≡ d.order
