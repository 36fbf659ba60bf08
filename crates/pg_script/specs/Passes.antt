-- Sections as places in the input, the parts that they stand for, and the functions on lists that find them.
pub mod Spans
pub mod Awaited
pub mod Drafts
use Rattle.std.specs.Prelude.{ℕ, ◌≡◌, ◌⊎◌, ◌+◌, ◌-◌, ◌≤◌, ◌<◌, ◌&&◌, ◌||◌, Bool, true, not, cond, ◌==◌, List, [], ◌∷◌, length, map, take, drop, codes}
use Rattle.std.specs.List.{prefix_len, list_all, AllByRecursion}
use Rattle.std.specs.Str.{bytes_eq}
use Rattle.pg_lex.specs.Bytes.{is_white, starts_with}
use Rattle.pg_script.specs.declared.statements.Span.{Span}
use Rattle.pg_script.specs.declared.header.Form.{Form}
use Rattle.pg_script.specs.declared.header.Form.TheVariants as forms
use Rattle.pg_script.specs.declared.layout.BlockSpan.{BlockSpan}
use Rattle.pg_script.specs.declared.parts.Content.{Content}
use Rattle.pg_script.specs.declared.parts.Content.TheVariants as contents
use Rattle.pg_script.specs.declared.parts.PartSpan.{PartSpan}
use Rattle.pg_script.specs.Layout.{line_at, Block, IsBlock, BeginsLine, HasNoSection, Header, Setup, Session, Order, Other, has_name_form, is_name_byte, Turn, AreTurns}
use Rattle.pg_script.specs.Statements.{Statement, HasStatements}
use Rattle.pg_script.specs.Script.{Part, IsPart, IsRead}

-- SECTION LINES

-- the line is these words with white space behind them
abbrev pub says : List ℕ → List ℕ → Bool
says words line = bytes_eq (take (length words) line) words && list_all is_white (drop (length words) line)

-- the bytes are a session's name with white space behind it
abbrev pub is_name : List ℕ → Bool
is_name name = has_name_form name && not (bytes_eq name (codes "setup"))

abbrev pub name_len : List ℕ → ℕ
name_len = prefix_len is_name_byte

abbrev pub says_name : List ℕ → Bool
says_name bytes = is_name (take (name_len bytes) bytes) && list_all is_white (drop (name_len bytes) bytes)

abbrev pub says_session : List ℕ → Bool
says_session line = bytes_eq (take 9 line) (codes "@session ") && says_name (drop 9 line)

-- the section line that a form stands for
abbrev pub header_of : List ℕ → Form → Header
header_of line forms.Setup = Setup
header_of line (forms.Session len) = Session (take len (drop 9 line))
header_of line forms.Order = Order
header_of line forms.Other = Other

-- SECTIONS

-- the length of the text in front of the next line that begins with `@`; whether a line begins in front of it
abbrev pub section_at : Bool → List ℕ → ℕ
section_at begins [] = 0
section_at begins (b ∷ bs) = cond (begins && (b == 64)) 0 (1 + section_at (b == 10) bs)

-- a text in front of the next section line, or of the end
pub record IsFree (n : ℕ) (bytes : List ℕ) : Type 0 where
  pub free : HasNoSection (take n bytes)
  pub next : (drop n bytes ≡ []) ⊎ ((starts_with 64 (drop n bytes) ≡ true) × BeginsLine (take n bytes))

-- the section in front of these bytes, by its lengths
abbrev pub block_of : ℕ → List ℕ → BlockSpan → Block
block_of at bytes b = record { at = at; line = take b.line bytes; from = at + b.from; text = take (b.to - b.from) (drop b.from bytes) }

pub record IsBlockSpan (bytes : List ℕ) (b : BlockSpan) : Type 0 where
  pub some : 0 < b.from
  pub low : b.line ≤ b.from
  pub mid : b.from ≤ b.to
  pub high : b.to ≤ length bytes
  pub is : (at : ℕ) → IsBlock at bytes (block_of at bytes b) (drop b.to bytes)

-- WORDS OF THE ORDER

-- no word goes on here
abbrev pub ends_word : List ℕ → Bool
ends_word [] = true
ends_word (b ∷ bs) = is_white b || ((b == 45) && starts_with 45 bs)

-- the length of the word in front
abbrev pub word_len : List ℕ → ℕ
word_len [] = 0
word_len (b ∷ bs) = cond (is_white b || ((b == 45) && starts_with 45 bs)) 0 (1 + word_len bs)

-- PARTS

-- the bytes of a span
abbrev pub cut : List ℕ → Span → List ℕ
cut bytes span = take (span.to - span.from) (drop span.from bytes)

abbrev pub statement_at : List ℕ → Span → Statement
statement_at bytes span = record { from = span.from; to = span.to; bytes = cut bytes span }

abbrev pub turn_at : List ℕ → Span → Turn
turn_at bytes span = record { at = span.from; name = cut bytes span }

abbrev pub header_in : List ℕ → Content → Header
header_in bytes (contents.Setup statements) = Setup
header_in bytes (contents.Session name statements) = Session (cut bytes name)
header_in bytes (contents.Order words) = Order
header_in bytes contents.Other = Other

abbrev pub statements_in : List ℕ → Content → List Statement
statements_in bytes (contents.Setup statements) = map (statement_at bytes) statements
statements_in bytes (contents.Session name statements) = map (statement_at bytes) statements
statements_in bytes (contents.Order words) = []
statements_in bytes contents.Other = []

abbrev pub turns_in : List ℕ → Content → List Turn
turns_in bytes (contents.Order words) = map (turn_at bytes) words
turns_in bytes _ = []

abbrev pub part_of : List ℕ → PartSpan → Part
part_of bytes p = record { at = p.at; header = header_in bytes p.content; statements = statements_in bytes p.content; turns = turns_in bytes p.content }

abbrev pub parts_of : List ℕ → List PartSpan → List Part
parts_of bytes = map (part_of bytes)

-- WHERE THEY STAND

-- the places rise from one place on, and stand before another
abbrev pub Rise : ℕ → ℕ → List ℕ → Type 0
Rise low high [] = Unit {0}
Rise low high (p ∷ ps) = (low ≤ p) × (p < high) × Rise p high ps

-- a session's name is ASCII
abbrev pub HasPlainName : Header → Type 0
HasPlainName (Session name) = AllByRecursion (λ b. b < 128) name
HasPlainName _ = Unit {0}

-- a part's places stand from its section line on, in order, before its end
pub record Lies (from to : ℕ) (p : Part) : Type 0 where
  pub at : p.at ≡ from
  pub some : from < to
  pub statements : Rise from to (map (λ s. s.from) p.statements)
  pub turns : Rise from to (map (λ t. t.at) p.turns)
  pub named : HasPlainName p.header

-- a line begins at the place, and places before it are on earlier lines
abbrev pub Separates : List ℕ → ℕ → Type 0
Separates bytes place = (before : ℕ) → before < place → line_at bytes before < line_at bytes place

-- the parts stand one behind the other from a place on
abbrev pub AreSpread : List ℕ → ℕ → List Part → Type 0
AreSpread bytes from [] = Unit {0}
AreSpread bytes from (p ∷ ps) = (to : ℕ) × Lies from to p × ((ps ≡ []) ⊎ Separates bytes to) × AreSpread bytes to ps

-- a section of the input, as it is read, with its end
pub record IsPartSpan (bytes : List ℕ) (at : ℕ) (p : PartSpan) : Type 0 where
  pub block : Block
  pub is_block : IsBlock at (drop at bytes) block (drop p.end bytes)
  pub end_is : p.end ≡ block.from + length block.text
  pub within : p.end ≤ length bytes
  pub is_part : IsPart block (part_of bytes p)
  pub lies : Lies at p.end (part_of bytes p)
  pub apart : (drop p.end bytes ≡ []) ⊎ ((starts_with 64 (drop p.end bytes) ≡ true) × Separates bytes p.end)

-- the input as it is read, with what stands in front of the first section of this length
pub record HasPartSpans (bytes : List ℕ) (head : ℕ) (spans : List PartSpan) : Type 0 where
  pub within : head ≤ length bytes
  pub read : IsRead bytes (take head bytes) (parts_of bytes spans)
  pub spread : AreSpread bytes head (parts_of bytes spans)

-- WHAT A SECTION HAS

-- a session's name stands within the line
abbrev pub FormFits : ℕ → Form → Type 0
FormFits n (forms.Session len) = 9 + len ≤ n
FormFits n _ = Unit {0}

abbrev pub text_at : List ℕ → ℕ → ℕ → List ℕ
text_at bytes from to = take (to - from) (drop from bytes)

-- what a section of that form, whose line begins at one place, has in its text between two others
abbrev pub IsContent : List ℕ → ℕ → ℕ → ℕ → Form → Content → Type 0
IsContent bytes at from to forms.Setup (contents.Setup spans) = HasStatements from (text_at bytes from to) (map (statement_at bytes) spans)
IsContent bytes at from to (forms.Session len) (contents.Session name spans) = (name ≡ record { from = at + 9; to = at + 9 + len }) × HasStatements from (text_at bytes from to) (map (statement_at bytes) spans)
IsContent bytes at from to forms.Order (contents.Order words) = AreTurns from (text_at bytes from to) (map (turn_at bytes) words)
IsContent bytes at from to forms.Other contents.Other = Unit {0}
IsContent bytes at from to _ _ = ⊥
