-- The section lines of an input and the texts between them. The byte 64 is `@`, 10 the line feed.
use Rattle.std.specs.Prelude.{ℕ, ◌≡◌, ◌≢◌, ◌⊎◌, ◌+◌, ◌≤◌, Bool, true, not, ◌||◌, ◌&&◌, ◌==◌, nat_le, List, [], ◌∷◌, ◌++◌, length, take, filter, codes}
use Rattle.std.specs.List.{list_all}
use Rattle.pg_lex.specs.Bytes.{starts, starts_with, is_white, is_digit, is_lower}
use Rattle.pg_lex.specs.Tokens.{Gap, is_line}

-- the number, from 1, of the line in which a place stands
abbrev pub line_at : List ℕ → ℕ → ℕ
line_at bytes place = length (filter (λ b. b == 10) (take place bytes)) + 1

-- a line begins behind these bytes
abbrev pub BeginsLine : List ℕ → Type 0
BeginsLine front = (front ≡ []) ⊎ ((lines : List ℕ) × (front ≡ lines ++ 10 ∷ []))

-- no line of the text begins with `@`; the text begins where a line begins
abbrev pub HasNoSection : List ℕ → Type 0
HasNoSection text = (front back : List ℕ) → text ≡ front ++ 64 ∷ back → BeginsLine front → ⊥

-- A section: its line, which begins with `@`, without the line feed, and its text up to the next section line or the end, with the places where both begin.
pub record Block : Type 0 where
  pub at : ℕ
  pub line : List ℕ
  pub from : ℕ
  pub text : List ℕ

-- a section that stands in front of the rest, and begins at a place
pub record IsBlock (at : ℕ) (bytes : List ℕ) (block : Block) (rest : List ℕ) : Type 0 where
  pub feed : List ℕ
  pub parts : bytes ≡ block.line ++ (feed ++ (block.text ++ rest))
  pub marked : starts_with 64 block.line ≡ true
  pub is_line : is_line block.line ≡ true
  -- the line's end, which at the end of the input may be missing
  pub ends : (feed ≡ 10 ∷ []) ⊎ ((feed ≡ []) × (block.text ≡ []) × (rest ≡ []))
  pub free : HasNoSection block.text
  pub next : (rest ≡ []) ⊎ ((starts_with 64 rest ≡ true) × BeginsLine block.text)
  pub at_is : block.at ≡ at
  pub from_is : block.from ≡ at + length (block.line ++ feed)

abbrev pub AreBlocks : ℕ → List ℕ → List Block → Type 0
AreBlocks at bytes [] = bytes ≡ []
AreBlocks at bytes (b ∷ bs) = (rest : List ℕ) × IsBlock at bytes b rest × AreBlocks (b.from + length b.text) rest bs

-- the input: what stands before the first section line, and the sections
pub record IsLaidOut (bytes head : List ℕ) (blocks : List Block) : Type 0 where
  pub rest : List ℕ
  pub parts : bytes ≡ head ++ rest
  pub free : HasNoSection head
  pub next : (rest ≡ []) ⊎ ((starts_with 64 rest ≡ true) × BeginsLine head)
  pub sections : AreBlocks (length head) rest blocks

-- SECTION LINES

-- a lower-case letter, and behind it at most 31 lower-case letters, digits and `_`
abbrev pub is_name_byte : ℕ → Bool
is_name_byte b = is_lower b || is_digit b || (b == 95)

abbrev pub has_name_form : List ℕ → Bool
has_name_form name = starts is_lower name && list_all is_name_byte name && nat_le (length name) 32

pub record IsSessionName (name : List ℕ) : Type 0 where
  pub form : has_name_form name ≡ true
  pub other : name ≢ codes "setup"

pub data Header : Type 0 where
  Setup : Header
  Session : (name : List ℕ) → Header
  Order : Header
  Other : Header

-- `@setup`, `@session NAME` or `@order`, with white space behind it
abbrev pub Says : List ℕ → List ℕ → Type 0
Says words line = (blanks : List ℕ) × (line ≡ words ++ blanks) × (list_all is_white blanks ≡ true)

abbrev pub SaysSession : List ℕ → List ℕ → Type 0
SaysSession name line = IsSessionName name × Says (codes "@session " ++ name) line

abbrev pub IsHeader : List ℕ → Header → Type 0
IsHeader line Setup = Says (codes "@setup") line
IsHeader line (Session name) = SaysSession name line
IsHeader line Order = Says (codes "@order") line
IsHeader line Other = (Says (codes "@setup") line → ⊥) × (Says (codes "@order") line → ⊥) × ((name : List ℕ) → SaysSession name line → ⊥)

-- THE WORDS OF THE ORDER

pub record Turn : Type 0 where
  pub at : ℕ
  pub name : List ℕ

-- A word ends at white space, at a comment and at the end.
pub record IsWord (word rest : List ℕ) : Type 0 where
  pub some : word ≢ []
  pub dark : list_all (λ b. not (is_white b)) word ≡ true
  -- the first `--` stands behind the word
  pub whole : (front back : List ℕ) → word ++ rest ≡ front ++ (codes "--" ++ back) → length word ≤ length front
  pub ends : (rest ≡ []) ⊎ ((starts is_white rest ≡ true) ⊎ ((back : List ℕ) × (rest ≡ codes "--" ++ back)))

-- the words of a text whose first byte stands at a place
abbrev pub AreTurns : ℕ → List ℕ → List Turn → Type 0
AreTurns at text [] = Gap text []
AreTurns at text (t ∷ ts) =
    (gap rest : List ℕ) × (text ≡ gap ++ (t.name ++ rest)) × Gap gap (t.name ++ rest) × IsWord t.name rest
    × (t.at ≡ at + length gap) × AreTurns (t.at + length t.name) rest ts
