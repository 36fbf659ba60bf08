-- How the text of a section is cut into statements. The byte 59 is the semicolon, 45 the dash, 34 and 39 are the quotes.
use Rattle.std.specs.Prelude.{ℕ, ◌≡◌, ◌≢◌, ◌⊎◌, ◌+◌, Bool, true, false, not, ◌||◌, ◌==◌, List, [], ◌∷◌, ◌++◌, length, take, codes}
use Rattle.std.specs.List.{list_all, flat_map}
use Rattle.pg_lex.specs.Bytes.{starts_with}
use Rattle.pg_lex.specs.Tokens.{Gap, is_line, EndsLine}

abbrev pub is_quote : ℕ → Bool
is_quote b = (b == 34) || (b == 39)

-- the bytes hold no such byte
abbrev pub is_without : ℕ → List ℕ → Bool
is_without c = list_all (λ b. not (b == c))

-- What a text is made of, as far as its cuts go: a byte, a comment with what stands behind its `--`, a text in quotes, and one that no quote closes.
-- A doubled quote is two texts in quotes, one directly behind the other.
pub data Atom : Type 0 where
  Byte : ℕ → Atom
  Comment : List ℕ → Atom
  InQuotes : (quote : ℕ) (text : List ℕ) → Atom
  Unclosed : (quote : ℕ) (text : List ℕ) → Atom

abbrev pub bytes_of : Atom → List ℕ
bytes_of (Byte b) = b ∷ []
bytes_of (Comment line) = codes "--" ++ line
bytes_of (InQuotes quote text) = quote ∷ (text ++ quote ∷ [])
bytes_of (Unclosed quote text) = quote ∷ text

-- that atom stands in front of the rest
abbrev pub IsAtom : Atom → List ℕ → Type 0
IsAtom (Byte b) rest = (b ≢ 59) × (is_quote b ≡ false) × ((b ≡ 45) → starts_with 45 rest ≡ false)
IsAtom (Comment line) rest = (is_line line ≡ true) × EndsLine rest
IsAtom (InQuotes quote text) rest = (is_quote quote ≡ true) × (is_without quote text ≡ true)
IsAtom (Unclosed quote text) rest = (is_quote quote ≡ true) × (is_without quote text ≡ true) × (rest ≡ [])

abbrev pub AreAtoms : List Atom → List ℕ → Type 0
AreAtoms [] rest = Unit {0}
AreAtoms (a ∷ more) rest = IsAtom a (flat_map bytes_of more ++ rest) × AreAtoms more rest

-- no `;` stands in the piece outside quotes and comments, where that is behind it
pub record IsUncut (piece behind : List ℕ) : Type 0 where
  pub atoms : List Atom
  pub spelled : piece ≡ flat_map bytes_of atoms
  pub each : AreAtoms atoms behind

-- a statement: its bytes, with its `;` where it has one, from one place up to another
pub record Statement : Type 0 where
  pub from : ℕ
  pub to : ℕ
  pub bytes : List ℕ

-- a statement from its first byte outside white space and comments, up to and with what stands behind it of its `;`
abbrev pub statement_of : ℕ → List ℕ → List ℕ → Statement
statement_of from body end = record { from = from; to = from + length (body ++ end); bytes = body ++ end }

-- What a piece between two cuts is, where that is behind it: no statement where it is white space and comments alone, and else one statement.
pub record IsPiece (at : ℕ) (piece behind : List ℕ) (found : List Statement) : Type 0 where
  pub gap : List ℕ
  pub body : List ℕ
  pub parts : piece ≡ gap ++ body
  pub blank : Gap gap (body ++ behind)
  pub is : ((body ≡ []) × (found ≡ [])) ⊎ ((body ≢ []) × (found ≡ statement_of (at + length gap) body (take 1 behind) ∷ []))

-- A text whose first byte stands at a place, cut at each `;` outside quotes and comments, and the statements of its pieces. The last piece has no `;`.
abbrev pub AreStatements : ℕ → List ℕ → List (List ℕ) → List Statement → Type 0
AreStatements at text [] found = ⊥
AreStatements at text (p ∷ []) found = (text ≡ p) × IsUncut p [] × IsPiece at p [] found
AreStatements at text (p ∷ q ∷ ps) found =
    (rest : List ℕ) × (here more : List Statement)
    × (text ≡ p ++ 59 ∷ rest) × IsUncut p (59 ∷ rest) × IsPiece at p (59 ∷ rest) here
    × AreStatements (at + (length p + 1)) rest (q ∷ ps) more
    × (found ≡ here ++ more)

-- these are the statements of the text
abbrev pub HasStatements : ℕ → List ℕ → List Statement → Type 0
HasStatements at text found = (pieces : List (List ℕ)) × AreStatements at text pieces found
