-- The statements of a text by their places alone, and the fronts of a text by their lengths.
use Rattle.std.specs.Prelude.{ℕ, ◌≡◌, ◌⊎◌, ◌+◌, ◌-◌, ◌<◌, ◌≤◌, ◌==◌, true, cond, List, [], ◌∷◌, map, length, take, drop}
use Rattle.std.specs.List.{AllByRecursion}
use Rattle.pg_lex.specs.Bytes.{starts_with}
use Rattle.pg_lex.specs.Tokens.{Gap}
use Rattle.pg_script.specs.declared.statements.Span.{Span}
use Rattle.pg_script.specs.declared.statements.Piece.{Piece}
use Rattle.pg_script.specs.Statements.{Atom, bytes_of, IsAtom, IsUncut, Statement, HasStatements}

abbrev pub span_of : Statement → Span
span_of s = record { from = s.from; to = s.to }

-- the statement stands in the text, whose first byte stands at a place
pub record Lies (at : ℕ) (text : List ℕ) (s : Statement) : Type 0 where
  pub low : at ≤ s.from
  pub some : s.from < s.to
  pub high : s.to ≤ at + length text
  pub bytes : s.bytes ≡ take (s.to - s.from) (drop (s.from - at) text)

-- these are the places of the text's statements
pub record HasSpans (at : ℕ) (text : List ℕ) (spans : List Span) : Type 0 where
  pub found : List Statement
  pub statements : HasStatements at text found
  pub spans_are : spans ≡ map span_of found
  pub each : AllByRecursion (Lies at text) found

-- a cut or the end is in front
abbrev pub IsCut : List ℕ → Type 0
IsCut bytes = (bytes ≡ []) ⊎ (starts_with 59 bytes ≡ true)

-- the first bytes, so many, are an atom
pub record BeginsAtom (n : ℕ) (bytes : List ℕ) : Type 0 where
  pub atom : Atom
  pub spells : take n bytes ≡ bytes_of atom
  pub is : IsAtom atom (drop n bytes)

-- the statement of a piece that begins at a place, if it has one
abbrev pub spans_of : ℕ → Piece → List Span
spans_of place p = cond (p.body == 0) [] (record { from = place + p.gap; to = place + p.gap + (p.body + p.end) } ∷ [])

-- the piece in front by the lengths of its parts: white space and comments, the rest of it, and the `;` behind it where it has one
pub record BeginsPiece (bytes : List ℕ) (p : Piece) : Type 0 where
  pub within : p.gap + p.body + p.end ≤ length bytes
  pub blank : Gap (take p.gap bytes) (drop p.gap bytes)
  pub uncut : IsUncut (take (p.gap + p.body) bytes) (drop (p.gap + p.body) bytes)
  pub end_is : p.end ≡ length (take 1 (drop (p.gap + p.body) bytes))
  pub cut : IsCut (drop (p.gap + p.body) bytes)
