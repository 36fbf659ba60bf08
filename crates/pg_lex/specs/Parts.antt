-- A part of a text, from one place up to another.
use Rattle.std.specs.Prelude.{ℕ, ◌≤◌, ◌-◌, List, take, drop, length}
use Rattle.std.specs.Str.{IsUtf8}

-- the bytes of the text from one place up to another
abbrev pub part_of : List ℕ → ℕ → ℕ → List ℕ
part_of text from to = take (to - from) (drop from text)

-- two places of a text in order, with a text between them
pub record IsPartAt (text : List ℕ) (from to : ℕ) : Type 0 where
  pub ordered : from ≤ to
  pub within : to ≤ length text
  pub utf8 : IsUtf8 (part_of text from to)
