-- What reading a source to its end and writing a text to a sink do.
use Rattle.std.specs.Prelude.{ℕ, ◌≡◌, ◌+◌, ◌≤◌, ◌++◌, List, length}
use Rattle.std.specs.declared.option.Option.{Option}
use Rattle.std.specs.Io.KnownBytes.{Consumes, Appends, IsAtEnd}

-- these are the next bytes of the source: all that were left, unless there are more than `most`
pub record ReadsAll (most : ℕ) (before after : Option (List ℕ)) (bytes : List ℕ) : Type 0 where
  pub taken : Consumes before after bytes
  pub within : length bytes ≤ most + 1
  pub whole : length bytes ≤ most → IsAtEnd after

-- some of the source's next bytes were read, at most one more than `most`
pub record ReadsSome (most : ℕ) (before after : Option (List ℕ)) : Type 0 where
  pub bytes : List ℕ
  pub taken : Consumes before after bytes
  pub within : length bytes ≤ most + 1

-- the sink took a front of the text
pub record TookFront (before after : Option (List ℕ)) (text : List ℕ) : Type 0 where
  pub front : List ℕ
  pub rest : List ℕ
  pub of_text : text ≡ front ++ rest
  pub taken : Appends before after front
