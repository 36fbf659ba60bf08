-- What a reader and a writer of std are as a source and a sink.
use Rattle.std.specs.Prelude.{ℕ, List}
use Rattle.std.specs.declared.option.Option.{Option}

-- the bytes still to come or held, where the reader or writer tells them, and how often it has failed
pub record StreamState : Type 0 where
  pub bytes : Option (List ℕ)
  pub faults : ℕ
