-- What a source and a sink in memory are.
use Rattle.std.specs.Prelude.{ℕ, List}

-- the bytes still to come, the most bytes of one call, the numbers of the calls that fail, and how many calls and faults there were
pub record SourceState : Type 0 where
  pub left : List ℕ
  pub piece : ℕ
  pub fails : List ℕ
  pub calls : ℕ
  pub faults : ℕ

-- the bytes taken, how many there may be, the most bytes of one call, the numbers of the calls that fail, and how many calls and faults there were
pub record SinkState : Type 0 where
  pub held : List ℕ
  pub room : ℕ
  pub piece : ℕ
  pub fails : List ℕ
  pub calls : ℕ
  pub faults : ℕ
