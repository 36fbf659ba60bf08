-- Operators are counted down while an expression is read.
use Rattle.std.specs.Prelude.{ℕ, Bool, nat_lt}

-- one more operator may come
abbrev pub allows : ℕ → Bool
allows k = nat_lt 0 k
