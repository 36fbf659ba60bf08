-- The blank at the front by its length, as the code finds it.
use Rattle.std.specs.Prelude.{ℕ, ◌≡◌, List, take, drop}
use Rattle.pg_lex.specs.Tokens.{Blank, bytes_of, IsBlank}

-- the first bytes, so many, are a blank
pub record BeginsBlank (n : ℕ) (bytes : List ℕ) : Type 0 where
  pub blank : Blank
  pub spells : take n bytes ≡ bytes_of blank
  pub is : IsBlank blank (drop n bytes)
