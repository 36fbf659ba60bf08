-- What AFTER awaits, and its parts one behind another.
use Rattle.std.specs.Prelude.{ℕ, ◌≡◌, ◌≢◌, ◌-◌, ◌^◌, min, Bool, true, false, List, [], ◌∷◌, ◌++◌}
use Rattle.std.specs.List.{list_all}
use Rattle.pg_lex.specs.Bytes.{starts, is_letter, is_word_byte, is_digit}
use Rattle.pg_lex.specs.Tokens.{Gap}
use Rattle.pg_script.specs.After.{number_from, IsAfter}

-- the bytes are AFTER with that name and digits of that number; one that is greater counts as the greatest
pub record HasAwaited (bytes name : List ℕ) (number : ℕ) : Type 0 where
  pub digits : List ℕ
  pub is : IsAfter bytes name digits
  pub number_is : number ≡ min (2 ^ 32 - 1) (number_from 0 digits)

-- the front that passes a test, all of it
pub record IsLongestFront (test : ℕ → Bool) (bytes front rest : List ℕ) : Type 0 where
  pub parts : bytes ≡ front ++ rest
  pub passes : list_all test front ≡ true
  pub stops : starts test rest ≡ false

-- white space or comments, and then the rest
pub record HasGap (bytes rest : List ℕ) : Type 0 where
  pub gap : List ℕ
  pub parts : bytes ≡ gap ++ rest
  pub blank : Gap gap rest
  pub some : gap ≢ []

-- the `;` alone, with white space and comments before it
pub record HasEnd (bytes : List ℕ) : Type 0 where
  pub gap : List ℕ
  pub parts : bytes ≡ gap ++ 59 ∷ []
  pub blank : Gap gap (59 ∷ [])

-- the digits, and then the end
pub record HasNumber (bytes digits : List ℕ) : Type 0 where
  pub tail : List ℕ
  pub behind : HasGap bytes (digits ++ tail)
  pub begins : starts is_digit digits ≡ true
  pub is_number : list_all is_digit digits ≡ true
  pub end : HasEnd tail

-- the name, and then the digits
pub record HasName (bytes name digits : List ℕ) : Type 0 where
  pub tail : List ℕ
  pub behind : HasGap bytes (name ++ tail)
  pub begins : starts is_letter name ≡ true
  pub is_name : list_all is_word_byte name ≡ true
  pub number : HasNumber tail digits
