-- The statement AFTER, with which a session waits for another.
use Rattle.std.specs.Prelude.{ℕ, ◌≡◌, ◌≢◌, ◌+◌, ◌-◌, ◌*◌, Bool, true, not, ◌&&◌, List, [], ◌∷◌, ◌++◌, map, take, drop, codes}
use Rattle.std.specs.List.{list_all}
use Rattle.std.specs.Str.{bytes_eq}
use Rattle.pg_lex.specs.Bytes.{starts, is_letter, is_word_byte, is_digit, upper}
use Rattle.pg_lex.specs.Tokens.{Gap}

-- the first token is the regular word AFTER, in upper or lower case
abbrev pub begins_after : List ℕ → Bool
begins_after bytes = bytes_eq (map upper (take 5 bytes)) (codes "AFTER") && not (starts is_word_byte (drop 5 bytes))

-- the number that decimal digits stand for, behind digits that stand for n
abbrev pub number_from : ℕ → List ℕ → ℕ
number_from n [] = n
number_from n (d ∷ ds) = number_from (10 * n + (d - 48)) ds

-- `AFTER name digits ;` with white space and comments between
pub record IsAfter (bytes name digits : List ℕ) : Type 0 where
  pub word : List ℕ
  pub gap : List ℕ
  pub gap_of_number : List ℕ
  pub gap_of_end : List ℕ
  pub parts : bytes ≡ word ++ (gap ++ (name ++ (gap_of_number ++ (digits ++ (gap_of_end ++ 59 ∷ [])))))
  pub is_word : map upper word ≡ codes "AFTER"
  pub blank : Gap gap (name ++ (gap_of_number ++ (digits ++ (gap_of_end ++ 59 ∷ []))))
  pub some : gap ≢ []
  pub begins : starts is_letter name ≡ true
  pub is_name : list_all is_word_byte name ≡ true
  pub blank_of_number : Gap gap_of_number (digits ++ (gap_of_end ++ 59 ∷ []))
  pub some_of_number : gap_of_number ≢ []
  pub begins_number : starts is_digit digits ≡ true
  pub is_number : list_all is_digit digits ≡ true
  pub blank_of_end : Gap gap_of_end (59 ∷ [])
