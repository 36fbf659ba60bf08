-- A test stops at white space and comments.
use Rattle.std.proofs.Common.{◌≡◌, ◌≢◌, ℕ, Bool, true, false, List, [], ◌∷◌, ◌++◌, refl, arith, inl, inr, ◌⊎◌}
use Rattle.std.specs.List.{flat_map}
use Rattle.std.proofs.lemmas.Bool.Decides.{nat_tests}
use Rattle.pg_lex.specs.Bytes.{is_white, is_word_byte, is_digit, starts}
use Rattle.pg_lex.specs.Tokens.{Blank, White, Comment, bytes_of, AreBlank, Gap}

-- a test that fails at white bytes and at the dash
pub record IsDark (test : ℕ → Bool) : Type 0 where
  pub white : (b : ℕ) → is_white b ≡ true → test b ≡ false
  pub dash : test 45 ≡ false

white_no_digit : (b : ℕ) → is_white b ≡ true → is_digit b ≡ false
white_no_digit b h = grind (arith, nat_tests)

white_no_word : (b : ℕ) → is_white b ≡ true → is_word_byte b ≡ false
white_no_word b h = grind (arith, nat_tests)

pub digit_dark : IsDark is_digit
digit_dark = record { white = white_no_digit; dash = refl }

pub word_dark : IsDark is_word_byte
word_dark = record { white = white_no_word; dash = refl }

-- no byte that passes begins white space or comments, nor what follows where there are none
blanks_stop : (test : ℕ → Bool) → IsDark test → (bs : List Blank) (gap rest : List ℕ) → gap ≡ flat_map bytes_of bs → AreBlank bs rest → (gap ≢ []) ⊎ (starts test rest ≡ false) → starts test (gap ++ rest) ≡ false
blanks_stop test d [] gap rest e h (inl s) = absurd (s e)
blanks_stop test d [] gap rest e h (inr s) = rw e s
blanks_stop test d (White b ∷ bs) gap rest e h s = rw e (d.white b h.0)
blanks_stop test d (Comment line ∷ bs) gap rest e h s = rw e d.dash

pub gap_stops : (test : ℕ → Bool) → IsDark test → (gap rest : List ℕ) → Gap gap rest → (gap ≢ []) ⊎ (starts test rest ≡ false) → starts test (gap ++ rest) ≡ false
gap_stops test d gap rest g s = blanks_stop test d g.blanks gap rest g.bytes g.each s
