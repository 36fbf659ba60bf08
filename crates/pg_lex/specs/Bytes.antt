-- The bytes that tokens and blanks are made of.
use Rattle.std.specs.Prelude.{ℕ, ◌-◌, Bool, false, cond, ◌&&◌, ◌||◌, nat_le, ◌==◌, List, [], ◌∷◌}

-- space, tab, line feed, carriage return
abbrev pub is_white : ℕ → Bool
is_white b = (b == 32) || (b == 9) || (b == 10) || (b == 13)

abbrev pub is_digit : ℕ → Bool
is_digit b = nat_le 48 b && nat_le b 57

abbrev pub is_lower : ℕ → Bool
is_lower b = nat_le 97 b && nat_le b 122

-- an ASCII letter or `_`
abbrev pub is_letter : ℕ → Bool
is_letter b = (nat_le 65 b && nat_le b 90) || is_lower b || (b == 95)

abbrev pub is_word_byte : ℕ → Bool
is_word_byte b = is_letter b || is_digit b

-- a letter in upper case, any other byte as it is
abbrev pub upper : ℕ → ℕ
upper b = cond (is_lower b) (b - 32) b

-- the first byte is such a one
abbrev pub starts : (ℕ → Bool) → List ℕ → Bool
starts test [] = false
starts test (b ∷ bs) = test b

-- the first byte is this one
abbrev pub starts_with : ℕ → List ℕ → Bool
starts_with c = starts (λ b. b == c)
