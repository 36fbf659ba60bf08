-- The token at the front by the lengths of fronts, as the code finds it.
use Rattle.std.specs.Prelude.{ℕ, ◌≡◌, ◌+◌, ◌≤◌, Bool, false, cond, ◌&&◌, ◌||◌, ◌==◌, List, [], ◌∷◌, ◌++◌, map, length, take, drop}
use Rattle.std.specs.declared.option.Option.{Option}
use Rattle.std.specs.declared.option.Option.TheVariants.{Some, None}
use Rattle.std.specs.List.{prefix_len}
use Rattle.pg_lex.specs.declared.token.TokenKind.{TokenKind}
use Rattle.pg_lex.specs.declared.token.TokenKind.TheVariants.{Word, Number, Symbol}
use Rattle.pg_lex.specs.declared.front.Front.{Front}
use Rattle.pg_lex.specs.declared.front.Front.TheVariants.{Found, Unclosed, Nothing}
use Rattle.pg_lex.specs.Bytes.{is_digit, is_letter, is_word_byte, upper, starts, starts_with}
use Rattle.pg_lex.specs.Spelled.{Class, Double, Single}
use Rattle.pg_lex.specs.Tokens.{Stands, NoToken, IsUnclosed, doubled}

-- a symbol of one byte
abbrev pub is_single : ℕ → Bool
is_single b = (b == 40) || (b == 41) || (b == 91) || (b == 93) || (b == 123) || (b == 125) || (b == 44) || (b == 59)
    || (b == 46) || (b == 58) || (b == 61) || (b == 60) || (b == 62) || (b == 43) || (b == 45) || (b == 42) || (b == 37) || (b == 33) || (b == 38) || (b == 124)

-- `<>`, `<=` or `>=`
abbrev pub is_pair : ℕ → ℕ → Bool
is_pair b c = ((b == 60) && ((c == 62) || (c == 61))) || ((b == 62) && (c == 61))

abbrev pub symbol_at : ℕ → List ℕ → Option (TokenKind × ℕ)
symbol_at b [] = cond (is_single b) (Some (Symbol (b ∷ []), 1)) None
symbol_at b (c ∷ cs) = cond (is_pair b c) (Some (Symbol (b ∷ c ∷ []), 2)) (cond (is_single b) (Some (Symbol (b ∷ []), 1)) None)

abbrev pub word_at : List ℕ → TokenKind × ℕ
word_at bytes = (Word (map upper (take (prefix_len is_word_byte bytes) bytes)), prefix_len is_word_byte bytes)

abbrev pub number_at : List ℕ → Option (TokenKind × ℕ)
number_at bytes =
    let digits = prefix_len is_digit bytes in
    cond (starts is_letter (drop digits bytes)) None (Some (Number (take digits bytes), digits))

-- the kind and the length of the token at the front, of those without quotes
unfoldable pub plain_at : List ℕ → Option (TokenKind × ℕ)
plain_at [] = None
plain_at (b ∷ bs) = cond (is_letter b) (Some (word_at (b ∷ bs))) (cond (is_digit b) (number_at (b ∷ bs)) (symbol_at b bs))

-- the bytes begin with that token, of so many bytes
abbrev pub HasFront : List ℕ → TokenKind × ℕ → Type 0
HasFront bytes found = (found.1 ≤ length bytes) × Stands found.0 (take found.1 bytes) (drop found.1 bytes)

-- a quoted text that begins behind its opening quote, with its length and the closing quote's; no quote closes it
abbrev pub IsBody : ℕ → List ℕ → Option (List ℕ × ℕ) → Type 0
IsBody quote bytes None = (text : List ℕ) × (bytes ≡ doubled quote text)
IsBody quote bytes (Some found) = (more : List ℕ) × (bytes ≡ doubled quote found.0 ++ quote ∷ more) × (starts_with quote more ≡ false) × (found.1 ≡ length (doubled quote found.0) + 1)

-- what stands at the front
abbrev pub IsFront : Front → List ℕ → Type 0
IsFront (Found kind len) bytes = HasFront bytes (kind, len)
IsFront Unclosed bytes = NoToken bytes × IsUnclosed bytes
IsFront Nothing bytes = NoToken bytes × (IsUnclosed bytes → ⊥)

-- the bytes begin with no quote
abbrev pub IsPlain : Option Class → Type 0
IsPlain (Some Double) = ⊥
IsPlain (Some Single) = ⊥
IsPlain _ = Unit {0}
