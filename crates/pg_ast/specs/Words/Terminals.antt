-- Lists of tokens, and what the grammar asks of one token.
use Rattle.std.specs.Prelude.{ℕ, ◌≡◌, Bool, true, false, not, ◌&&◌, ◌||◌, List, [], ◌∷◌, length, nat_le, codes, ◌++◌}
use Rattle.std.specs.List.{list_any}
use Rattle.std.specs.Str.{bytes_eq}
pub use Rattle.pg_lex.specs.Texts.{text_of_kind, text_of}
use Rattle.pg_lex.specs.declared.token.Token.{Token}
use Rattle.pg_lex.specs.declared.token.TokenKind.{TokenKind}
use Rattle.pg_lex.specs.declared.token.TokenKind.TheVariants.{Word, Quoted, Number, Literal, Symbol, End, Bad}

abbrev pub Tokens : Type 0
Tokens = List Token

pub data Terminal : Type 0 where
  Exactly : (kind : TokenKind) → Terminal
  AName : Terminal
  ANumber : Terminal
  AText : Terminal

-- a word, a symbol, the end
abbrev pub W : List ℕ → Terminal
W w = Exactly (Word w)

abbrev pub S : List ℕ → Terminal
S w = Exactly (Symbol w)

-- the words that are no names unless they are written in double quotes
abbrev pub reserved_all_to_match : List (List ℕ)
reserved_all_to_match =
    codes "ALL" ∷ codes "AND" ∷ codes "ANY" ∷ codes "AS" ∷ codes "COUNT" ∷ codes "CREATE" ∷ codes "DELETE"
    ∷ codes "FALSE" ∷ codes "FROM" ∷ codes "GRAPH_TABLE" ∷ codes "INSERT" ∷ codes "INTO" ∷ codes "IS" ∷ codes "MATCH" ∷ []

abbrev pub reserved_max_to_where : List (List ℕ)
reserved_max_to_where =
    codes "MAX" ∷ codes "MIN" ∷ codes "NOT" ∷ codes "NULL" ∷ codes "OR" ∷ codes "PRIMARY" ∷ codes "SELECT"
    ∷ codes "SET" ∷ codes "SUM" ∷ codes "TABLE" ∷ codes "TRUE" ∷ codes "UPDATE" ∷ codes "VALUES" ∷ codes "WHERE" ∷ []

unfoldable pub is_among : List (List ℕ) → List ℕ → Bool
is_among words w = list_any (λ r. bytes_eq w r) words

abbrev pub is_reserved : List ℕ → Bool
is_reserved w = is_among reserved_all_to_match w || is_among reserved_max_to_where w

abbrev pub kind_eq : TokenKind → TokenKind → Bool
kind_eq (Word v) (Word w) = bytes_eq v w
kind_eq (Quoted v) (Quoted w) = bytes_eq v w
kind_eq (Number v) (Number w) = bytes_eq v w
kind_eq (Literal v) (Literal w) = bytes_eq v w
kind_eq (Symbol v) (Symbol w) = bytes_eq v w
kind_eq End End = true
kind_eq Bad Bad = true
kind_eq _ _ = false

abbrev pub is_short : List ℕ → Bool
is_short w = nat_le (length w) 128

abbrev pub is_name : TokenKind → Bool
is_name (Word w) = not (is_reserved w) && is_short w
is_name (Quoted w) = is_short w
is_name _ = false

abbrev pub is_number : TokenKind → Bool
is_number (Number w) = true
is_number _ = false

abbrev pub is_text : TokenKind → Bool
is_text (Literal w) = true
is_text _ = false

abbrev pub fits : Terminal → TokenKind → Bool
fits (Exactly k) j = kind_eq j k
fits AName j = is_name j
fits ANumber j = is_number j
fits AText j = is_text j

unfoldable pub matches : Terminal → Token → Bool
matches p t = fits p t.kind

-- the tokens that may stand within a statement
abbrev pub is_ordinary : TokenKind → Bool
is_ordinary End = false
is_ordinary Bad = false
is_ordinary _ = true

-- no token of the list is End or Bad
abbrev pub Inner : Tokens → Type 0
Inner [] = Unit {0}
Inner (t ∷ ts) = (is_ordinary t.kind ≡ true) × Inner ts

-- the last token, and no other, is End or Bad
pub record IsEnded (tokens : Tokens) : Type 0 where
  pub front : Tokens
  pub last : Token
  pub parts : tokens ≡ front ++ last ∷ []
  pub ends : is_ordinary last.kind ≡ false
  pub inner : Inner front

-- where the first of these tokens begins
abbrev pub place_of : Tokens → ℕ
place_of [] = 0
place_of (t ∷ ts) = t.from
