-- Which blanks stand at the front.
use Rattle.std.proofs.Common.{◌≡◌, ℕ, suc, ◌+◌, ◌-◌, ◌≤◌, Bool, true, false, cond, List, [], ◌∷◌, ◌++◌, length, take, drop, get_or, refl, sym, ap, ◌∙◌, subst, arith, inl, inr, append_assoc}
use Rattle.std.specs.Prelude.{not, ◌==◌}
use Rattle.std.specs.List.{flat_map, prefix_len}
use Rattle.std.proofs.lemmas.List.{take-append-drop, drop-drop, append-nil, take_all}
use Rattle.std.proofs.lemmas.List.Concat.{flat_map-append}
use Rattle.std.proofs.Math.Seq.{take-add}
use Rattle.std.proofs.lemmas.Bool.{both_ways}
use Rattle.pg_lex.specs.Bytes.{is_white}
use Rattle.pg_lex.specs.Tokens.{Blank, White, Comment, bytes_of, is_line, EndsLine, IsBlank, AreBlank, IsClear, Gap}
use Rattle.pg_lex.specs.Blanks.{BeginsBlank}

-- what is read as a line is one, and ends there
abbrev pub no_feed : ℕ → Bool
no_feed b = not (b == 10)

pub line_is : (bytes : List ℕ) → is_line (take (prefix_len no_feed bytes) bytes) ≡ true
line_is [] = refl
line_is (b ∷ bs) = by (b == 10) refl (line_is bs) where
  by : (t : Bool) → (b == 10) ≡ t → is_line (take (prefix_len no_feed bs) bs) ≡ true → is_line (take (cond (not t) (1 + prefix_len no_feed bs) 0) (b ∷ bs)) ≡ true
  by true e h = refl
  by false e h = let one : 1 + prefix_len no_feed bs ≡ suc (prefix_len no_feed bs) = omega arith in rw (one, e) h

pub line_ends : (bytes : List ℕ) → EndsLine (drop (prefix_len no_feed bytes) bytes)
line_ends [] = inl refl
line_ends (b ∷ bs) = by (b == 10) refl (line_ends bs) where
  by : (t : Bool) → (b == 10) ≡ t → EndsLine (drop (prefix_len no_feed bs) bs) → EndsLine (drop (cond (not t) (1 + prefix_len no_feed bs) 0) (b ∷ bs))
  by true e h = inr e
  by false e h = let one : 1 + prefix_len no_feed bs ≡ suc (prefix_len no_feed bs) = omega arith in rw one h

pub comment_begins : (line : List ℕ) → BeginsBlank (2 + prefix_len no_feed line) (45 ∷ 45 ∷ line)
comment_begins line =
    let two : 2 + prefix_len no_feed line ≡ suc (suc (prefix_len no_feed line)) = omega arith in
    record { blank = Comment (take (prefix_len no_feed line) line); spells = rw two refl; is = rw two (line_is line, line_ends line) }

pub comment_at : (bytes : List ℕ) (n : ℕ) → n ≡ prefix_len no_feed (take (length bytes - 2) (drop 2 bytes)) → 2 ≤ length bytes → get_or bytes 0 0 ≡ 45 → get_or bytes 1 0 ≡ 45 → BeginsBlank (2 + n) bytes
comment_at [] n e w f s = absurd (omega arith)
comment_at (a ∷ []) n e w f s = absurd (omega arith)
comment_at (a ∷ b ∷ line) n e w f s =
    let t : take (length (a ∷ b ∷ line) - 2) line ≡ line = take_all (length (a ∷ b ∷ line) - 2) line (omega arith) in
    let p : prefix_len no_feed line ≡ n = ap (prefix_len no_feed) (sym t) ∙ sym e in
    subst (λ m. BeginsBlank (2 + m) (a ∷ b ∷ line)) p (rw (f, s) (comment_begins line))

pub white_begins : (b : ℕ) (bs : List ℕ) → is_white b ≡ true → BeginsBlank 1 (b ∷ bs)
white_begins b bs h = record { blank = White b; spells = refl; is = h }

pub white_at : (bytes : List ℕ) → 1 ≤ length bytes → is_white (get_or bytes 0 0) ≡ true → BeginsBlank 1 bytes
white_at [] w h = absurd (omega arith)
white_at (b ∷ bs) w h = white_begins b bs h

-- bytes that begin with neither
pub clear_none : IsClear []
clear_none (White b) rest e h = cc
clear_none (Comment line) rest e h = cc

pub clear_one : (b : ℕ) → is_white b ≡ false → IsClear (b ∷ [])
clear_one b n (White c) rest e h = let p : b ≡ c = cc in both_ways (is_white b) n (rw p h)
clear_one b n (Comment line) rest e h = cc

pub clear_more : (b c : ℕ) (bs : List ℕ) → is_white b ≡ false → (b ≡ 45 → c ≡ 45 → ⊥) → IsClear (b ∷ c ∷ bs)
clear_more b c bs n m (White d) rest e h = let p : b ≡ d = cc in both_ways (is_white b) n (rw p h)
clear_more b c bs n m (Comment line) rest e h = let p : b ≡ 45 = cc in let q : c ≡ 45 = cc in m p q

-- one blank more
flat_more : (bs : List Blank) (b : Blank) (rest : List ℕ) → flat_map bytes_of (bs ++ b ∷ []) ++ rest ≡ flat_map bytes_of bs ++ (bytes_of b ++ rest)
flat_more bs b rest = simp (flat_map-append, append_assoc, append-nil)

are_more : (bs : List Blank) (b : Blank) (rest : List ℕ) → AreBlank bs (bytes_of b ++ rest) → IsBlank b rest → AreBlank (bs ++ b ∷ []) rest
are_more [] b rest h i = (i, tt)
are_more (c ∷ bs) b rest h i = (subst (IsBlank c) (sym (flat_more bs b rest)) h.0, are_more bs b rest h.1 i)

-- the bytes before a place are blanks
abbrev pub SoFar : List ℕ → ℕ → Type 0
SoFar bytes at = (bs : List Blank) × (take at bytes ≡ flat_map bytes_of bs) × AreBlank bs (drop at bytes)

pub so_far_none : (bytes : List ℕ) → SoFar bytes 0
so_far_none bytes = ([], refl, tt)

pub so_far_more : (bytes left : List ℕ) (at n : ℕ) → SoFar bytes at → left ≡ drop at bytes → BeginsBlank n left → SoFar bytes (at + n)
so_far_more bytes left at n (bs, e, h) p begins =
    let b = begins.blank in
    let f = begins.spells in
    let i = begins.is in
    let d : drop n left ≡ drop (at + n) bytes = ap (drop n) p ∙ drop-drop n at bytes in
    let cut : drop at bytes ≡ bytes_of b ++ drop (at + n) bytes = sym p ∙ sym (take-append-drop n left) ∙ ap (λ (l : List ℕ). l ++ drop n left) f ∙ ap (λ (l : List ℕ). bytes_of b ++ l) d in (
      bs ++ b ∷ [],
      take-add at n bytes ∙ ap (λ (l : List ℕ). take at bytes ++ take n l) (sym p) ∙ ap (λ (l : List ℕ). take at bytes ++ l) f ∙ ap (λ (l : List ℕ). l ++ bytes_of b) e
          ∙ simp (flat_map-append, append-nil),
      are_more bs b (drop (at + n) bytes) (subst (AreBlank bs) cut h) (subst (IsBlank b) d i),
    )

pub gap_all : (bytes left : List ℕ) (at : ℕ) → SoFar bytes at → left ≡ drop at bytes → IsClear left → Gap (take at bytes) (drop at bytes)
gap_all bytes left at (bs, e, h) p c = record { blanks = bs; bytes = e; each = h; clear = subst IsClear p c }
