-- Sets of patterns, and which of them no token meets together.
use Rattle.std.proofs.Common.{◌≡◌, ℕ, Bool, true, false, List, [], ◌∷◌, ◌++◌, refl, sym, ap, ◌∙◌}
use Rattle.std.specs.Prelude.{◌||◌, ◌&&◌, not}
use Rattle.std.specs.Str.{bytes_eq}
use Rattle.std.proofs.lemmas.Slice.Eq.{bytes_eq-Decides}
use Rattle.pg_lex.specs.declared.token.Token.{Token}
use Rattle.pg_lex.specs.declared.token.TokenKind.{TokenKind}
use Rattle.pg_lex.specs.declared.token.TokenKind.TheVariants.{Word, Quoted, Number, Literal, Symbol, End, Bad}
use Rattle.pg_ast.specs.Words.Terminals.{Terminal, Exactly, AName, ANumber, AText, fits, matches, kind_eq, is_name, is_number, is_text}

pub bytes-same : (v w : List ℕ) → bytes_eq v w ≡ true → v ≡ w
bytes-same v w e = (bytes_eq-Decides v w).0 e

bytes-self : (v : List ℕ) → bytes_eq v v ≡ true
bytes-self v = (bytes_eq-Decides v v).1 refl

pub kind-same : (j k : TokenKind) → kind_eq j k ≡ true → j ≡ k
kind-same (Word v) (Word w) e = ap Word (bytes-same v w e)
kind-same (Quoted v) (Quoted w) e = ap Quoted (bytes-same v w e)
kind-same (Number v) (Number w) e = ap Number (bytes-same v w e)
kind-same (Literal v) (Literal w) e = ap Literal (bytes-same v w e)
kind-same (Symbol v) (Symbol w) e = ap Symbol (bytes-same v w e)
kind-same End End e = refl
kind-same Bad Bad e = refl
kind-same _ _ e = absurd cc

pub kind-self : (k : TokenKind) → kind_eq k k ≡ true
kind-self (Word v) = bytes-self v
kind-self (Quoted v) = bytes-self v
kind-self (Number v) = bytes-self v
kind-self (Literal v) = bytes-self v
kind-self (Symbol v) = bytes-self v
kind-self End = refl
kind-self Bad = refl

-- no token meets both
abbrev pub apart : Terminal → Terminal → Bool
apart (Exactly k) q = not (fits q k)
apart AName (Exactly k) = not (is_name k)
apart ANumber (Exactly k) = not (is_number k)
apart AText (Exactly k) = not (is_text k)
apart AName AName = false
apart ANumber ANumber = false
apart AText AText = false
apart _ _ = true

not-true : (b : Bool) → not b ≡ true → b ≡ false
not-true true e = absurd cc
not-true false e = refl

other-than : (f : TokenKind → Bool) (j k : TokenKind) (b : Bool) → kind_eq k j ≡ b → f j ≡ false → f k ≡ true → b ≡ false
other-than f j k false e n y = refl
other-than f j k true e n y = let same : k ≡ j = kind-same k j e in absurd (let l : f k ≡ f j = ap f same in cc)

name-number : (k : TokenKind) → is_name k ≡ true → is_number k ≡ false
name-number (Number v) e = absurd cc
name-number _ e = refl

name-text : (k : TokenKind) → is_name k ≡ true → is_text k ≡ false
name-text (Literal v) e = absurd cc
name-text _ e = refl

number-other : (k : TokenKind) → is_number k ≡ true → (is_name k ≡ false) × (is_text k ≡ false)
number-other (Number v) e = (refl, refl)
number-other _ e = absurd cc

text-other : (k : TokenKind) → is_text k ≡ true → (is_name k ≡ false) × (is_number k ≡ false)
text-other (Literal v) e = (refl, refl)
text-other _ e = absurd cc

apart-sound : (p q : Terminal) (k : TokenKind) → apart p q ≡ true → fits p k ≡ true → fits q k ≡ false
apart-sound (Exactly j) q k a e = let same : k ≡ j = kind-same k j e in ap (fits q) same ∙ not-true (fits q j) a
apart-sound AName (Exactly j) k a e = other-than is_name j k (kind_eq k j) refl (not-true (is_name j) a) e
apart-sound ANumber (Exactly j) k a e = other-than is_number j k (kind_eq k j) refl (not-true (is_number j) a) e
apart-sound AText (Exactly j) k a e = other-than is_text j k (kind_eq k j) refl (not-true (is_text j) a) e
apart-sound AName AName k a e = absurd cc
apart-sound AName ANumber k a e = name-number k e
apart-sound AName AText k a e = name-text k e
apart-sound ANumber AName k a e = (number-other k e).0
apart-sound ANumber ANumber k a e = absurd cc
apart-sound ANumber AText k a e = (number-other k e).1
apart-sound AText AName k a e = (text-other k e).0
apart-sound AText ANumber k a e = (text-other k e).1
apart-sound AText AText k a e = absurd cc

-- the token meets a pattern of the list
abbrev pub any : List Terminal → Token → Bool
any [] t = false
any (p ∷ []) t = matches p t
any (p ∷ q ∷ ps) t = matches p t || any (q ∷ ps) t

or-false : (b : Bool) → (b || false) ≡ b
or-false true = refl
or-false false = refl

pub any-cons : (p : Terminal) (ps : List Terminal) (t : Token) → any (p ∷ ps) t ≡ (matches p t || any ps t)
any-cons p [] t = sym (or-false (matches p t))
any-cons p (q ∷ ps) t = refl

or-parts : (a b : Bool) → (a || b) ≡ false → (a ≡ false) × (b ≡ false)
or-parts true b e = absurd cc
or-parts false b e = (refl, e)

and-parts : (a b : Bool) → (a && b) ≡ true → (a ≡ true) × (b ≡ true)
and-parts true b e = (refl, e)
and-parts false b e = absurd cc

pub any-parts : (ps qs : List Terminal) (t : Token) → any (ps ++ qs) t ≡ false → (any ps t ≡ false) × (any qs t ≡ false)
any-parts [] qs t e = (refl, e)
any-parts (p ∷ ps) qs t e =
    let c = or-parts (matches p t) (any (ps ++ qs) t) (sym (any-cons p (ps ++ qs) t) ∙ e) in
    let r = any-parts ps qs t c.1 in
    (any-cons p ps t ∙ rw (c.0, r.0) refl, r.1)

pub any-left : (ps qs : List Terminal) (t : Token) → any ps t ≡ true → any (ps ++ qs) t ≡ true
any-left [] qs t e = absurd cc
any-left (p ∷ ps) qs t e = any-cons p (ps ++ qs) t ∙ left (matches p t) refl (any-left ps qs t) where
  left : (b : Bool) → matches p t ≡ b → (any ps t ≡ true → any (ps ++ qs) t ≡ true) → (b || any (ps ++ qs) t) ≡ true
  left true m k = refl
  left false m k = k (sym (ap (λ (b : Bool). b || any ps t) m) ∙ sym (any-cons p ps t) ∙ e)

pub any-right : (ps qs : List Terminal) (t : Token) → any qs t ≡ true → any (ps ++ qs) t ≡ true
any-right [] qs t e = e
any-right (p ∷ ps) qs t e = any-cons p (ps ++ qs) t ∙ right (matches p t) (any-right ps qs t e) where
  right : (b : Bool) → any (ps ++ qs) t ≡ true → (b || any (ps ++ qs) t) ≡ true
  right true k = refl
  right false k = k

abbrev pub apart_all : Terminal → List Terminal → Bool
apart_all p [] = true
apart_all p (e ∷ es) = apart p e && apart_all p es

-- no token meets one of each
abbrev pub disjoint : List Terminal → List Terminal → Bool
disjoint [] es = true
disjoint (p ∷ ps) es = apart_all p es && disjoint ps es

apart_all-sound : (p : Terminal) (es : List Terminal) (t : Token) → apart_all p es ≡ true → matches p t ≡ true → any es t ≡ false
unfolding matches
apart_all-sound p [] t a e = refl
apart_all-sound p (q ∷ es) t a e =
    let c = and-parts (apart p q) (apart_all p es) a in
    any-cons q es t ∙ rw (apart-sound p q t.kind c.0 e, apart_all-sound p es t c.1 e) refl

pub disjoint-sound : (ps es : List Terminal) (t : Token) → disjoint ps es ≡ true → any ps t ≡ true → any es t ≡ false
disjoint-sound [] es t d e = absurd cc
disjoint-sound (p ∷ ps) es t d e =
    let c = and-parts (apart_all p es) (disjoint ps es) d in
    by (matches p t) refl c.0 (disjoint-sound ps es t c.1) where
      by : (b : Bool) → matches p t ≡ b → (apart_all p es ≡ true) → (any ps t ≡ true → any es t ≡ false) → any es t ≡ false
      by true m c k = apart_all-sound p es t c m
      by false m c k = k (sym (ap (λ (b : Bool). b || any ps t) m) ∙ sym (any-cons p ps t) ∙ e)

pub disjoint-none : (ps : List Terminal) → disjoint ps [] ≡ true
disjoint-none [] = refl
disjoint-none (p ∷ ps) = disjoint-none ps

abbrev pub same_pattern : Terminal → Terminal → Bool
same_pattern (Exactly j) (Exactly k) = kind_eq j k
same_pattern AName AName = true
same_pattern ANumber ANumber = true
same_pattern AText AText = true
same_pattern _ _ = false

same-sound : (p q : Terminal) → same_pattern p q ≡ true → p ≡ q
same-sound (Exactly j) (Exactly k) e = ap Exactly (kind-same j k e)
same-sound AName AName e = refl
same-sound ANumber ANumber e = refl
same-sound AText AText e = refl
same-sound _ _ e = absurd cc

abbrev pub has : List Terminal → Terminal → Bool
has [] p = false
has (q ∷ qs) p = same_pattern p q || has qs p

has-sound : (qs : List Terminal) (p : Terminal) (t : Token) → has qs p ≡ true → any qs t ≡ false → matches p t ≡ false
has-sound [] p t h e = absurd cc
has-sound (q ∷ qs) p t h e =
    let c = or-parts (matches q t) (any qs t) (sym (any-cons q qs t) ∙ e) in
    by (same_pattern p q) refl h c.0 (λ k. has-sound qs p t k c.1) where
      by : (b : Bool) → same_pattern p q ≡ b → (b || has qs p) ≡ true → matches q t ≡ false → (has qs p ≡ true → matches p t ≡ false) → matches p t ≡ false
      by true s h m k = ap (λ (p : Terminal). matches p t) (same-sound p q s) ∙ m
      by false s h m k = k h

-- each pattern of the first list stands in the second
abbrev pub within : List Terminal → List Terminal → Bool
within [] qs = true
within (p ∷ ps) qs = has qs p && within ps qs

pub within-none : (ps qs : List Terminal) (t : Token) → within ps qs ≡ true → any qs t ≡ false → any ps t ≡ false
within-none [] qs t w e = refl
within-none (p ∷ ps) qs t w e =
    let c = and-parts (has qs p) (within ps qs) w in
    any-cons p ps t ∙ rw (has-sound qs p t c.0 e, within-none ps qs t c.1 e) refl

pub within-some : (ps qs : List Terminal) (t : Token) → within ps qs ≡ true → any ps t ≡ true → any qs t ≡ true
within-some ps qs t w e = by (any qs t) refl (within-none ps qs t w) where
  by : (b : Bool) → any qs t ≡ b → (any qs t ≡ false → any ps t ≡ false) → any qs t ≡ true
  by true s k = s
  by false s k = absurd (let n = k s in cc)
