-- What a front that spells a token tells of its kind.
use Rattle.std.proofs.Common.{◌≡◌, ◌≢◌, ℕ, ◌≤◌, Bool, true, false, cond, List, [], ◌∷◌, ◌++◌, length, Option, Some, None, refl, sym, ap, ◌∙◌, subst, arith, inl, inr, ◌⊎◌}
use Rattle.std.specs.Prelude.{◌||◌, ◌==◌}
use Rattle.std.specs.List.{list_any, list_all}
use Rattle.std.specs.Str.{bytes_eq}
use Rattle.std.proofs.lemmas.Bool.Decides.{nat_tests}
use Rattle.std.proofs.lemmas.Bool.{and_parts, both_ways, eqb-true, eqb-false, eq-eqb}
use Rattle.std.proofs.lemmas.Slice.Eq.{bytes_eq-Decides}
use Rattle.pg_lex.specs.declared.token.TokenKind.{TokenKind}
use Rattle.pg_lex.specs.declared.token.TokenKind.TheVariants.{Word, Quoted, Number, Literal, Symbol, End, Bad}
use Rattle.pg_lex.specs.Bytes.{is_digit, is_letter, starts, starts_with}
use Rattle.pg_lex.specs.Tokens.{Spells, Stands, symbols, is_symbol, doubled, quoted}

-- THE FIRST BYTE TELLS THE KIND

pub data Class : Type 0 where
  Letter : Class
  Digit : Class
  Double : Class
  Single : Class
  Other : Class

abbrev pub class_of : ℕ → Class
class_of b = cond (is_letter b) Letter (cond (is_digit b) Digit (cond (b == 34) Double (cond (b == 39) Single Other)))

abbrev pub front_class : List ℕ → Option Class
front_class [] = None
front_class (b ∷ bs) = Some (class_of b)

abbrev pub kind_class : TokenKind → Class
kind_class (Word _) = Letter
kind_class (Quoted _) = Double
kind_class (Number _) = Digit
kind_class (Literal _) = Single
kind_class _ = Other

abbrev is_other : Option Class → Bool
is_other (Some Other) = true
is_other _ = false

other_is : (c : Option Class) → is_other c ≡ true → c ≡ Some Other
other_is (Some Other) h = refl
other_is _ h = absurd cc

pub bytes_same : (v w : List ℕ) → bytes_eq v w ≡ true → v ≡ w
bytes_same v w e = (bytes_eq-Decides v w).0 e

-- what a test says of each of these lists it says of a list among them
pub found_is : (test : List ℕ → Bool) (ss : List (List ℕ)) (bytes : List ℕ) → list_all test ss ≡ true → list_any (λ s. bytes_eq bytes s) ss ≡ true → test bytes ≡ true
found_is test [] bytes h e = absurd cc
found_is test (s ∷ ss) bytes h e =
    let k = and_parts (test s) (list_all test ss) h in
    by (bytes_eq bytes s) refl e k.0 (λ g. found_is test ss bytes k.1 g) where
      by : (t : Bool) → bytes_eq bytes s ≡ t → (t || list_any (λ s. bytes_eq bytes s) ss) ≡ true → test s ≡ true → (list_any (λ s. bytes_eq bytes s) ss ≡ true → test bytes ≡ true) → test bytes ≡ true
      by true b e h k = ap test (bytes_same bytes s b) ∙ h
      by false b e h k = k e

-- a symbol has one byte or two
abbrev pub is_short : List ℕ → Bool
is_short (b ∷ []) = true
is_short (b ∷ c ∷ []) = true
is_short _ = false

pub symbol_short : (bytes : List ℕ) → is_symbol bytes ≡ true → is_short bytes ≡ true
unfolding is_symbol
symbol_short bytes h = found_is is_short symbols bytes refl h

symbol_class : (bytes : List ℕ) → is_symbol bytes ≡ true → front_class bytes ≡ Some Other
unfolding is_symbol
symbol_class bytes h = other_is (front_class bytes) (found_is (λ s. is_other (front_class s)) symbols bytes refl h)

pub digit_no_letter : (b : ℕ) → is_digit b ≡ true → is_letter b ≡ false
digit_no_letter b h = grind (arith, nat_tests)

pub letter_class : (bytes : List ℕ) → starts is_letter bytes ≡ true → front_class bytes ≡ Some Letter
letter_class [] h = absurd cc
letter_class (b ∷ bs) h = rw h refl

pub digit_class : (bytes : List ℕ) → starts is_digit bytes ≡ true → front_class bytes ≡ Some Digit
digit_class [] h = absurd cc
digit_class (b ∷ bs) h = rw (digit_no_letter b h, h) refl

front_class-append : (c : Class) (used rest : List ℕ) → front_class used ≡ Some c → front_class (used ++ rest) ≡ Some c
front_class-append c [] rest h = absurd cc
front_class-append c (b ∷ bs) rest h = h

own_class : (k : TokenKind) (used : List ℕ) → Spells k used → front_class used ≡ Some (kind_class k)
own_class (Word w) used h = letter_class used h.0
own_class (Quoted w) used h = ap front_class h.1
own_class (Number w) used h = digit_class used h.0
own_class (Literal w) used h = ap front_class h
own_class (Symbol w) used h = symbol_class used h.0
own_class End used h = absurd h
own_class Bad used h = absurd h

pub spells_class : (k : TokenKind) (text used rest : List ℕ) → text ≡ used ++ rest → Spells k used → front_class text ≡ Some (kind_class k)
spells_class k text used rest e h = ap front_class e ∙ front_class-append (kind_class k) used rest (own_class k used h)

pub spells_some : (k : TokenKind) → Spells k [] → ⊥
spells_some k h = let e = own_class k [] h in absurd cc

pub same_front : (a b x y : List ℕ) → a ++ x ≡ b ++ y → length a ≡ length b → (a ≡ b) × (x ≡ y)
same_front [] [] x y e n = (refl, e)
same_front [] (c ∷ b) x y e n = absurd (omega arith)
same_front (c ∷ a) [] x y e n = absurd (omega arith)
same_front (c ∷ a) (d ∷ b) x y e n =
    let h : c ≡ d = cc in
    let t : a ++ x ≡ b ++ y = cc in
    let m : length a ≡ length b = omega arith in
    let k = same_front a b x y t m in
    (rw (h, k.0) refl, k.1)

-- QUOTES

-- what a first byte makes of a text whose quotes are doubled
abbrev IsDoubled : ℕ → ℕ → List ℕ → Type 0
IsDoubled q c u = ((c ≡ q) × (doubled q (c ∷ u) ≡ q ∷ q ∷ doubled q u)) ⊎ ((c ≢ q) × (doubled q (c ∷ u) ≡ c ∷ doubled q u))

see : (q c : ℕ) (u : List ℕ) → IsDoubled q c u
see q c u = by (c == q) refl where
  by : (t : Bool) → (c == q) ≡ t → ((c ≡ q) × (cond t (q ∷ q ∷ doubled q u) (c ∷ doubled q u) ≡ q ∷ q ∷ doubled q u)) ⊎ ((c ≢ q) × (cond t (q ∷ q ∷ doubled q u) (c ∷ doubled q u) ≡ c ∷ doubled q u))
  by true e = inl (eqb-true c q e, refl)
  by false e = inr (eqb-false c q e, refl)

starts_quote : (q : ℕ) (rest more : List ℕ) → rest ≡ q ∷ more → starts_with q rest ≡ false → ⊥
starts_quote q rest more e h = both_ways (starts_with q rest) h (ap (starts_with q) e ∙ eq-eqb q q refl)

-- a closing quote with no quote behind it is the last that can close the text
pub closes_first : (q : ℕ) (u t other more : List ℕ) → doubled q u ++ q ∷ other ≡ doubled q t ++ q ∷ more → starts_with q more ≡ false → length (doubled q u) ≤ length (doubled q t)
closes_first q [] t other more e h = omega arith
closes_first q (c ∷ u) [] other more e h =
    elim (see q c u) [
      | inl w ↦ (
          let g : q ∷ q ∷ (doubled q u ++ q ∷ other) ≡ q ∷ more = sym (ap (λ (l : List ℕ). l ++ q ∷ other) w.1) ∙ e in
          let m : more ≡ q ∷ (doubled q u ++ q ∷ other) = cc in
          absurd (starts_quote q more (doubled q u ++ q ∷ other) m h))
      | inr w ↦ (
          let g : c ∷ (doubled q u ++ q ∷ other) ≡ q ∷ more = sym (ap (λ (l : List ℕ). l ++ q ∷ other) w.1) ∙ e in
          let m : c ≡ q = cc in
          absurd (w.0 m))
    ]
closes_first q (c ∷ u) (d ∷ t) other more e h =
    let go = λ (g : doubled q u ++ q ∷ other ≡ doubled q t ++ q ∷ more). closes_first q u t other more g h in
    elim (see q c u) [
      | inl w ↦ elim (see q d t) [
        | inl v ↦ (
            let g : q ∷ q ∷ (doubled q u ++ q ∷ other) ≡ q ∷ q ∷ (doubled q t ++ q ∷ more) = sym (ap (λ (l : List ℕ). l ++ q ∷ other) w.1) ∙ e ∙ ap (λ (l : List ℕ). l ++ q ∷ more) v.1 in
            let m : doubled q u ++ q ∷ other ≡ doubled q t ++ q ∷ more = cc in
            let n = go m in
            rw (w.1, v.1) (omega arith))
        | inr v ↦ (
            let g : q ∷ q ∷ (doubled q u ++ q ∷ other) ≡ d ∷ (doubled q t ++ q ∷ more) = sym (ap (λ (l : List ℕ). l ++ q ∷ other) w.1) ∙ e ∙ ap (λ (l : List ℕ). l ++ q ∷ more) v.1 in
            let m : d ≡ q = cc in
            absurd (v.0 m))
      ]
      | inr w ↦ elim (see q d t) [
        | inl v ↦ (
            let g : c ∷ (doubled q u ++ q ∷ other) ≡ q ∷ q ∷ (doubled q t ++ q ∷ more) = sym (ap (λ (l : List ℕ). l ++ q ∷ other) w.1) ∙ e ∙ ap (λ (l : List ℕ). l ++ q ∷ more) v.1 in
            let m : c ≡ q = cc in
            absurd (w.0 m))
        | inr v ↦ (
            let g : c ∷ (doubled q u ++ q ∷ other) ≡ d ∷ (doubled q t ++ q ∷ more) = sym (ap (λ (l : List ℕ). l ++ q ∷ other) w.1) ∙ e ∙ ap (λ (l : List ℕ). l ++ q ∷ more) v.1 in
            let m : doubled q u ++ q ∷ other ≡ doubled q t ++ q ∷ more = cc in
            let n = go m in
            rw (w.1, v.1) (omega arith))
      ]
    ]

-- where only doubled quotes stand, none closes
pub never_closes : (q : ℕ) (t u rest : List ℕ) → doubled q t ≡ doubled q u ++ q ∷ rest → starts_with q rest ≡ false → ⊥
never_closes q [] [] rest e h = cc
never_closes q [] (c ∷ u) rest e h =
    elim (see q c u) [
      | inl w ↦ (let g : [] ≡ q ∷ q ∷ (doubled q u ++ q ∷ rest) = e ∙ ap (λ (l : List ℕ). l ++ q ∷ rest) w.1 in cc)
      | inr w ↦ (let g : [] ≡ c ∷ (doubled q u ++ q ∷ rest) = e ∙ ap (λ (l : List ℕ). l ++ q ∷ rest) w.1 in cc)
    ]
never_closes q (d ∷ t) [] rest e h =
    elim (see q d t) [
      | inl v ↦ (
          let g : q ∷ q ∷ doubled q t ≡ q ∷ rest = sym v.1 ∙ e in
          let m : rest ≡ q ∷ doubled q t = cc in
          starts_quote q rest (doubled q t) m h)
      | inr v ↦ (
          let g : d ∷ doubled q t ≡ q ∷ rest = sym v.1 ∙ e in
          let m : d ≡ q = cc in
          v.0 m)
    ]
never_closes q (d ∷ t) (c ∷ u) rest e h =
    elim (see q d t) [
      | inl v ↦ elim (see q c u) [
        | inl w ↦ (
            let g : q ∷ q ∷ doubled q t ≡ q ∷ q ∷ (doubled q u ++ q ∷ rest) = sym v.1 ∙ e ∙ ap (λ (l : List ℕ). l ++ q ∷ rest) w.1 in
            let m : doubled q t ≡ doubled q u ++ q ∷ rest = cc in
            never_closes q t u rest m h)
        | inr w ↦ (
            let g : q ∷ q ∷ doubled q t ≡ c ∷ (doubled q u ++ q ∷ rest) = sym v.1 ∙ e ∙ ap (λ (l : List ℕ). l ++ q ∷ rest) w.1 in
            let m : c ≡ q = cc in
            w.0 m)
      ]
      | inr v ↦ elim (see q c u) [
        | inl w ↦ (
            let g : d ∷ doubled q t ≡ q ∷ q ∷ (doubled q u ++ q ∷ rest) = sym v.1 ∙ e ∙ ap (λ (l : List ℕ). l ++ q ∷ rest) w.1 in
            let m : d ≡ q = cc in
            v.0 m)
        | inr w ↦ (
            let g : d ∷ doubled q t ≡ c ∷ (doubled q u ++ q ∷ rest) = sym v.1 ∙ e ∙ ap (λ (l : List ℕ). l ++ q ∷ rest) w.1 in
            let m : doubled q t ≡ doubled q u ++ q ∷ rest = cc in
            never_closes q t u rest m h)
      ]
    ]

-- a text is told from what it is written as
pub doubled_same : (q : ℕ) (u t : List ℕ) → doubled q u ≡ doubled q t → u ≡ t
doubled_same q [] [] e = refl
doubled_same q [] (d ∷ t) e =
    elim (see q d t) [
      | inl v ↦ (let g : [] ≡ q ∷ q ∷ doubled q t = e ∙ v.1 in absurd cc)
      | inr v ↦ (let g : [] ≡ d ∷ doubled q t = e ∙ v.1 in absurd cc)
    ]
doubled_same q (c ∷ u) [] e =
    elim (see q c u) [
      | inl w ↦ (let g : q ∷ q ∷ doubled q u ≡ [] = sym w.1 ∙ e in absurd cc)
      | inr w ↦ (let g : c ∷ doubled q u ≡ [] = sym w.1 ∙ e in absurd cc)
    ]
doubled_same q (c ∷ u) (d ∷ t) e =
    elim (see q c u) [
      | inl w ↦ elim (see q d t) [
        | inl v ↦ (
            let g : q ∷ q ∷ doubled q u ≡ q ∷ q ∷ doubled q t = sym w.1 ∙ e ∙ v.1 in
            let m : doubled q u ≡ doubled q t = cc in
            let n = doubled_same q u t m in
            rw (w.0, v.0, n) refl)
        | inr v ↦ (
            let g : q ∷ q ∷ doubled q u ≡ d ∷ doubled q t = sym w.1 ∙ e ∙ v.1 in
            let m : d ≡ q = cc in
            absurd (v.0 m))
      ]
      | inr w ↦ elim (see q d t) [
        | inl v ↦ (
            let g : c ∷ doubled q u ≡ q ∷ q ∷ doubled q t = sym w.1 ∙ e ∙ v.1 in
            let m : c ≡ q = cc in
            absurd (w.0 m))
        | inr v ↦ (
            let g : c ∷ doubled q u ≡ d ∷ doubled q t = sym w.1 ∙ e ∙ v.1 in
            let m : doubled q u ≡ doubled q t = cc in
            let h : c ≡ d = cc in
            let n = doubled_same q u t m in
            rw (h, n) refl)
      ]
    ]

pub quoted_same : (q : ℕ) (u t : List ℕ) → quoted q u ≡ quoted q t → u ≡ t
quoted_same q u t e =
    let g : doubled q u ++ q ∷ [] ≡ doubled q t ++ q ∷ [] = cc in
    let a = closes_first q u t [] [] g refl in
    let b = closes_first q t u [] [] (sym g) refl in
    doubled_same q u t (same_front (doubled q u) (doubled q t) (q ∷ []) (q ∷ []) g (omega arith)).0

-- ONE TOKEN AT THE FRONT

-- bytes spell one token
pub spells_once : (k j : TokenKind) (used : List ℕ) → Spells k used → Spells j used → k ≡ j
spells_once k j used g h = by k j (own_class k used g) (own_class j used h) g h where
  by : (k j : TokenKind) → front_class used ≡ Some (kind_class k) → front_class used ≡ Some (kind_class j) → Spells k used → Spells j used → k ≡ j
  by (Word v) (Word w) a b g h = ap Word (g.2 ∙ sym h.2)
  by (Word v) _ a b g h = absurd cc
  by (Quoted v) (Quoted w) a b g h = ap Quoted (quoted_same 34 v w (sym g.1 ∙ h.1))
  by (Quoted v) _ a b g h = absurd cc
  by (Number v) (Number w) a b g h = ap Number (g.2 ∙ sym h.2)
  by (Number v) _ a b g h = absurd cc
  by (Literal v) (Literal w) a b g h = ap Literal (quoted_same 39 v w (sym g ∙ h))
  by (Literal v) _ a b g h = absurd cc
  by (Symbol v) (Symbol w) a b g h = ap Symbol (g.1 ∙ sym h.1)
  by (Symbol v) End a b g h = absurd h
  by (Symbol v) Bad a b g h = absurd h
  by (Symbol v) _ a b g h = absurd cc
  by End _ a b g h = absurd g
  by Bad _ a b g h = absurd g

pub record Same (k j : TokenKind) (u v r s : List ℕ) : Type 0 where
  pub kind : k ≡ j
  pub used : u ≡ v
  pub rest : r ≡ s

-- at most one token stands at the front
pub stands_once : (k j : TokenKind) (u v r s : List ℕ) → u ++ r ≡ v ++ s → Stands k u r → Stands j v s → Same k j u v r s
stands_once k j u v r s e g h =
    let a : length v ≤ length u = g.longest v s j e h.spells in
    let b : length u ≤ length v = h.longest u r k (sym e) g.spells in
    let p = same_front u v r s e (omega arith) in
    record { kind = spells_once k j v (subst (Spells k) p.0 g.spells) h.spells; used = p.0; rest = p.1 }
