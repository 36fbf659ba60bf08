-- Bytes have one token list.
use Rattle.std.proofs.Common.{◌≡◌, ℕ, ◌+◌, true, List, [], ◌∷◌, ◌++◌, length, refl, sym, ap, ◌∙◌, subst, inl, inr, ◌⊎◌, append_assoc}
use Rattle.std.specs.Prelude.{not, ◌==◌}
use Rattle.std.specs.List.{flat_map}
use Rattle.std.proofs.lemmas.Bool.{and_parts, both_ways}
use Rattle.pg_lex.specs.declared.token.Token.{Token}
use Rattle.pg_lex.specs.declared.token.TokenKind.{TokenKind}
use Rattle.pg_lex.specs.declared.token.TokenKind.TheVariants.{End, Bad}
use Rattle.pg_lex.specs.Bytes.{is_white, starts_with}
use Rattle.pg_lex.specs.Tokens.{Stands, IsUnclosed, Blank, White, Comment, bytes_of, is_line, EndsLine, IsBlank, AreBlank, IsClear, Gap, Begins, IsLast, Ends, Tokens}
use Rattle.pg_lex.specs.Spelled.{spells_some, stands_once}

-- BLANKS

no_feed : (c : ℕ) (line : List ℕ) → is_line (c ∷ line) ≡ true → (c == 10) ≡ true → ⊥
no_feed c line h e = both_ways (is_line (c ∷ line)) (rw e refl) h

-- a line that ends where one follows goes no further
line_stops : (c : ℕ) (line rest more : List ℕ) → rest ≡ c ∷ (line ++ more) → is_line (c ∷ line) ≡ true → EndsLine rest → ⊥
line_stops c line rest more e h (inl n) = cc
line_stops c line rest more e h (inr s) = no_feed c line h (sym (ap (starts_with 10) e) ∙ s)

lines_once : (l m x y : List ℕ) → l ++ x ≡ m ++ y → is_line l ≡ true → EndsLine x → is_line m ≡ true → EndsLine y → (l ≡ m) × (x ≡ y)
lines_once [] [] x y e a s b t = (refl, e)
lines_once [] (c ∷ m) x y e a s b t = absurd (line_stops c m x y e b s)
lines_once (c ∷ l) [] x y e a s b t = absurd (line_stops c l y x (sym e) a t)
lines_once (c ∷ l) (d ∷ m) x y e a s b t =
    let h : c ≡ d = cc in
    let g : l ++ x ≡ m ++ y = cc in
    let k = lines_once l m x y g (and_parts (not (c == 10)) (is_line l) a).1 s (and_parts (not (d == 10)) (is_line m) b).1 t in
    (rw (h, k.0) refl, k.1)

no_dash : (b : ℕ) → b ≡ 45 → is_white b ≡ true → ⊥
no_dash b e h = both_ways (is_white b) (rw e refl) h

blank_once : (b c : Blank) (x y : List ℕ) → bytes_of b ++ x ≡ bytes_of c ++ y → IsBlank b x → IsBlank c y → (b ≡ c) × (x ≡ y)
blank_once (White b) (White c) x y e g h = let p : b ≡ c = cc in let q : x ≡ y = cc in (ap White p, q)
blank_once (White b) (Comment m) x y e g h = let p : b ≡ 45 = cc in absurd (no_dash b p g)
blank_once (Comment l) (White c) x y e g h = let p : c ≡ 45 = cc in absurd (no_dash c p h)
blank_once (Comment l) (Comment m) x y e g h =
    let p : l ++ x ≡ m ++ y = cc in
    let k = lines_once l m x y p g.0 g.1 h.0 h.1 in
    (ap Comment k.0, k.1)

blanks_once : (bs cs : List Blank) (x y : List ℕ) → flat_map bytes_of bs ++ x ≡ flat_map bytes_of cs ++ y → AreBlank bs x → AreBlank cs y → IsClear x → IsClear y → (bs ≡ cs) × (x ≡ y)
blanks_once [] [] x y e g h p q = (refl, e)
blanks_once [] (c ∷ cs) x y e g h p q = absurd (p c (flat_map bytes_of cs ++ y) (e ∙ append_assoc (bytes_of c) (flat_map bytes_of cs) y) h.0)
blanks_once (b ∷ bs) [] x y e g h p q = absurd (q b (flat_map bytes_of bs ++ x) (sym e ∙ append_assoc (bytes_of b) (flat_map bytes_of bs) x) g.0)
blanks_once (b ∷ bs) (c ∷ cs) x y e g h p q =
    let d = sym (append_assoc (bytes_of b) (flat_map bytes_of bs) x) ∙ e ∙ append_assoc (bytes_of c) (flat_map bytes_of cs) y in
    let f = blank_once b c (flat_map bytes_of bs ++ x) (flat_map bytes_of cs ++ y) d g.0 h.0 in
    let k = blanks_once bs cs x y f.1 g.1 h.1 p q in
    (rw (f.0, k.0) refl, k.1)

pub gap_once : (g h x y : List ℕ) → g ++ x ≡ h ++ y → Gap g x → Gap h y → (g ≡ h) × (x ≡ y)
gap_once g h x y e p q =
    let d = sym (ap (λ (l : List ℕ). l ++ x) p.bytes) ∙ e ∙ ap (λ (l : List ℕ). l ++ y) q.bytes in
    let k = blanks_once p.blanks q.blanks x y d p.each q.each p.clear q.clear in
    (p.bytes ∙ ap (flat_map bytes_of) k.0 ∙ sym q.bytes, k.1)

-- TOKENS

-- an unclosed quote's place, or the first byte
bad_once : (P : Type 0) (a b p q : ℕ) → (P × (p ≡ a)) ⊎ ((P → ⊥) × (p ≡ b)) → (P × (q ≡ a)) ⊎ ((P → ⊥) × (q ≡ b)) → p ≡ q
bad_once P a b p q (inl x) (inl y) = x.1 ∙ sym y.1
bad_once P a b p q (inl x) (inr y) = absurd (y.0 x.0)
bad_once P a b p q (inr x) (inl y) = absurd (x.0 y.0)
bad_once P a b p q (inr x) (inr y) = x.1 ∙ sym y.1

last_once : (k j : TokenKind) (at p q : ℕ) (rest : List ℕ) → IsLast k at rest p → IsLast j at rest q → (k ≡ j) × (p ≡ q)
last_once End End at p q rest g h = (refl, g.1 ∙ sym h.1)
last_once End Bad at p q rest g h = absurd (h.0 g.0)
last_once End _ at p q rest g h = absurd h
last_once Bad End at p q rest g h = absurd (g.0 h.0)
last_once Bad Bad at p q rest g h = (refl, bad_once (IsUnclosed rest) (at + length rest) at p q g.2 h.2)
last_once Bad _ at p q rest g h = absurd h
last_once _ j at p q rest g h = absurd g

-- where a last token stands no other token does
last_alone : (k j : TokenKind) (at p : ℕ) (rest used more : List ℕ) → rest ≡ used ++ more → IsLast k at rest p → Stands j used more → ⊥
last_alone End j at p rest [] more e g h = spells_some j h.spells
last_alone End j at p rest (c ∷ used) more e g h = let n : [] ≡ c ∷ (used ++ more) = sym g.0 ∙ e in cc
last_alone Bad j at p rest used more e g h = g.1 j used more e h
last_alone _ j at p rest used more e g h = absurd g

abbrev made : TokenKind → ℕ → ℕ → Token
made k f o = record { kind = k; from = f; to = o }

made_same : (k j : TokenKind) (f g o p : ℕ) → k ≡ j → f ≡ g → o ≡ p → made k f o ≡ made j g p
made_same k j f g o p a b c = rw (a, b, c) refl

token_same : (t u : Token) → t.kind ≡ u.kind → t.from ≡ u.from → t.to ≡ u.to → t ≡ u
token_same t u k f o = made_same t.kind u.kind t.from u.from t.to u.to k f o

ends_once : (at : ℕ) (text : List ℕ) (t u : Token) → Ends at text t → Ends at text u → t ≡ u
ends_once at text t u g h =
    let k = gap_once g.before h.before g.rest h.rest (sym g.parts ∙ h.parts) g.gap h.gap in
    let i : IsLast u.kind (at + length g.before) g.rest u.from = subst (λ (r : List ℕ). IsLast u.kind (at + length g.before) r u.from) (sym k.1) (subst (λ (l : List ℕ). IsLast u.kind (at + length l) h.rest u.from) (sym k.0) h.from) in
    let l = last_once t.kind u.kind (at + length g.before) t.from u.from g.rest g.from i in
    token_same t u l.0 l.1 (g.to ∙ l.1 ∙ sym h.to)

ends_alone : (at : ℕ) (text rest : List ℕ) (t u : Token) → Ends at text t → Begins at text u rest → ⊥
ends_alone at text rest t u g h =
    let k = gap_once g.before h.before g.rest (h.used ++ rest) (sym g.parts ∙ h.parts) g.gap h.gap in
    last_alone t.kind u.kind (at + length g.before) t.from g.rest h.used rest k.1 g.from h.stands

begins_once : (at : ℕ) (text r s : List ℕ) (t u : Token) → Begins at text t r → Begins at text u s → (t ≡ u) × (r ≡ s)
begins_once at text r s t u g h =
    let k = gap_once g.before h.before (g.used ++ r) (h.used ++ s) (sym g.parts ∙ h.parts) g.gap h.gap in
    let m = stands_once t.kind u.kind g.used h.used r s k.1 g.stands h.stands in
    let f : t.from ≡ u.from = g.from ∙ ap (λ (l : List ℕ). at + length l) k.0 ∙ sym h.from in
    let o : t.to ≡ u.to = g.to ∙ ap (λ n. n + length g.used) f ∙ ap (λ (l : List ℕ). u.from + length l) m.used ∙ sym h.to in
    (token_same t u m.kind f o, m.rest)

-- Two token lists of the same bytes are one.
pub tokens_once : (at : ℕ) (text : List ℕ) (ts us : List Token) → Tokens at text ts → Tokens at text us → ts ≡ us
tokens_once at text [] us g h = absurd g
tokens_once at text (t ∷ ts) [] g h = absurd h
tokens_once at text (t ∷ ts) (u ∷ us) (inl g) (inl h) = let e = ends_once at text t u g.0 h.0 in rw (e, g.1, h.1) refl
tokens_once at text (t ∷ ts) (u ∷ us) (inl g) (inr (s, h, hs)) = absurd (ends_alone at text s t u g.0 h)
tokens_once at text (t ∷ ts) (u ∷ us) (inr (r, g, gs)) (inl h) = absurd (ends_alone at text r u t h.0 g)
tokens_once at text (t ∷ ts) (u ∷ us) (inr (r, g, gs)) (inr (s, h, hs)) =
    let e = begins_once at text r s t u g h in
    let i : Tokens t.to r us = subst (λ (l : List ℕ). Tokens t.to l us) (sym e.1) (subst (λ (x : Token). Tokens x.to s us) (sym e.0) hs) in
    rw (e.0, tokens_once t.to r ts us gs i) refl
