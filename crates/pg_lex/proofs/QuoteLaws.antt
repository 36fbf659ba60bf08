-- A text in quotes at the front.
use Rattle.std.proofs.Common.{◌≡◌, ◌≢◌, ℕ, suc, ◌+◌, ◌-◌, ◌<◌, ◌≤◌, Bool, true, false, cond, List, [], ◌∷◌, ◌++◌, length, take, drop, get_or, Some, None, refl, sym, ap, ◌∙◌, subst, arith, inl, inr, append_assoc}
use Rattle.std.specs.Prelude.{◌==◌}
use Rattle.std.proofs.lemmas.List.{take-append-drop, take_at, drop_at, length-append, get_or_at, length_push}
use Rattle.std.specs.Str.{IsUtf8}
use Rattle.std.proofs.lemmas.Str.{IsUtf8-drop, IsCharBoundary-after_ascii}
use Rattle.std.proofs.lemmas.Bool.{eq-eqb, ne_eqb}
use Rattle.pg_lex.specs.declared.token.TokenKind.{TokenKind}
use Rattle.pg_lex.specs.declared.token.TokenKind.TheVariants.{Quoted, Literal, End, Bad}
use Rattle.pg_lex.specs.declared.front.Front.TheVariants.{Found, Unclosed, Nothing}
use Rattle.pg_lex.specs.Bytes.{starts_with}
use Rattle.pg_lex.specs.Tokens.{Spells, MayEnd, IsUnclosed, doubled, quoted}
use Rattle.pg_lex.specs.Front.{IsFront, IsBody}
use Rattle.pg_lex.specs.Spelled.{Double, Single, front_class, kind_class, spells_class, closes_first, never_closes}

-- READING ON

abbrev pub HasNo : ℕ → List ℕ → Type 0
HasNo q bs = (i : ℕ) → i < length bs → get_or bs i 0 ≢ q

doubled_none : (q : ℕ) (bs : List ℕ) → HasNo q bs → doubled q bs ≡ bs
doubled_none q [] h = refl
doubled_none q (b ∷ bs) h =
    let n : b ≢ q = h 0 (omega arith) in
    let r : HasNo q bs = λ i k. h (suc i) (omega arith) in
    rw (ne_eqb b q n, doubled_none q bs r) refl

doubled-append : (q : ℕ) (a b : List ℕ) → doubled q (a ++ b) ≡ doubled q a ++ doubled q b
doubled-append q [] b = refl
doubled-append q (c ∷ a) b = by (c == q) (doubled-append q a b) where
  by : (t : Bool) → doubled q (a ++ b) ≡ doubled q a ++ doubled q b
      → cond t (q ∷ q ∷ doubled q (a ++ b)) (c ∷ doubled q (a ++ b)) ≡ cond t (q ∷ q ∷ doubled q a) (c ∷ doubled q a) ++ doubled q b
  by true h = rw h refl
  by false h = rw h refl

doubled_one : (q : ℕ) → doubled q (q ∷ []) ≡ q ∷ q ∷ []
doubled_one q = rw (eq-eqb q q refl) refl

pub piece_more : (q : ℕ) (text out left piece rest more : List ℕ) → text ≡ doubled q out ++ left → left ≡ piece ++ q ∷ rest → HasNo q piece → rest ≡ q ∷ more
    → text ≡ doubled q ((out ++ piece) ++ q ∷ []) ++ more
piece_more q text out left piece rest more e l n r =
    rw (e, l, r) (simp (doubled-append, doubled_one, doubled_none q piece n, append_assoc))

pub piece_last : (q : ℕ) (text out left piece rest : List ℕ) → text ≡ doubled q out ++ left → left ≡ piece ++ q ∷ rest → HasNo q piece
    → text ≡ doubled q (out ++ piece) ++ q ∷ rest
piece_last q text out left piece rest e l n =
    rw (e, l) (simp (doubled-append, doubled_none q piece n, append_assoc))

pub piece_open : (q : ℕ) (text out left : List ℕ) → text ≡ doubled q out ++ left → HasNo q left → text ≡ doubled q (out ++ left)
piece_open q text out left e n = rw e (simp (doubled-append, doubled_none q left n))

pub not_starts : (q : ℕ) (rest : List ℕ) → ((more : List ℕ) → rest ≢ q ∷ more) → starts_with q rest ≡ false
not_starts q [] h = refl
not_starts q (b ∷ bs) h = ne_eqb b q (λ e. h bs (ap (λ x. x ∷ bs) e))

-- what follows an ASCII character is text
pub utf8_after : (q : ℕ) (bytes front more : List ℕ) → bytes ≡ front ++ q ∷ more → q < 128 → IsUtf8 bytes → IsUtf8 more
utf8_after q bytes front more e w u =
    let n : length front < length bytes = omega (arith, ap length e, length-append front (q ∷ more)) in
    let b : get_or bytes (length front) 0 ≡ q = ap (λ (l : List ℕ). get_or l (length front) 0) e ∙ get_or_at front q more 0 (length front) refl in
    let s : bytes ≡ (front ++ q ∷ []) ++ more = rw e (simp append_assoc) in
    let m : length (front ++ q ∷ []) ≡ length front + 1 = length_push front q in
    subst IsUtf8 (ap (drop (length front + 1)) s ∙ drop_at (front ++ q ∷ []) more (length front + 1) m)
    (IsUtf8-drop bytes (length front + 1) u (IsCharBoundary-after_ascii bytes (length front) u n (omega arith)))

-- how long what was read is
pub closed_len : (q : ℕ) (text out rest : List ℕ) → text ≡ doubled q out ++ q ∷ rest → length text - length rest ≡ length (doubled q out) + 1
closed_len q text out rest e = omega (arith, ap length e, length-append (doubled q out) (q ∷ rest))

-- WHAT STANDS AT THE FRONT

-- a quoted text's bytes, and that none longer spells a token
closed_at : (q : ℕ) (bytes text more : List ℕ) (n : ℕ) → bytes ≡ doubled q text ++ q ∷ more → n ≡ length (doubled q text) + 1
    → (n + 1 ≤ length (q ∷ bytes)) × (take (n + 1) (q ∷ bytes) ≡ quoted q text) × (drop (n + 1) (q ∷ bytes) ≡ more)
closed_at q bytes text more n e l =
    let p : q ∷ bytes ≡ quoted q text ++ more = rw e (simp append_assoc) in
    let s : length (quoted q text) ≡ n + 1 = omega (arith, length-append (doubled q text) (q ∷ [])) in
    (omega (arith, ap length p, length-append (quoted q text) more), ap (take (n + 1)) p ∙ take_at (quoted q text) more (n + 1) s, ap (drop (n + 1)) p ∙ drop_at (quoted q text) more (n + 1) s)

-- another front that spells a quoted text closes no later
shorter : (q : ℕ) (bytes text more u other : List ℕ) → bytes ≡ doubled q text ++ q ∷ more → starts_with q more ≡ false → q ∷ bytes ≡ quoted q u ++ other
    → length (doubled q u) ≤ length (doubled q text)
shorter q bytes text more u other e s h =
    let f : q ∷ (doubled q u ++ q ∷ other) ≡ q ∷ (doubled q text ++ q ∷ more) = sym (ap (λ l. q ∷ l) (append_assoc (doubled q u) (q ∷ []) other)) ∙ sym h ∙ ap (λ l. q ∷ l) e in
    let g : doubled q u ++ q ∷ other ≡ doubled q text ++ q ∷ more = cc in
    closes_first q u text other more g s

-- a front that is closed for good
not_open : (q : ℕ) (bytes t u rest : List ℕ) → bytes ≡ doubled q t → q ∷ bytes ≡ quoted q u ++ rest → starts_with q rest ≡ false → ⊥
not_open q bytes t u rest e h s =
    let f : q ∷ (doubled q u ++ q ∷ rest) ≡ q ∷ doubled q t = sym (ap (λ l. q ∷ l) (append_assoc (doubled q u) (q ∷ []) rest)) ∙ sym h ∙ ap (λ l. q ∷ l) e in
    let g : doubled q t ≡ doubled q u ++ q ∷ rest = cc in
    never_closes q t u rest g s

-- literals

only_literal : (P : Type 0) (other : List ℕ) (k : TokenKind) → Some Single ≡ Some (kind_class k) → Spells k other → ((u : List ℕ) → k ≡ Literal u → other ≡ quoted 39 u → P) → P
only_literal P other (Literal u) c l h = h u refl l
only_literal P other End c l h = absurd l
only_literal P other Bad c l h = absurd l
only_literal P other _ c l h = absurd cc

pub literal_found : (bytes text : List ℕ) (n : ℕ) → IsBody 39 bytes (Some (text, n)) → IsFront (Found (Literal text) (n + 1)) (39 ∷ bytes)
literal_found bytes text n (more, e, s, l) =
    let c = closed_at 39 bytes text more n e l in (
      c.0,
      record {
        spells = c.1;
        longest = λ other rest j f h.
            let f' : 39 ∷ bytes ≡ other ++ rest = sym (take-append-drop (n + 1) (39 ∷ bytes)) ∙ f in
            only_literal (length other ≤ length (take (n + 1) (39 ∷ bytes))) other j (spells_class j (39 ∷ bytes) other rest f' h) h (λ u k o.
            let m = shorter 39 bytes text more u rest e s (f' ∙ ap (λ (l : List ℕ). l ++ rest) o) in
            rw (o, c.1) (omega (arith, length-append (doubled 39 u) (39 ∷ []), length-append (doubled 39 text) (39 ∷ []))));
        ends = rw c.2 s;
      },
    )

pub literal_open : (bytes : List ℕ) → IsBody 39 bytes None → IsFront Unclosed (39 ∷ bytes)
literal_open bytes (t, e) = (
  λ k used rest f h.
      only_literal ⊥ used k (spells_class k (39 ∷ bytes) used rest f h.spells) h.spells (λ u j o.
      not_open 39 bytes t u rest e (f ∙ ap (λ (l : List ℕ). l ++ rest) o) (subst (λ i. MayEnd i rest) j h.ends)),
  inr (t, ap (λ l. 39 ∷ l) e),
)

-- delimited identifiers

only_name : (P : Type 0) (other : List ℕ) (k : TokenKind) → Some Double ≡ Some (kind_class k) → Spells k other → ((u : List ℕ) → k ≡ Quoted u → u ≢ [] → other ≡ quoted 34 u → P) → P
only_name P other (Quoted u) c l h = h u refl l.0 l.1
only_name P other End c l h = absurd l
only_name P other Bad c l h = absurd l
only_name P other _ c l h = absurd cc

pub name_found : (bytes text : List ℕ) (n : ℕ) → IsBody 34 bytes (Some (text, n)) → text ≢ [] → IsFront (Found (Quoted text) (n + 1)) (34 ∷ bytes)
name_found bytes text n (more, e, s, l) some =
    let c = closed_at 34 bytes text more n e l in (
      c.0,
      record {
        spells = (some, c.1);
        longest = λ other rest j f h.
            let f' : 34 ∷ bytes ≡ other ++ rest = sym (take-append-drop (n + 1) (34 ∷ bytes)) ∙ f in
            only_name (length other ≤ length (take (n + 1) (34 ∷ bytes))) other j (spells_class j (34 ∷ bytes) other rest f' h) h (λ u k a o.
            let m = shorter 34 bytes text more u rest e s (f' ∙ ap (λ (l : List ℕ). l ++ rest) o) in
            rw (o, c.1) (omega (arith, length-append (doubled 34 u) (34 ∷ []), length-append (doubled 34 text) (34 ∷ []))));
        ends = rw c.2 s;
      },
    )

pub name_open : (bytes : List ℕ) → IsBody 34 bytes None → IsFront Unclosed (34 ∷ bytes)
name_open bytes (t, e) = (
  λ k used rest f h.
      only_name ⊥ used k (spells_class k (34 ∷ bytes) used rest f h.spells) h.spells (λ u j a o.
      not_open 34 bytes t u rest e (f ∙ ap (λ (l : List ℕ). l ++ rest) o) (subst (λ i. MayEnd i rest) j h.ends)),
  inl (t, ap (λ l. 34 ∷ l) e),
)

-- a text is empty where it is written with no byte
doubled_some : (q : ℕ) (u : List ℕ) → length (doubled q u) ≤ 0 → u ≡ []
doubled_some q [] h = refl
doubled_some q (c ∷ u) h = by (c == q) h where
  by : (t : Bool) → length (cond t (q ∷ q ∷ doubled q u) (c ∷ doubled q u)) ≤ 0 → c ∷ u ≡ []
  by true h = absurd (omega arith)
  by false h = absurd (omega arith)

closed_open : (q : ℕ) (bytes more : List ℕ) → bytes ≡ q ∷ more → starts_with q more ≡ false → (t : List ℕ) → q ∷ bytes ≡ q ∷ doubled q t → ⊥
closed_open q bytes more e s t h =
    let g : doubled q t ≡ q ∷ more = cc in
    never_closes q t [] more g s

name_closed : (bytes more : List ℕ) → bytes ≡ 34 ∷ more → starts_with 34 more ≡ false → IsUnclosed (34 ∷ bytes) → ⊥
name_closed bytes more e s (inl (t, h)) = closed_open 34 bytes more e s t h
name_closed bytes more e s (inr (t, h)) = let c : Some Double ≡ Some Single = ap front_class h in cc

pub name_empty : (bytes : List ℕ) (n : ℕ) → IsBody 34 bytes (Some ([], n)) → IsFront Nothing (34 ∷ bytes)
name_empty bytes n (more, e, s, l) = (
  λ k used rest f h.
      only_name ⊥ used k (spells_class k (34 ∷ bytes) used rest f h.spells) h.spells (λ u j a o.
      a (doubled_some 34 u (shorter 34 bytes [] more u rest e s (f ∙ ap (λ (l : List ℕ). l ++ rest) o)))),
  name_closed bytes more e s,
)
