-- A text is cut into statements in one way.
use Rattle.std.proofs.Common.{◌≡◌, ◌≢◌, ℕ, ◌+◌, true, false, List, [], ◌∷◌, ◌++◌, length, take, refl, sym, ap, ◌∙◌, subst, inl, inr, ◌⊎◌, append_assoc, append-nil}
use Rattle.std.specs.Prelude.{not, ◌==◌}
use Rattle.std.specs.List.{flat_map}
use Rattle.std.proofs.lemmas.List.{append_cancel_right}
use Rattle.std.proofs.lemmas.Bool.{both_ways, eq-eqb}
use Rattle.pg_lex.specs.Bytes.{starts, starts_with}
use Rattle.pg_lex.specs.Once.{gap_once}
use Rattle.pg_script.specs.Statements.{is_quote, is_without, Atom, Byte, Comment, InQuotes, Unclosed, bytes_of, IsAtom, AreAtoms, IsUncut, Statement, statement_of, IsPiece, AreStatements, HasStatements}
use Rattle.pg_script.proofs.Texts.Front.{front_once}
use Rattle.pg_script.proofs.Texts.Cuts.{lines_once}

-- ATOMS

byte_comment : (b : ℕ) (x m y : List ℕ) → b ∷ x ≡ 45 ∷ 45 ∷ (m ++ y) → IsAtom (Byte b) x → ⊥
byte_comment b x m y e g =
    let p : b ≡ 45 = cc in
    let q : x ≡ 45 ∷ (m ++ y) = cc in
    both_ways (starts_with 45 x) (g.2 p) (ap (starts_with 45) q)

byte_quote : (b q : ℕ) (x y : List ℕ) → b ∷ x ≡ q ∷ y → is_quote b ≡ false → is_quote q ≡ true → ⊥
byte_quote b q x y e g h = let p : b ≡ q = cc in both_ways (is_quote b) g (ap is_quote p ∙ h)

-- the quote itself ends what is without it
quote_stops : (q : ℕ) (x : List ℕ) → starts (λ b. not (b == q)) (q ∷ x) ≡ false
quote_stops q x = ap not (eq-eqb q q refl)

quotes_once : (q : ℕ) (t u x y : List ℕ) → t ++ q ∷ x ≡ u ++ q ∷ y → is_without q t ≡ true → is_without q u ≡ true → (t ≡ u) × (x ≡ y)
quotes_once q t u x y e g h =
    let k = front_once (λ b. not (b == q)) t u (q ∷ x) (q ∷ y) e g (quote_stops q x) h (quote_stops q y) in
    let m = k.1 in
    let n : x ≡ y = cc in
    (k.0, n)

no_open : (q : ℕ) (t u x y : List ℕ) → t ++ q ∷ x ≡ u ++ y → is_without q t ≡ true → is_without q u ≡ true → y ≡ [] → ⊥
no_open q t u x y e g h n =
    let k = (front_once (λ b. not (b == q)) t u (q ∷ x) y e g (quote_stops q x) h (ap (starts (λ b. not (b == q))) n)).1 in
    let m : q ∷ x ≡ [] = k ∙ n in
    cc

-- a text in quotes with what stands behind it
behind_quote : (t : List ℕ) (q : ℕ) (x : List ℕ) → (t ++ q ∷ []) ++ x ≡ t ++ q ∷ x
behind_quote t q x = append_assoc t (q ∷ []) x

quoted_open : (q r : ℕ) (t u x y : List ℕ) → q ∷ ((t ++ q ∷ []) ++ x) ≡ r ∷ (u ++ y) → is_without q t ≡ true → is_without r u ≡ true → y ≡ [] → ⊥
quoted_open q r t u x y e g h n =
    let p : q ≡ r = cc in
    let k : (t ++ q ∷ []) ++ x ≡ u ++ y = cc in
    no_open q t u x y (sym (behind_quote t q x) ∙ k) g (subst (λ c. is_without c u ≡ true) (sym p) h) n

record SameQuotes (q r : ℕ) (t u x y : List ℕ) : Type 0 where
  quote : q ≡ r
  text : t ≡ u
  rest : x ≡ y

quoted_once : (q r : ℕ) (t u x y : List ℕ) → q ∷ ((t ++ q ∷ []) ++ x) ≡ r ∷ ((u ++ r ∷ []) ++ y) → is_without q t ≡ true → is_without r u ≡ true → SameQuotes q r t u x y
quoted_once q r t u x y e g h =
    let p : q ≡ r = cc in
    let k : (t ++ q ∷ []) ++ x ≡ (u ++ r ∷ []) ++ y = cc in
    let m = quotes_once q t u x y (sym (behind_quote t q x) ∙ k ∙ behind_quote u r y ∙ ap (λ c. u ++ c ∷ y) (sym p)) g (subst (λ c. is_without c u ≡ true) (sym p) h) in
    record { quote = p; text = m.0; rest = m.1 }

open_once : (q r : ℕ) (t u x y : List ℕ) → q ∷ (t ++ x) ≡ r ∷ (u ++ y) → is_without q t ≡ true → x ≡ [] → is_without r u ≡ true → y ≡ [] → SameQuotes q r t u x y
open_once q r t u x y e g a h b =
    let p : q ≡ r = cc in
    let k : t ++ x ≡ u ++ y = cc in
    let stops = λ (l : List ℕ) (n : l ≡ []). ap (starts (λ b. not (b == q))) n in
    let m = front_once (λ b. not (b == q)) t u x y k g (stops x a) (subst (λ c. is_without c u ≡ true) (sym p) h) (stops y b) in
    record { quote = p; text = m.0; rest = m.1 }

atom_once : (a b : Atom) (x y : List ℕ) → bytes_of a ++ x ≡ bytes_of b ++ y → IsAtom a x → IsAtom b y → (a ≡ b) × (x ≡ y)
atom_once (Byte b) (Byte c) x y e g h = let p : b ≡ c = cc in let q : x ≡ y = cc in (ap Byte p, q)
atom_once (Byte b) (Comment m) x y e g h = absurd (byte_comment b x m y e g)
atom_once (Byte b) (InQuotes q u) x y e g h = absurd (byte_quote b q x ((u ++ q ∷ []) ++ y) e g.1 h.0)
atom_once (Byte b) (Unclosed q u) x y e g h = absurd (byte_quote b q x (u ++ y) e g.1 h.0)
atom_once (Comment l) (Byte c) x y e g h = absurd (byte_comment c y l x (sym e) h)
atom_once (Comment l) (Comment m) x y e g h =
    let p : l ++ x ≡ m ++ y = cc in
    let k = lines_once l m x y p g.0 g.1 h.0 h.1 in
    (ap Comment k.0, k.1)
atom_once (Comment l) (InQuotes q u) x y e g h = absurd (byte_quote 45 q (45 ∷ (l ++ x)) ((u ++ q ∷ []) ++ y) e refl h.0)
atom_once (Comment l) (Unclosed q u) x y e g h = absurd (byte_quote 45 q (45 ∷ (l ++ x)) (u ++ y) e refl h.0)
atom_once (InQuotes q t) (Byte c) x y e g h = absurd (byte_quote c q y ((t ++ q ∷ []) ++ x) (sym e) h.1 g.0)
atom_once (InQuotes q t) (Comment m) x y e g h = absurd (byte_quote 45 q (45 ∷ (m ++ y)) ((t ++ q ∷ []) ++ x) (sym e) refl g.0)
atom_once (InQuotes q t) (InQuotes r u) x y e g h = let k = quoted_once q r t u x y e g.1 h.1 in (rw (k.quote, k.text) refl, k.rest)
atom_once (InQuotes q t) (Unclosed r u) x y e g h = absurd (quoted_open q r t u x y e g.1 h.1 h.2)
atom_once (Unclosed q t) (Byte c) x y e g h = absurd (byte_quote c q y (t ++ x) (sym e) h.1 g.0)
atom_once (Unclosed q t) (Comment m) x y e g h = absurd (byte_quote 45 q (45 ∷ (m ++ y)) (t ++ x) (sym e) refl g.0)
atom_once (Unclosed q t) (InQuotes r u) x y e g h = absurd (quoted_open r q u t y x (sym e) h.1 g.1 g.2)
atom_once (Unclosed q t) (Unclosed r u) x y e g h = let k = open_once q r t u x y e g.1 g.2 h.1 h.2 in (rw (k.quote, k.text) refl, k.rest)

-- PIECES

-- the end or a cut follows
abbrev IsEnd : List ℕ → Type 0
IsEnd rest = (rest ≡ []) ⊎ ((more : List ℕ) × (rest ≡ 59 ∷ more))

atom_some : (a : Atom) (rest : List ℕ) → bytes_of a ++ rest ≡ [] → ⊥
atom_some (Byte b) rest e = cc
atom_some (Comment l) rest e = cc
atom_some (InQuotes q t) rest e = cc
atom_some (Unclosed q t) rest e = cc

no_semicolon : (q : ℕ) (x more : List ℕ) → q ∷ x ≡ 59 ∷ more → is_quote q ≡ true → ⊥
no_semicolon q x more e h = byte_quote 59 q more x (sym e) refl h

atom_uncut : (a : Atom) (rest more : List ℕ) → bytes_of a ++ rest ≡ 59 ∷ more → IsAtom a rest → ⊥
atom_uncut (Byte b) rest more e h = let p : b ≡ 59 = cc in h.0 p
atom_uncut (Comment l) rest more e h = let p : false ≡ true = ap (starts_with 59) e in cc
atom_uncut (InQuotes q t) rest more e h = no_semicolon q ((t ++ q ∷ []) ++ rest) more e h.0
atom_uncut (Unclosed q t) rest more e h = no_semicolon q (t ++ rest) more e h.0

-- no atom stands where a piece ends
no_atom : (x : List ℕ) (a : Atom) (rest : List ℕ) → x ≡ bytes_of a ++ rest → IsAtom a rest → IsEnd x → ⊥
no_atom x a rest e h (inl n) = atom_some a rest (sym e ∙ n)
no_atom x a rest e h (inr (more, n)) = atom_uncut a rest more (sym e ∙ n) h

atoms_once : (bs cs : List Atom) (x y : List ℕ) → flat_map bytes_of bs ++ x ≡ flat_map bytes_of cs ++ y → AreAtoms bs x → AreAtoms cs y → IsEnd x → IsEnd y → (bs ≡ cs) × (x ≡ y)
atoms_once [] [] x y e g h p q = (refl, e)
atoms_once [] (c ∷ cs) x y e g h p q = absurd (no_atom x c (flat_map bytes_of cs ++ y) (e ∙ append_assoc (bytes_of c) (flat_map bytes_of cs) y) h.0 p)
atoms_once (b ∷ bs) [] x y e g h p q = absurd (no_atom y b (flat_map bytes_of bs ++ x) (sym e ∙ append_assoc (bytes_of b) (flat_map bytes_of bs) x) g.0 q)
atoms_once (b ∷ bs) (c ∷ cs) x y e g h p q =
    let d = sym (append_assoc (bytes_of b) (flat_map bytes_of bs) x) ∙ e ∙ append_assoc (bytes_of c) (flat_map bytes_of cs) y in
    let f = atom_once b c (flat_map bytes_of bs ++ x) (flat_map bytes_of cs ++ y) d g.0 h.0 in
    let k = atoms_once bs cs x y f.1 g.1 h.1 p q in
    (rw (f.0, k.0) refl, k.1)

uncut_once : (a b x y : List ℕ) → a ++ x ≡ b ++ y → IsUncut a x → IsUncut b y → IsEnd x → IsEnd y → (a ≡ b) × (x ≡ y)
uncut_once a b x y e g h p q =
    let d = sym (ap (λ (l : List ℕ). l ++ x) g.spelled) ∙ e ∙ ap (λ (l : List ℕ). l ++ y) h.spelled in
    let k = atoms_once g.atoms h.atoms x y d g.each h.each p q in
    (g.spelled ∙ ap (flat_map bytes_of) k.0 ∙ sym h.spelled, k.1)

-- STATEMENTS

abbrev IsFound : ℕ → List ℕ → List ℕ → List ℕ → List Statement → Type 0
IsFound at gap body behind found = ((body ≡ []) × (found ≡ [])) ⊎ ((body ≢ []) × (found ≡ statement_of (at + length gap) body (take 1 behind) ∷ []))

found_once : (at : ℕ) (gap body behind : List ℕ) (f g : List Statement) → IsFound at gap body behind f → IsFound at gap body behind g → f ≡ g
found_once at gap body behind f g (inl a) (inl b) = a.1 ∙ sym b.1
found_once at gap body behind f g (inl a) (inr b) = absurd (b.0 a.0)
found_once at gap body behind f g (inr a) (inl b) = absurd (a.0 b.0)
found_once at gap body behind f g (inr a) (inr b) = a.1 ∙ sym b.1

piece_once : (at : ℕ) (piece behind : List ℕ) (f g : List Statement) → IsPiece at piece behind f → IsPiece at piece behind g → f ≡ g
piece_once at piece behind f g a b =
    let d = sym (append_assoc a.gap a.body behind) ∙ ap (λ (l : List ℕ). l ++ behind) (sym a.parts ∙ b.parts) ∙ append_assoc b.gap b.body behind in
    let k = gap_once a.gap b.gap (a.body ++ behind) (b.body ++ behind) d a.blank b.blank in
    let m : a.body ≡ b.body = append_cancel_right a.body b.body behind k.1 in
    let i : IsFound at a.gap a.body behind g = subst (λ (l : List ℕ). IsFound at l a.body behind g) (sym k.0) (subst (λ (l : List ℕ). IsFound at b.gap l behind g) (sym m) b.is) in
    found_once at a.gap a.body behind f g a.is i

-- the last piece of a text has no cut
last_uncut : (text p q rest : List ℕ) → text ≡ p → IsUncut p [] → text ≡ q ++ 59 ∷ rest → IsUncut q (59 ∷ rest) → ⊥
last_uncut text p q rest e g f h =
    let k = (uncut_once p q [] (59 ∷ rest) (append-nil p ∙ sym e ∙ f) g h (inl refl) (inr (rest, refl))).1 in
    cc

cuts_once : (text p q r s : List ℕ) → text ≡ p ++ 59 ∷ r → IsUncut p (59 ∷ r) → text ≡ q ++ 59 ∷ s → IsUncut q (59 ∷ s) → (p ≡ q) × (r ≡ s)
cuts_once text p q r s e g f h =
    let k = uncut_once p q (59 ∷ r) (59 ∷ s) (sym e ∙ f) g h (inr (r, refl)) (inr (s, refl)) in
    let m = k.1 in
    let n : r ≡ s = cc in
    (k.0, n)

pieces_once : (at : ℕ) (text : List ℕ) (ps qs : List (List ℕ)) (f g : List Statement) → AreStatements at text ps f → AreStatements at text qs g → f ≡ g
pieces_once at text [] qs f g a b = absurd a
pieces_once at text (p ∷ []) [] f g a b = absurd b
pieces_once at text (p ∷ p' ∷ ps) [] f g a b = absurd b
pieces_once at text (p ∷ []) (q ∷ []) f g a b = piece_once at p [] f g a.2 (subst (λ (l : List ℕ). IsPiece at l [] g) (sym b.0 ∙ a.0) b.2)
pieces_once at text (p ∷ []) (q ∷ q' ∷ qs) f g a (s, here, more, e, u, i, m, j) = absurd (last_uncut text p q s a.0 a.1 e u)
pieces_once at text (p ∷ p' ∷ ps) (q ∷ []) f g (r, here, more, e, u, i, m, j) b = absurd (last_uncut text q p r b.0 b.1 e u)
pieces_once at text (p ∷ p' ∷ ps) (q ∷ q' ∷ qs) f g (r, fs, fmore, e, u, i, m, j) (s, gs, gmore, d, v, k, n, o) =
    let c = cuts_once text p q r s e u d v in
    let k' : IsPiece at p (59 ∷ r) gs = subst (λ (l : List ℕ). IsPiece at p (59 ∷ l) gs) (sym c.1) (subst (λ (l : List ℕ). IsPiece at l (59 ∷ s) gs) (sym c.0) k) in
    let h : fs ≡ gs = piece_once at p (59 ∷ r) fs gs i k' in
    let n' : AreStatements (at + (length p + 1)) r (q' ∷ qs) gmore = subst (λ (l : List ℕ). AreStatements (at + (length p + 1)) l (q' ∷ qs) gmore) (sym c.1) (subst (λ (l : List ℕ). AreStatements (at + (length l + 1)) s (q' ∷ qs) gmore) (sym c.0) n) in
    let w : fmore ≡ gmore = pieces_once (at + (length p + 1)) r (p' ∷ ps) (q' ∷ qs) fmore gmore m n' in
    j ∙ ap (λ (l : List Statement). l ++ fmore) h ∙ ap (λ (l : List Statement). gs ++ l) w ∙ sym o

-- Two lists of the statements of a text are one.
pub statements_once : (at : ℕ) (text : List ℕ) (f g : List Statement) → HasStatements at text f → HasStatements at text g → f ≡ g
statements_once at text f g a b = pieces_once at text a.0 b.0 f g a.1 b.1
