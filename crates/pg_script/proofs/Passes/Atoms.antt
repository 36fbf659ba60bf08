-- Which atom stands in front, and that a front of atoms grows by one.
use Rattle.std.proofs.Common.{◌≡◌, ◌≢◌, ℕ, suc, ◌+◌, ◌-◌, ◌<◌, ◌≤◌, true, false, List, [], ◌∷◌, ◌++◌, length, take, drop, get_or, refl, sym, ap, ◌∙◌, subst, arith, inl, inr, ◌⊎◌, append_assoc}
use Rattle.std.specs.Prelude.{not, ◌==◌}
use Rattle.std.specs.List.{flat_map, prefix_len}
use Rattle.std.proofs.lemmas.List.{take-append-drop, drop-drop, append-nil, take_all, drop_all, length-drop}
use Rattle.std.proofs.lemmas.List.Concat.{flat_map-append}
use Rattle.std.proofs.Math.Seq.{take-add}
use Rattle.std.proofs.lemmas.Bool.{both_ways, eqb-true, ne_eqb}
use Rattle.pg_lex.specs.Bytes.{is_white, starts, starts_with}
use Rattle.pg_lex.specs.Tokens.{Blank, White, AreBlank, IsBlank, Gap, EndsLine}
use Rattle.pg_lex.specs.Tokens as lex
use Rattle.pg_script.specs.Statements.{is_quote, is_without, Atom, Byte, Comment, InQuotes, Unclosed, bytes_of, IsAtom, AreAtoms, IsUncut}
use Rattle.pg_script.specs.Passes.Spans.{BeginsAtom}
use Rattle.pg_script.proofs.Texts.Front.{front_passes, front_stops, stop_is}

-- BYTES AND COMMENTS

pub byte_begins : (b : ℕ) (rest : List ℕ) → b ≢ 59 → b ≢ 34 → b ≢ 39 → ((b ≡ 45) → starts_with 45 rest ≡ false) → BeginsAtom 1 (b ∷ rest)
byte_begins b rest n d s h = record { atom = Byte b; spells = refl; is = (n, rw (ne_eqb b 34 d, ne_eqb b 39 s) refl, h) }

pub comment_begins : (line : List ℕ) → BeginsAtom (2 + prefix_len (λ b. not (b == 10)) line) (45 ∷ 45 ∷ line)
comment_begins line =
    let n = prefix_len (λ b. not (b == 10)) line in
    let two : 2 + prefix_len (λ b. not (b == 10)) line ≡ suc (suc (prefix_len (λ b. not (b == 10)) line)) = omega arith in
    let ends : EndsLine (drop (prefix_len (λ b. not (b == 10)) line) line) = stop_is 10 (drop n line) (front_stops (λ b. not (b == 10)) line) in
    record { atom = Comment (take n line); spells = rw two refl; is = rw two (front_passes (λ b. not (b == 10)) line, ends) }

pub comment_at : (rest : List ℕ) (n : ℕ) → n ≡ prefix_len (λ b. not (b == 10)) (take (length rest - 1) (drop 1 rest)) → 1 ≤ length rest → get_or rest 0 0 ≡ 45 → BeginsAtom (2 + n) (45 ∷ rest)
comment_at [] n e w f = absurd (omega arith)
comment_at (b ∷ line) n e w f =
    let t : take (length (b ∷ line) - 1) line ≡ line = take_all (length (b ∷ line) - 1) line (omega arith) in
    let p : prefix_len (λ b. not (b == 10)) line ≡ n = ap (prefix_len (λ b. not (b == 10))) (sym t) ∙ sym e in
    subst (λ m. BeginsAtom (2 + m) (45 ∷ b ∷ line)) p (rw f (comment_begins line))

no_cut : (b : ℕ) → b ≡ 45 → b ≢ 59
no_cut b d e = cc

pub dash_begins : (rest : List ℕ) → starts_with 45 rest ≡ false → BeginsAtom 1 (45 ∷ rest)
dash_begins rest h = record { atom = Byte 45; spells = refl; is = (no_cut 45 refl, refl, λ e. h) }

pub no_dash : (rest : List ℕ) → get_or rest 0 0 ≢ 45 → starts_with 45 rest ≡ false
no_dash [] n = refl
no_dash (b ∷ rest) n = ne_eqb b 45 n

pub none_dash : (rest : List ℕ) → length rest < 1 → starts_with 45 rest ≡ false
none_dash [] n = refl
none_dash (b ∷ rest) n = absurd (omega arith)

-- QUOTES

pub unclosed_begins : (q n : ℕ) (rest : List ℕ) → is_quote q ≡ true → n ≡ prefix_len (λ b. not (b == q)) rest → n ≡ length rest → BeginsAtom (1 + n) (q ∷ rest)
unclosed_begins q n rest h e l =
    let one : 1 + n ≡ suc n = omega arith in
    let all : take n rest ≡ rest = take_all n rest (omega arith) in
    let none : drop n rest ≡ [] = drop_all n rest (omega arith) in
    let same : take (prefix_len (λ b. not (b == q)) rest) rest ≡ rest = ap (λ m. take m rest) (sym e) ∙ all in
    let pass : is_without q rest ≡ true = subst (λ (l : List ℕ). is_without q l ≡ true) same (front_passes (λ b. not (b == q)) rest) in
    record { atom = Unclosed q rest; spells = rw one (ap (λ (l : List ℕ). q ∷ l) all); is = rw one (h, pass, none) }

first_is : (q : ℕ) (bytes : List ℕ) → starts_with q bytes ≡ true → take 1 bytes ≡ q ∷ []
first_is q [] h = absurd cc
first_is q (b ∷ bs) h = let e : b ≡ q = eqb-true b q h in rw e refl

closes : (q : ℕ) (rest : List ℕ) → rest ≢ [] → (rest ≡ []) ⊎ (starts_with q rest ≡ true) → take 1 rest ≡ q ∷ []
closes q rest n (inl e) = absurd (n e)
closes q rest n (inr h) = first_is q rest h

pub quoted_begins : (q n : ℕ) (rest : List ℕ) → is_quote q ≡ true → n ≡ prefix_len (λ b. not (b == q)) rest → n ≤ length rest → (n ≡ length rest → ⊥) → BeginsAtom (2 + n) (q ∷ rest)
quoted_begins q n rest h e w l =
    let two : 2 + n ≡ suc (n + 1) = omega arith in
    let pass : is_without q (take n rest) ≡ true = subst (λ m. is_without q (take m rest) ≡ true) (sym e) (front_passes (λ b. not (b == q)) rest) in
    let stop : starts (λ b. not (b == q)) (drop n rest) ≡ false = subst (λ m. starts (λ b. not (b == q)) (drop m rest) ≡ false) (sym e) (front_stops (λ b. not (b == q)) rest) in
    let some : drop n rest ≢ [] = λ z. l (omega (arith, w, ap length z, length-drop n rest)) in
    let one : take 1 (drop n rest) ≡ q ∷ [] = closes q (drop n rest) some (stop_is q (drop n rest) stop) in
    let cut : take (n + 1) rest ≡ take n rest ++ q ∷ [] = take-add n 1 rest ∙ ap (λ (l : List ℕ). take n rest ++ l) one in
    record { atom = InQuotes q (take n rest); spells = rw two (ap (λ (l : List ℕ). q ∷ l) cut); is = (h, pass) }

-- ONE ATOM MORE

flat_more : (bs : List Atom) (b : Atom) (rest : List ℕ) → flat_map bytes_of (bs ++ b ∷ []) ++ rest ≡ flat_map bytes_of bs ++ (bytes_of b ++ rest)
flat_more bs b rest = simp (flat_map-append, append_assoc, append-nil)

are_more : (bs : List Atom) (b : Atom) (rest : List ℕ) → AreAtoms bs (bytes_of b ++ rest) → IsAtom b rest → AreAtoms (bs ++ b ∷ []) rest
are_more [] b rest h i = (i, tt)
are_more (c ∷ bs) b rest h i = (subst (IsAtom c) (sym (flat_more bs b rest)) h.0, are_more bs b rest h.1 i)

-- the bytes before a place are atoms
abbrev pub SoFar : List ℕ → ℕ → Type 0
SoFar bytes at = (bs : List Atom) × (take at bytes ≡ flat_map bytes_of bs) × AreAtoms bs (drop at bytes)

pub so_far_none : (bytes : List ℕ) → SoFar bytes 0
so_far_none bytes = ([], refl, tt)

pub so_far_more : (bytes left : List ℕ) (at n : ℕ) → SoFar bytes at → left ≡ drop at bytes → BeginsAtom n left → SoFar bytes (at + n)
so_far_more bytes left at n (bs, e, h) p begins =
    let b = begins.atom in
    let f = begins.spells in
    let d : drop n left ≡ drop (at + n) bytes = ap (drop n) p ∙ drop-drop n at bytes in
    let cut : drop at bytes ≡ bytes_of b ++ drop (at + n) bytes = sym p ∙ sym (take-append-drop n left) ∙ ap (λ (l : List ℕ). l ++ drop n left) f ∙ ap (λ (l : List ℕ). bytes_of b ++ l) d in (
      bs ++ b ∷ [],
      take-add at n bytes ∙ ap (λ (l : List ℕ). take at bytes ++ take n l) (sym p) ∙ ap (λ (l : List ℕ). take at bytes ++ l) f ∙ ap (λ (l : List ℕ). l ++ bytes_of b) e
          ∙ simp (flat_map-append, append-nil),
      are_more bs b (drop (at + n) bytes) (subst (AreAtoms bs) cut h) (subst (IsAtom b) d begins.is),
    )

pub so_far_all : (bytes : List ℕ) (at : ℕ) → SoFar bytes at → IsUncut (take at bytes) (drop at bytes)
so_far_all bytes at (bs, e, h) = record { atoms = bs; spelled = e; each = h }

-- WHITE SPACE AND COMMENTS

atom_of : Blank → Atom
atom_of (lex.White b) = Byte b
atom_of (lex.Comment line) = Comment line

atoms_of : List Blank → List Atom
atoms_of [] = []
atoms_of (b ∷ bs) = atom_of b ∷ atoms_of bs

white_is_none : (b c : ℕ) → is_white b ≡ true → is_white c ≡ false → b ≢ c
white_is_none b c h n e = both_ways (is_white c) n (ap is_white (sym e) ∙ h)

blank_bytes : (b : Blank) → lex.bytes_of b ≡ bytes_of (atom_of b)
unfolding atom_of
blank_bytes (lex.White b) = refl
blank_bytes (lex.Comment line) = refl

blanks_bytes : (bs : List Blank) → flat_map lex.bytes_of bs ≡ flat_map bytes_of (atoms_of bs)
unfolding atoms_of
blanks_bytes [] = refl
blanks_bytes (b ∷ bs) = rw (blank_bytes b, blanks_bytes bs) refl

blank_atom : (b : Blank) (rest : List ℕ) → IsBlank b rest → IsAtom (atom_of b) rest
unfolding atom_of
blank_atom (lex.White b) rest h = (
  white_is_none b 59 h refl,
  rw (ne_eqb b 34 (white_is_none b 34 h refl), ne_eqb b 39 (white_is_none b 39 h refl)) refl,
  λ e. absurd (white_is_none b 45 h refl e),
)
blank_atom (lex.Comment line) rest h = h

blanks_atoms : (bs : List Blank) (rest : List ℕ) → AreBlank bs rest → AreAtoms (atoms_of bs) rest
unfolding atoms_of
blanks_atoms [] rest h = tt
blanks_atoms (b ∷ bs) rest h = (blank_atom b _ (subst (λ (l : List ℕ). IsBlank b (l ++ rest)) (blanks_bytes bs) h.0), blanks_atoms bs rest h.1)

pub gap_uncut : (gap rest : List ℕ) → Gap gap rest → IsUncut gap rest
gap_uncut gap rest g = record { atoms = atoms_of g.blanks; spelled = g.bytes ∙ blanks_bytes g.blanks; each = blanks_atoms g.blanks rest g.each }

-- ONE FRONT BEHIND ANOTHER

flat_both : (cs bs : List Atom) (rest : List ℕ) → flat_map bytes_of (cs ++ bs) ++ rest ≡ flat_map bytes_of cs ++ (flat_map bytes_of bs ++ rest)
flat_both cs bs rest = simp (flat_map-append, append_assoc)

are_both : (cs bs : List Atom) (rest : List ℕ) → AreAtoms cs (flat_map bytes_of bs ++ rest) → AreAtoms bs rest → AreAtoms (cs ++ bs) rest
are_both [] bs rest g h = h
are_both (a ∷ cs) bs rest g h = (subst (IsAtom a) (sym (flat_both cs bs rest)) g.0, are_both cs bs rest g.1 h)

pub uncut_both : (a b rest : List ℕ) → IsUncut a (b ++ rest) → IsUncut b rest → IsUncut (a ++ b) rest
uncut_both a b rest g h = record {
  atoms = g.atoms ++ h.atoms;
  spelled = rw (g.spelled, h.spelled) (sym (flat_map-append bytes_of g.atoms h.atoms));
  each = are_both g.atoms h.atoms rest (subst (λ (l : List ℕ). AreAtoms g.atoms (l ++ rest)) h.spelled g.each) h.each;
}
