-- Where a text may be cut: in front of a byte of ASCII, behind one, and behind white space and comments.
use Rattle.std.proofs.Common.{◌≡◌, ◌≢◌, ℕ, ◌+◌, ◌<◌, true, List, [], ◌∷◌, ◌++◌, length, refl, sym, ap, ◌∙◌, subst, arith, inl, inr, ◌⊎◌, append_assoc, append-nil}
use Rattle.std.specs.Prelude.{◌||◌, ◌==◌, get_or, codes}
use Rattle.std.specs.List.{flat_map}
use Rattle.std.specs.Str.{IsUtf8, IsCharBoundary}
use Rattle.std.proofs.lemmas.Str.{IsCharBoundary-before_ascii, IsCharBoundary-after_ascii}
use Rattle.std.proofs.lemmas.List.{length-append}
use Rattle.std.proofs.lemmas.Bool.{eqb-true, or_cases}
use Rattle.std.proofs.Math.Seq.{get_or-append_seam}
use Rattle.pg_lex.specs.Bytes.{is_white, starts_with}
use Rattle.pg_lex.specs.Tokens.{Blank, White, Comment, bytes_of, AreBlank, EndsLine, Gap}

-- a text whose first bytes are those is cut behind them
abbrev pub CutsAt : List ℕ → List ℕ → Type 0
CutsAt bytes front = IsCharBoundary bytes (length front)

pub cut_before : (bytes front : List ℕ) (b : ℕ) (back : List ℕ) → bytes ≡ front ++ b ∷ back → b < 128 → CutsAt bytes front
cut_before bytes front b back e w =
    let n : length front < length bytes = omega (arith, ap length e, length-append front (b ∷ back)) in
    let g : get_or bytes (length front) 0 ≡ b = ap (λ (l : List ℕ). get_or l (length front) 0) e ∙ get_or-append_seam front b back 0 in
    IsCharBoundary-before_ascii bytes (length front) n (omega arith)

pub cut_after : (bytes front : List ℕ) (b : ℕ) (back : List ℕ) → IsUtf8 bytes → bytes ≡ front ++ b ∷ back → b < 128 → CutsAt bytes (front ++ b ∷ [])
cut_after bytes front b back u e w =
    let n : length front < length bytes = omega (arith, ap length e, length-append front (b ∷ back)) in
    let g : get_or bytes (length front) 0 ≡ b = ap (λ (l : List ℕ). get_or l (length front) 0) e ∙ get_or-append_seam front b back 0 in
    let m : length (front ++ b ∷ []) ≡ length front + 1 = length-append front (b ∷ []) in
    subst (IsCharBoundary bytes) (sym m) (IsCharBoundary-after_ascii bytes (length front) u n (omega arith))

pub white_ascii : (b : ℕ) → is_white b ≡ true → b < 128
white_ascii b h = by (or_cases ((b == 32) || (b == 9) || (b == 10)) (b == 13) h) where
  by : (((b == 32) || (b == 9) || (b == 10)) ≡ true) ⊎ ((b == 13) ≡ true) → b < 128
  by (inr e) = omega (arith, eqb-true b 13 e)
  by (inl g) = elim (or_cases ((b == 32) || (b == 9)) (b == 10) g) [
    | inr e ↦ omega (arith, eqb-true b 10 e)
    | inl f ↦ elim (or_cases (b == 32) (b == 9) f) [
      | inl e ↦ omega (arith, eqb-true b 32 e)
      | inr e ↦ omega (arith, eqb-true b 9 e)
    ]
  ]

-- the bytes behind the first, where that is this one
pub begins_with : (b : ℕ) (bytes : List ℕ) → starts_with b bytes ≡ true → (more : List ℕ) × (bytes ≡ b ∷ more)
begins_with b [] h = absurd cc
begins_with b (c ∷ cs) h = (cs, ap (λ x. x ∷ cs) (eqb-true c b h))

-- a line's end in front of some bytes of a text
line_cut : (bytes front text tail : List ℕ) → bytes ≡ front ++ (text ++ tail) → text ≢ [] → EndsLine text → CutsAt bytes front
line_cut bytes front text tail e some (inl h) = absurd (some h)
line_cut bytes front text tail e some (inr h) =
    let m = begins_with 10 text h in
    cut_before bytes front 10 (m.0 ++ tail) (e ∙ ap (λ (l : List ℕ). front ++ (l ++ tail)) m.1) (omega arith)

pub some_before : (xs ys : List ℕ) → xs ≢ [] → xs ++ ys ≢ []
some_before [] ys h e = h refl
some_before (x ∷ xs) ys h e = cc

some_behind : (xs ys : List ℕ) → ys ≢ [] → xs ++ ys ≢ []
some_behind [] ys h e = h e
some_behind (x ∷ xs) ys h e = cc

-- behind blanks
pub blanks_cut : (bytes front : List ℕ) (blanks : List Blank) (rest tail : List ℕ) → IsUtf8 bytes → bytes ≡ front ++ (flat_map bytes_of blanks ++ (rest ++ tail)) → AreBlank blanks rest → rest ≢ []
    → CutsAt bytes front → CutsAt bytes (front ++ flat_map bytes_of blanks)
blanks_cut bytes front [] rest tail u e a some c = subst (CutsAt bytes) (sym (append-nil front)) c
blanks_cut bytes front (White b ∷ bs) rest tail u e a some c =
    let more = flat_map bytes_of bs in
    let s : bytes ≡ (front ++ b ∷ []) ++ (more ++ (rest ++ tail)) = e ∙ sym (append_assoc front (b ∷ []) (more ++ (rest ++ tail))) in
    let k = cut_after bytes front b (more ++ (rest ++ tail)) u e (white_ascii b a.0) in
    subst (CutsAt bytes) (append_assoc front (b ∷ []) more) (blanks_cut bytes (front ++ b ∷ []) bs rest tail u s a.1 some k)
blanks_cut bytes front (Comment line ∷ bs) rest tail u e a some c =
    let more = flat_map bytes_of bs in
    let own = codes "--" ++ line in
    let s : bytes ≡ (front ++ own) ++ (more ++ (rest ++ tail)) =
    e ∙ ap (λ (l : List ℕ). front ++ l) (append_assoc own more (rest ++ tail)) ∙ sym (append_assoc front own (more ++ (rest ++ tail))) in
    let t : bytes ≡ (front ++ own) ++ ((more ++ rest) ++ tail) = s ∙ ap (λ (l : List ℕ). (front ++ own) ++ l) (sym (append_assoc more rest tail)) in
    let k = line_cut bytes (front ++ own) (more ++ rest) tail t (some_behind more rest some) a.0.1 in
    subst (CutsAt bytes) (append_assoc front own more) (blanks_cut bytes (front ++ own) bs rest tail u s a.1 some k)

-- behind white space and comments
pub gap_cut : (bytes front gap rest tail : List ℕ) → IsUtf8 bytes → bytes ≡ front ++ (gap ++ (rest ++ tail)) → Gap gap rest → rest ≢ [] → CutsAt bytes front → CutsAt bytes (front ++ gap)
gap_cut bytes front gap rest tail u e g some c =
    subst (λ (l : List ℕ). CutsAt bytes (front ++ l)) (sym g.bytes)
    (blanks_cut bytes front g.blanks rest tail u (e ∙ ap (λ (l : List ℕ). front ++ (l ++ (rest ++ tail))) g.bytes) g.each some c)
