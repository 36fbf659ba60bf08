-- Texts that get longer, and how they are cut back.
use Rattle.std.proofs.Common.{◌≡◌, ℕ, ◌+◌, ◌<◌, slice_set, subst, arith, zero, suc, List, [], ◌∷◌, ◌++◌, length, take, Bool, true, false, refl, ap, sym, ◌∙◌, append_assoc, if◌then◌else◌}
use Rattle.std.specs.Char.{encode_utf8, IsScalar}
use Rattle.std.specs.Str.{IsUtf8, IsAscii}
use Rattle.std.specs.String.Boundary.{IsSplitPoint}
use Rattle.std.proofs.lemmas.Str.{IsUtf8-nil, IsUtf8-from_ascii, IsUtf8-append, IsUtf8-encode, IsCharBoundary-at_seam}
use Rattle.std.proofs.lemmas.Grind.{flat_map-append, take-set_at}
use Rattle.pg_value.specs.Print.{GoesOn, doubled, doubled_char}

append_nothing : (xs : List ℕ) → xs ≡ xs ++ []
append_nothing [] = refl
append_nothing (x ∷ xs) = ap (λ ys. x ∷ ys) (append_nothing xs)

pub unchanged : (a b : List ℕ) → b ≡ a → GoesOn a b
unchanged a b e = record { more = []; utf8 = IsUtf8-nil; is = e ∙ append_nothing a }

pub then_goes_on : (a b c : List ℕ) → GoesOn a b → GoesOn b c → GoesOn a c
then_goes_on a b c g h = record { more = g.more ++ h.more; utf8 = IsUtf8-append g.more h.more g.utf8 h.utf8; is = h.is ∙ ap (λ xs. xs ++ h.more) g.is ∙ append_assoc a g.more h.more }

-- after a character is pushed, or was not
pub pushed : (a b : List ℕ) (ok : Bool) (c : ℕ) → IsScalar c → b ≡ (if ok then a ++ encode_utf8 c else a) → GoesOn a b
pushed a b true c s e = record { more = encode_utf8 c; utf8 = IsUtf8-encode c s; is = e }
pushed a b false c s e = unchanged a b e

pub may_cut : (a b : List ℕ) → GoesOn a b → IsSplitPoint b (length a)
may_cut a b g = let h = IsCharBoundary-at_seam b a g.more g.is g.utf8 in (h.0, λ z. h.1)

take_all : (a more : List ℕ) → take (length a) (a ++ more) ≡ a
take_all [] more = refl
take_all (x ∷ xs) more = ap (λ ys. x ∷ ys) (take_all xs more)

pub cut_back : (a b : List ℕ) → GoesOn a b → take (length a) b ≡ a
cut_back a b g = ap (take (length a)) g.is ∙ take_all a g.more

-- one character more of a text with each quote twice
pub longer : (a b d : List ℕ) (q : ℕ) (cs : List ℕ) (c : ℕ) → b ≡ a ++ doubled q cs → d ≡ b ++ doubled_char q c → d ≡ a ++ doubled q (cs ++ c ∷ [])
longer a b d q cs c e f =
    f ∙ ap (λ xs. xs ++ doubled_char q c) e ∙ append_assoc a (doubled q cs) (doubled_char q c)
    ∙ ap (λ xs. a ++ xs) (sym (flat_map-append (doubled_char q) cs (c ∷ []) ∙ ap (λ xs. doubled q cs ++ xs) (sym (append_nothing (doubled_char q c)))))

one_ascii : (b : ℕ) → b < 128 → IsAscii (b ∷ [])
one_ascii b a zero = a
one_ascii b a (suc i) = omega arith

-- a text with one ASCII character more
pub longer_by_one : (bs : List ℕ) (n i b : ℕ) → b < 128 → i ≡ n → n < length bs → IsUtf8 (take n bs) → IsUtf8 (take (n + 1) (slice_set bs i b))
longer_by_one bs n i b a e l u =
    subst (λ k. IsUtf8 (take (n + 1) (slice_set bs k b))) (sym e)
    (subst IsUtf8 (sym (take-set_at bs n (n + 1) b refl l)) (IsUtf8-append (take n bs) (b ∷ []) u (IsUtf8-from_ascii (b ∷ []) (one_ascii b a))))
