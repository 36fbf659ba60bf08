-- Two cuts of one list: one front goes on where the other ends, or they are the same; and lines.
use Rattle.std.proofs.Common.{◌≡◌, ℕ, Bool, true, false, List, [], ◌∷◌, ◌++◌, refl, sym, ap, inl, inr, ◌⊎◌}
use Rattle.std.specs.Prelude.{not, ◌==◌}
use Rattle.std.specs.List.{list_all, AllZip}
use Rattle.std.proofs.lemmas.Bool.{and_parts}
use Rattle.pg_lex.specs.Bytes.{starts}
use Rattle.pg_lex.specs.Tokens.{is_line, EndsLine}
use Rattle.pg_script.proofs.Texts.Front.{front_once}

-- the second front goes on where the first one ends
abbrev pub Longer : {X : Type 0} → List X → List X → List X → List X → Type 0
Longer {X} a b x y = (c : X) × (more : List X) × (b ≡ a ++ c ∷ more) × (x ≡ c ∷ (more ++ y))

abbrev pub Compared : {X : Type 0} → List X → List X → List X → List X → Type 0
Compared a b x y = ((a ≡ b) × (x ≡ y)) ⊎ (Longer a b x y ⊎ Longer b a y x)

one_more : {X : Type 0} (c d : X) (a b x y : List X) → c ≡ d → Compared a b x y → Compared (c ∷ a) (d ∷ b) x y
one_more c d a b x y h (inl k) = inl (let p = k.0 in let e : c ∷ a ≡ d ∷ b = cc in e, k.1)
one_more c d a b x y h (inr (inl (f, more, p, q))) = inr (inl (f, more, let e : d ∷ b ≡ c ∷ (a ++ f ∷ more) = cc in e, q))
one_more c d a b x y h (inr (inr (f, more, p, q))) = inr (inr (f, more, let e : c ∷ a ≡ d ∷ (b ++ f ∷ more) = cc in e, q))

pub compare : {X : Type 0} (a b x y : List X) → a ++ x ≡ b ++ y → Compared a b x y
compare [] [] x y e = inl (refl, e)
compare [] (d ∷ b) x y e = inr (inl (d, b, refl, e))
compare (c ∷ a) [] x y e = inr (inr (c, a, refl, sym e))
compare (c ∷ a) (d ∷ b) x y e =
    let h : c ≡ d = cc in
    let t : a ++ x ≡ b ++ y = cc in
    one_more c d a b x y h (compare a b x y t)

-- AN ELEMENT AND A LINE

-- an element between passes as all do
pub all_at : (p : ℕ → Bool) (front back : List ℕ) (c : ℕ) → list_all p (front ++ c ∷ back) ≡ true → p c ≡ true
all_at p [] back c h = (and_parts (p c) (list_all p back) h).0
all_at p (b ∷ front) back c h = all_at p front back c (and_parts (p b) (list_all p (front ++ c ∷ back)) h).1

line_stops : (rest : List ℕ) → EndsLine rest → starts (λ b. not (b == 10)) rest ≡ false
line_stops rest (inl e) = ap (starts (λ b. not (b == 10))) e
line_stops [] (inr s) = refl
line_stops (c ∷ rest) (inr s) = ap not s

pub lines_once : (l m x y : List ℕ) → l ++ x ≡ m ++ y → is_line l ≡ true → EndsLine x → is_line m ≡ true → EndsLine y → (l ≡ m) × (x ≡ y)
lines_once l m x y e a s b t = front_once (λ b. not (b == 10)) l m x y e a (line_stops x s) b (line_stops y t)

-- LISTS THAT GO WITH ONE LIST, ELEMENT BY ELEMENT

pub zips_once : {X Y : Type 0} (R : X → Y → Type 0) → ((x : X) (y z : Y) → R x y → R x z → y ≡ z) → (xs : List X) (ys zs : List Y) → AllZip R xs ys → AllZip R xs zs → ys ≡ zs
zips_once R once [] [] [] g h = refl
zips_once R once [] [] (z ∷ zs) g h = absurd h
zips_once R once [] (y ∷ ys) zs g h = absurd g
zips_once R once (x ∷ xs) [] zs g h = absurd g
zips_once R once (x ∷ xs) (y ∷ ys) [] g h = absurd h
zips_once R once (x ∷ xs) (y ∷ ys) (z ∷ zs) g h = let e = once x y z g.0 h.0 in rw (e, zips_once R once xs ys zs g.1 h.1) refl
