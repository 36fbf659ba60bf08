-- What a loop appends, item by item, or some items that stand together at a time.
use Rattle.std.proofs.Common.{◌≡◌, ◌+◌, ◌<◌, ◌≤◌, ℕ, zero, suc, List, [], ◌∷◌, ◌++◌, length, get_or, take, refl, ap, sym, subst, ◌∙◌, add-one, arith, append_assoc, length-append}
use Rattle.std.proofs.Math.Seq.{take-suc}
use Rattle.std.proofs.lemmas.List.Elements.{filter_map-append}
use Rattle.std.specs.Prelude.{Option, Some, filter_map, slice_get}
use Rattle.std.specs.List.{cons_option, AllZip}
use Rattle.pg_chunks.specs.Parts.{IsRun}

-- what is given of one item more
pub one_more : {X Y : Type 0} (f : X → Option Y) (xs : List X) (i : ℕ) (x : X) → i < length xs → x ≡ get_or xs i x → filter_map f (take (i + 1) xs) ≡ filter_map f (take i xs) ++ cons_option (f x) []
one_more f xs i x l e =
    rw add-one (ap (filter_map f) (take-suc xs i x l) ∙ filter_map-append f (take i xs) _ ∙ ap (λ y. filter_map f (take i xs) ++ cons_option (f y) []) (sym e))

-- one item more, behind what was there before
pub grown : {X Y : Type 0} (f : X → Option Y) (before old new : List Y) (xs : List X) (i : ℕ) (x : X) (o : Option Y) → i < length xs → x ≡ get_or xs i x
    → old ≡ before ++ filter_map f (take i xs) → o ≡ f x → new ≡ old ++ cons_option o [] → new ≡ before ++ filter_map f (take (i + 1) xs)
grown f before old new xs i x o l e h k n =
    n ∙ (λ j. h j ++ cons_option (k j) []) ∙ append_assoc before (filter_map f (take i xs)) (cons_option (f x) []) ∙ ap (λ ys. before ++ ys) (sym (one_more f xs i x l e))

-- ITEMS THAT STAND TOGETHER

take_front : {X : Type 0} (front back : List X) → take (length front) (front ++ back) ≡ front
take_front [] back = refl
take_front (x ∷ front) back = ap (λ ys. x ∷ ys) (take_front front back)

take_both : {X : Type 0} (front run back : List X) → take (length front + length run) (front ++ (run ++ back)) ≡ front ++ run
take_both [] run back = let e : 0 + length run ≡ length run = omega arith in ap (λ n. take n (run ++ back)) e ∙ take_front run back
take_both (x ∷ front) run back =
    let e : suc (length front) + length run ≡ suc (length front + length run) = omega arith in
    ap (λ n. take n (x ∷ (front ++ (run ++ back)))) e ∙ ap (λ ys. x ∷ ys) (take_both front run back)

run_taken : {X : Type 0} (xs run : List X) (at : ℕ) → IsRun at xs run → take (at + length run) xs ≡ take at xs ++ run
run_taken xs run at r =
    (λ i. take (sym r.2 i + length run) (r.3 i)) ∙ take_both r.0 run r.1 ∙ ap (λ ys. ys ++ run) (sym ((λ i. take (sym r.2 i) (r.3 i)) ∙ take_front r.0 (run ++ r.1)))

run_end : {X : Type 0} (xs run : List X) (at : ℕ) → IsRun at xs run → at + length run ≤ length xs
run_end xs run at r =
    let a : length xs ≡ length (r.0 ++ (run ++ r.1)) = ap length r.3 in
    let b = length-append r.0 (run ++ r.1) in
    let c = length-append run r.1 in
    let d = r.2 in
    omega (arith, a, b, c, d)

-- some items more that stand together, behind what was there before
pub run_more : {X Y : Type 0} (g : List X → List Y) → ((xs ys : List X) → g (xs ++ ys) ≡ g xs ++ g ys) → (before old new : List Y) (xs run : List X) (at n : ℕ) → IsRun at xs run → n ≡ length run
    → old ≡ before ++ g (take at xs) → new ≡ old ++ g run → (new ≡ before ++ g (take (at + n) xs)) × (at + n ≤ length xs)
run_more g both before old new xs run at n r l h k = (
  k ∙ ap (λ ys. ys ++ g run) h ∙ append_assoc before (g (take at xs)) (g run) ∙ ap (λ ys. before ++ ys) (sym (both (take at xs) run)) ∙ ap (λ ys. before ++ g ys) (sym (run_taken xs run at r))
      ∙ ap (λ m. before ++ g (take (at + m) xs)) (sym l),
  let e = run_end xs run at r in omega (arith, e, l),
)

zip_push : {A B : Type 0} (R : A → B → Type 0) (xs : List A) (ys : List B) (x : A) (y : B) → AllZip R xs ys → R x y → AllZip R (xs ++ x ∷ []) (ys ++ y ∷ [])
zip_push R [] [] x y h r = (r, tt)
zip_push R [] (w ∷ ys) x y h r = absurd h
zip_push R (z ∷ xs) [] x y h r = absurd h
zip_push R (z ∷ xs) (w ∷ ys) x y h r = (h.0, zip_push R xs ys x y h.1 r)

-- one item more on both lists
pub zipped : {A B : Type 0} (R : A → B → Type 0) (xs : List A) (ys new : List B) (i : ℕ) (x : A) (y : B) → i < length xs → x ≡ get_or xs i x → AllZip R (take i xs) ys → R x y → new ≡ ys ++ y ∷ [] → AllZip R (take (i + 1) xs) new
zipped R xs ys new i x y l e h r n =
    rw add-one (rw n (subst (λ zs. AllZip R zs (ys ++ y ∷ [])) (sym (take-suc xs i x l)) (zip_push R (take i xs) ys (get_or xs i x) y h (subst (λ z. R z y) e r))))

-- two lists that go together
pub zip_length : {A B : Type 0} (R : A → B → Type 0) (xs : List A) (ys : List B) → AllZip R xs ys → length xs ≡ length ys
zip_length R [] [] h = refl
zip_length R [] (y ∷ ys) h = absurd h
zip_length R (x ∷ xs) [] h = absurd h
zip_length R (x ∷ xs) (y ∷ ys) h = ap suc (zip_length R xs ys h.1)

pub zip_at : {A B : Type 0} (R : A → B → Type 0) (xs : List A) (ys : List B) (i : ℕ) (x : A) (y : B) → AllZip R xs ys → i < length xs → x ≡ get_or xs i x → y ≡ get_or ys i y → R x y
zip_at R [] ys i x y h l e g = absurd (omega (arith, l))
zip_at R (w ∷ xs) [] i x y h l e g = absurd h
zip_at R (w ∷ xs) (z ∷ ys) zero x y h l e g = subst (λ b. R x b) (sym g) (subst (λ a. R a z) (sym e) h.0)
zip_at R (w ∷ xs) (z ∷ ys) (suc i) x y h l e g = zip_at R xs ys i x y h.1 (omega (arith, l)) e g

pub get_within : {X : Type 0} (xs : List X) (i : ℕ) (x : X) → i < length xs → x ≡ get_or xs i x → slice_get xs i ≡ Some x
get_within [] i x l e = absurd (omega (arith, l))
get_within (y ∷ xs) zero x l e = ap (λ z. Some z) (sym e)
get_within (y ∷ xs) (suc i) x l e = get_within xs i x (omega (arith, l)) e
