-- What a loop appends, item by item, or some items that stand together at a time.
use Rattle.std.proofs.Common.{◌≡◌, ◌+◌, ◌<◌, ℕ, List, [], ◌∷◌, ◌++◌, length, get_or, take, ap, sym, subst, ◌∙◌, add-one, append_assoc}
use Rattle.std.proofs.Math.Seq.{take-suc}
use Rattle.std.proofs.lemmas.List.Elements.{filter_map-append}
use Rattle.std.specs.Prelude.{Option, filter_map}
use Rattle.std.specs.List.{cons_option, AllZip}

-- what is given of one item more
pub one_more : {X Y : Type 0} (f : X → Option Y) (xs : List X) (i : ℕ) (x : X) → i < length xs → x ≡ get_or xs i x → filter_map f (take (i + 1) xs) ≡ filter_map f (take i xs) ++ cons_option (f x) []
one_more f xs i x l e =
    rw add-one (ap (filter_map f) (take-suc xs i x l) ∙ filter_map-append f (take i xs) _ ∙ ap (λ y. filter_map f (take i xs) ++ cons_option (f y) []) (sym e))

-- one item more, behind what was there before
pub grown : {X Y : Type 0} (f : X → Option Y) (before old new : List Y) (xs : List X) (i : ℕ) (x : X) (o : Option Y) → i < length xs → x ≡ get_or xs i x
    → old ≡ before ++ filter_map f (take i xs) → o ≡ f x → new ≡ old ++ cons_option o [] → new ≡ before ++ filter_map f (take (i + 1) xs)
grown f before old new xs i x o l e h k n =
    n ∙ (λ j. h j ++ cons_option (k j) []) ∙ append_assoc before (filter_map f (take i xs)) (cons_option (f x) []) ∙ ap (λ ys. before ++ ys) (sym (one_more f xs i x l e))

zip_push : {A B : Type 0} (R : A → B → Type 0) (xs : List A) (ys : List B) (x : A) (y : B) → AllZip R xs ys → R x y → AllZip R (xs ++ x ∷ []) (ys ++ y ∷ [])
zip_push R [] [] x y h r = (r, tt)
zip_push R [] (w ∷ ys) x y h r = absurd h
zip_push R (z ∷ xs) [] x y h r = absurd h
zip_push R (z ∷ xs) (w ∷ ys) x y h r = (h.0, zip_push R xs ys x y h.1 r)

-- one item more on both lists
pub zipped : {A B : Type 0} (R : A → B → Type 0) (xs : List A) (ys new : List B) (i : ℕ) (x : A) (y : B) → i < length xs → x ≡ get_or xs i x → AllZip R (take i xs) ys → R x y → new ≡ ys ++ y ∷ [] → AllZip R (take (i + 1) xs) new
zipped R xs ys new i x y l e h r n =
    rw add-one (rw n (subst (λ zs. AllZip R zs (ys ++ y ∷ [])) (sym (take-suc xs i x l)) (zip_push R (take i xs) ys (get_or xs i x) y h (subst (λ z. R z y) e r))))
