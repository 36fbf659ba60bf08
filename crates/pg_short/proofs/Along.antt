-- One item more of a list that is gone along.
use Rattle.std.proofs.Common.{◌≡◌, ◌<◌, ◌+◌, ◌||◌, ℕ, Bool, true, false, List, [], ◌∷◌, ◌++◌, length, take, map, get_or, Contains, zero, suc, refl, arith, ap, sym, ◌∙◌, append-nil, append_assoc}
use Rattle.std.specs.Prelude.{flat_map}
use Rattle.std.specs.List.{list_any}
use Rattle.pg_meaning.specs.Members.{in_here, in_there}
use Rattle.pg_short.proofs.Lists.{map_one_more}

pub flat_push : {X Y : Type 0} (f : X → List Y) (xs : List X) (x : X) → flat_map f (xs ++ x ∷ []) ≡ flat_map f xs ++ f x
flat_push f [] x = append-nil (f x)
flat_push f (y ∷ ys) x = ap (λ zs. f y ++ zs) (flat_push f ys x) ∙ sym (append_assoc (f y) (flat_map f ys) (f x))

pub flat_more : {X Y Z : Type 0} (f : Y → List Z) (g : X → Y) (xs : List X) (i : ℕ) (x : X) → i < length xs → x ≡ get_or xs i x → flat_map f (map g (take i xs)) ++ f (g x) ≡ flat_map f (map g (take (i + 1) xs))
flat_more f g xs i x l e = sym (flat_push f (map g (take i xs)) (g x)) ∙ ap (flat_map f) (map_one_more g xs i x l e)

any_step : {X : Type 0} (p : X → Bool) (ys : List X) (x : X) (b : Bool) → (list_any p ys ≡ false → list_any p (ys ++ x ∷ []) ≡ false) → (b || list_any p ys) ≡ false → (b || list_any p (ys ++ x ∷ [])) ≡ false
any_step p ys x true h e = e
any_step p ys x false h e = h e

any_push : {X : Type 0} (p : X → Bool) (xs : List X) (x : X) → list_any p xs ≡ false → p x ≡ false → list_any p (xs ++ x ∷ []) ≡ false
any_push p [] x h k = ap (λ b. b || false) k
any_push p (y ∷ ys) x h k = any_step p ys x (p y) (λ e. any_push p ys x e k) h

pub none_more : {X Y : Type 0} (p : Y → Bool) (g : X → Y) (xs : List X) (i : ℕ) (x : X) → i < length xs → x ≡ get_or xs i x → list_any p (map g (take i xs)) ≡ false → p (g x) ≡ false → list_any p (map g (take (i + 1) xs)) ≡ false
none_more p g xs i x l e h k = ap (list_any p) (sym (map_one_more g xs i x l e)) ∙ any_push p (map g (take i xs)) (g x) h k

pub some_found : {X Y : Type 0} (p : Y → Bool) (g : X → Y) (xs : List X) (i : ℕ) (x : X) → i < length xs → x ≡ get_or xs i x → p (g x) ≡ true → list_any p (map g xs) ≡ true
some_found p g [] i x l e h = absurd (omega arith)
some_found p g (y ∷ ys) zero x l e h = ap (λ b. b || list_any p (map g ys)) (ap p (ap g (sym e)) ∙ h)
some_found p g (y ∷ ys) (suc i) x l e h = go (p (g y)) (some_found p g ys i x (omega arith) e h)
  where
    go : (b : Bool) → list_any p (map g ys) ≡ true → (b || list_any p (map g ys)) ≡ true
    go true k = refl
    go false k = k

pub in_at : {X : Type 0} (xs : List X) (i : ℕ) (d : X) → i < length xs → Contains xs (get_or xs i d)
in_at [] i d l = absurd (omega arith)
in_at (y ∷ ys) zero d l = in_here y ys y refl
in_at (y ∷ ys) (suc i) d l = in_there y ys (get_or ys i d) (in_at ys i d (omega arith))
