-- One item more of a list.
use Rattle.std.proofs.Common.{◌≡◌, ◌+◌, ◌<◌, ◌≤◌, ℕ, zero, suc, refl, arith, map, List, [], ◌∷◌, ◌++◌, length, get_or, take, ap, sym, ◌∙◌, subst, add-one, append_assoc, Contains}
use Rattle.std.proofs.Math.Seq.{take-suc}
use Rattle.std.specs.List.{AllZip}
use Rattle.std.specs.Prelude.{Option, None, Some, slice_get, flat_map}
use Rattle.std.specs.Option.{unwrap_or}
use Rattle.pg_meaning.specs.Members.{in_here, in_there}
use Rattle.pg_keyed.specs.Lists.{Each}
use Rattle.pg_meaning.specs.declared.checked.CheckedPath.{CheckedPath}
use Rattle.pg_meaning.specs.declared.checked.PathBinding.{PathBinding}
use Rattle.pg_join.specs.Joining.{extended, AreOf, AreJoined}
use Rattle.pg_join.proofs.Joins.{zip_behind, one_joined}

pub take_next : {X : Type 0} (xs : List X) (i : ℕ) (x : X) → i < length xs → x ≡ get_or xs i x → take (i + 1) xs ≡ take i xs ++ x ∷ []
take_next xs i x l e = rw add-one (take-suc xs i x l ∙ ap (λ y. take i xs ++ y ∷ []) (sym e))

pub zip_next : {X Y : Type 0} (P : X → Y → Type 0) (xs : List X) (ys : List Y) (i : ℕ) (x : X) (y : Y) → i < length xs → x ≡ get_or xs i x → AllZip P (take i xs) ys → P x y → AllZip P (take (i + 1) xs) (ys ++ y ∷ [])
zip_next P xs ys i x y l e z p = subst (λ zs. AllZip P zs (ys ++ y ∷ [])) (sym (take_next xs i x l e)) (zip_behind P (take i xs) ys x y z p)

pub take_whole : {X : Type 0} (xs : List X) (n : ℕ) → length xs ≤ n → take n xs ≡ xs
take_whole [] zero l = refl
take_whole [] (suc n) l = refl
take_whole (x ∷ xs) zero l = absurd (omega arith)
take_whole (x ∷ xs) (suc n) l = ap (λ ys. x ∷ ys) (take_whole xs n (omega arith))

pub there : {X : Type 0} (xs : List X) (i : ℕ) (x : X) → i < length xs → x ≡ get_or xs i x → slice_get xs i ≡ Some x
there [] i x l e = absurd (omega arith)
there (y ∷ xs) zero x l e = ap Some (sym e)
there (y ∷ xs) (suc i) x l e = there xs i x (omega arith) e

module _ {X Y : Type 0} (P : X → Y → Type 0) where
  pub zip_take : (n : ℕ) (xs : List X) (ys : List Y) → AllZip P xs ys → AllZip P (take n xs) (take n ys)
  zip_take zero [] [] z = tt
  zip_take (suc n) [] [] z = tt
  zip_take n [] (y ∷ ys) z = absurd z
  zip_take n (x ∷ xs) [] z = absurd z
  zip_take zero (x ∷ xs) (y ∷ ys) z = tt
  zip_take (suc n) (x ∷ xs) (y ∷ ys) z = (z.0, zip_take n xs ys z.1)

  pub zip_at : (i : ℕ) (xs : List X) (ys : List Y) (x : X) (y : Y) → AllZip P xs ys → slice_get xs i ≡ Some x → slice_get ys i ≡ Some y → P x y
  zip_at zero [] ys x y z e f = absurd (no e)
    where
      no : None ≡ Some x → ⊥
      no h = cc
  zip_at (suc i) [] ys x y z e f = absurd (no e)
    where
      no : None ≡ Some x → ⊥
      no h = cc
  zip_at i (v ∷ xs) [] x y z e f = absurd z
  zip_at zero (v ∷ xs) (w ∷ ys) x y z e f = let p : v ≡ x = cc in let q : w ≡ y = cc in subst (λ b. P x b) q (subst (λ a. P a w) p z.0)
  zip_at (suc i) (v ∷ xs) (w ∷ ys) x y z e f = zip_at i xs ys x y z.1 e f

-- what holds behind references
pub each_now : {R X : Type 0} (f : R → X) (P : X → Type 0) (rs : List R) → Each (λ r. P (f r)) rs → Each P (map f rs)
each_now f P [] e = tt
each_now f P (r ∷ rs) e = (e.0, each_now f P rs e.1)

pub zip_length : {X Y : Type 0} (P : X → Y → Type 0) (xs : List X) (ys : List Y) → AllZip P xs ys → length xs ≡ length ys
zip_length P [] [] z = refl
zip_length P [] (y ∷ ys) z = absurd z
zip_length P (x ∷ xs) [] z = absurd z
zip_length P (x ∷ xs) (y ∷ ys) z = ap suc (zip_length P xs ys z.1)

-- one path pattern more is joined
pub joined_next : (paths : List CheckedPath) (kept : List (List PathBinding)) (i : ℕ) (p : CheckedPath) (k : List PathBinding) (tuples more : List (List PathBinding)) → AllZip AreOf paths kept
    → i < length paths → p ≡ get_or paths i p → i < length kept → k ≡ get_or kept i k → AreJoined (take i paths) (take i kept) tuples → more ≡ extended (take i paths) p k tuples
    → AreJoined (take (i + 1) paths) (take (i + 1) kept) more
joined_next paths kept i p k tuples more z l e m f j h =
    let own = zip_at AreOf i paths kept p k z (there paths i p l e) (there kept i k m f) in
    let one = one_joined (take i paths) (take i kept) tuples p k (zip_take AreOf i paths kept z) own j in
    subst (λ ts. AreJoined (take (i + 1) paths) (take (i + 1) kept) ts) (sym h)
    (subst (λ ks. AreJoined (take (i + 1) paths) ks (extended (take i paths) p k tuples)) (sym (take_next kept i k m f))
    (subst (λ ps. AreJoined ps (take i kept ++ k ∷ []) (extended (take i paths) p k tuples)) (sym (take_next paths i p l e)) one))

-- the same behind references
pub joined_on : {R : Type 0} (view : R → List PathBinding) (paths : List CheckedPath) (kept : List (List PathBinding)) (i : ℕ) (p : CheckedPath) (k : List PathBinding) (rs ss : List R) (before : List CheckedPath) (q : CheckedPath) (l : List PathBinding) (more : List (List PathBinding))
    → AllZip AreOf paths kept → i < length paths → p ≡ get_or paths i p → i < length kept → k ≡ get_or kept i k → AreJoined (take i paths) (take i kept) (map view rs) → more ≡ extended before q l (map view ss)
    → before ≡ take i paths → q ≡ p → l ≡ k → ss ≡ rs → AreJoined (take (i + 1) paths) (take (i + 1) kept) more
joined_on view paths kept i p k rs ss before q l more z a e m f j h b c d g =
    joined_next paths kept i p k (map view rs) more z a e m f j (h ∙ (λ t. extended (b t) (c t) (d t) (map view (g t))))

pub joined_whole : (paths : List CheckedPath) (kept : List (List PathBinding)) (n : ℕ) (tuples : List (List PathBinding)) → AllZip AreOf paths kept → length paths ≤ n → AreJoined (take n paths) (take n kept) tuples → AreJoined paths kept tuples
joined_whole paths kept n tuples z l j =
    let e = zip_length AreOf paths kept z in
    subst (λ ps. AreJoined ps kept tuples) (take_whole paths n l) (subst (λ ks. AreJoined (take n paths) ks tuples) (take_whole kept n (omega arith)) j)

-- an item of a list of options
pub option_at : (xs : List (Option ℕ)) (i : ℕ) (x : Option ℕ) → i < length xs → x ≡ get_or xs i x → x ≡ unwrap_or (slice_get xs i) None
option_at xs i x l e = sym (ap (λ o. unwrap_or o None) (there xs i x l e))

flat_both : {X Y : Type 0} (f : X → List Y) (xs ys : List X) → flat_map f (xs ++ ys) ≡ flat_map f xs ++ flat_map f ys
flat_both f [] ys = refl
flat_both f (x ∷ xs) ys = ap (λ zs. f x ++ zs) (flat_both f xs ys) ∙ sym (append_assoc (f x) (flat_map f xs) (flat_map f ys))

map_both : {X Y : Type 0} (f : X → Y) (xs ys : List X) → map f (xs ++ ys) ≡ map f xs ++ map f ys
map_both f [] ys = refl
map_both f (x ∷ xs) ys = ap (λ zs. f x ∷ zs) (map_both f xs ys)

append_nil : {X : Type 0} (xs : List X) → xs ++ [] ≡ xs
append_nil [] = refl
append_nil (x ∷ xs) = ap (λ ys. x ∷ ys) (append_nil xs)

pub flat_next : {R X Y : Type 0} (f : X → List Y) (view : R → X) (rs : List R) (i : ℕ) (r : R) → i < length rs → r ≡ get_or rs i r → flat_map f (map view (take (i + 1) rs)) ≡ flat_map f (map view (take i rs)) ++ f (view r)
flat_next f view rs i r l e =
    ap (λ ts. flat_map f (map view ts)) (take_next rs i r l e) ∙ ap (flat_map f) (map_both view (take i rs) (r ∷ [])) ∙ flat_both f (map view (take i rs)) (view r ∷ [])
    ∙ ap (λ ys. flat_map f (map view (take i rs)) ++ ys) (append_nil (f (view r)))

-- what holds of each image
all_images : {R X : Type 0} (view : R → X) (P : X → Type 0) (rs : List R) → ((x : X) → Contains (map view rs) x → P x) → Each (λ r. P (view r)) rs
all_images view P [] h = tt
all_images view P (r ∷ rs) h = (h (view r) (in_here (view r) (map view rs) (view r) refl), all_images view P rs (λ x c. h x (in_there (view r) (map view rs) x c)))

pub each_image : {R X : Type 0} (view : R → X) (P : X → Type 0) (rs ss : List R) → ss ≡ rs → ((x : X) → Contains (map view rs) x → P x) → Each (λ r. P (view r)) ss
each_image view P rs ss e h = subst (λ ts. Each (λ r. P (view r)) ts) (sym e) (all_images view P rs h)

-- what holds of all, whatever they are
pub each_one : {X : Type 0} (P : Type 0) (xs : List X) → P → Each (λ x. P) xs
each_one P [] p = tt
each_one P (x ∷ xs) p = (p, each_one P xs p)
