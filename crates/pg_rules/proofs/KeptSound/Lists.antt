-- What holds of each item of a list, tests of lists, and names that do not stand twice.
use Rattle.std.proofs.Common.{◌≡◌, ℕ, zero, suc, Bool, true, false, ◌||◌, ◌&&◌, refl, ap, sym, ◌∙◌, subst, List, [], ◌∷◌, ◌++◌, map, Contains, inl, inr}
use Rattle.std.proofs.lemmas.Slice.Eq.{bytes_eq-Decides}
use Rattle.std.specs.Prelude.{slice_get}
use Rattle.std.specs.List.{flat_map, list_any}
use Rattle.std.specs.Str.{bytes_eq}
use Rattle.std.specs.declared.option.Option.TheVariants.{Some}
use Rattle.pg_keyed.specs.Lists.{Each}
use Rattle.pg_ast.specs.declared.expr.Name.{Name}
use Rattle.pg_meaning.specs.Bindings.{Distinct}
use Rattle.pg_meaning.specs.Members.{in_nil, in_cons, in_here, in_there, in_left, in_right, from_map}
use Rattle.pg_rules.specs.Places.{place_if}
use Rattle.pg_rules.specs.Definitions.Tables.{again, repeats}
use Rattle.pg_rules.proofs.KeptSound.EmptyPlaces.{left_nil, right_nil, each_nil, no_place}

-- EACH ITEM

pub each_at : {X : Type 0} (P : X → Type 0) (xs : List X) (x : X) → Each P xs → Contains xs x → P x
each_at P [] x h c = absurd (in_nil x c)
each_at P (y ∷ xs) x h c = elim (in_cons y xs x c) [ inl e ↦ subst P e h.0 | inr r ↦ each_at P xs x h.1 r ]

pub each_in : {X : Type 0} (P : X → Type 0) (xs : List X) → ((x : X) → Contains xs x → P x) → Each P xs
each_in P [] f = tt
each_in P (x ∷ xs) f = (f x (in_here x xs x refl), each_in P xs (λ y c. f y (in_there x xs y c)))

pub each_mapped : {X Y : Type 0} (f : X → Y) (P : Y → Type 0) (xs : List X) → ((x : X) → Contains xs x → P (f x)) → Each P (map f xs)
each_mapped f P [] g = tt
each_mapped f P (x ∷ xs) g = (g x (in_here x xs x refl), each_mapped f P xs (λ y c. g y (in_there x xs y c)))

pub in_flat_map : {X Y : Type 0} (f : X → List Y) (xs : List X) (x : X) (y : Y) → Contains xs x → Contains (f x) y → Contains (flat_map f xs) y
in_flat_map f [] x y c k = absurd (in_nil x c)
in_flat_map f (z ∷ xs) x y c k = elim (in_cons z xs x c) [
  | inl e ↦ in_left (f z) (flat_map f xs) y (subst (λ w. Contains (f w) y) (sym e) k)
  | inr r ↦ in_right (f z) (flat_map f xs) y (in_flat_map f xs x y r k)
]

pub stands_before : {X : Type 0} (xs ys : List X) (i : ℕ) (x : X) → slice_get xs i ≡ Some x → slice_get (xs ++ ys) i ≡ Some x
stands_before [] ys i x h = absurd (cc)
stands_before (z ∷ xs) ys zero x h = h
stands_before (z ∷ xs) ys (suc i) x h = stands_before xs ys i x h

-- TESTS

or_true : (a b : Bool) → b ≡ true → (a || b) ≡ true
or_true true b h = refl
or_true false b h = h

pub or_left : (a b : Bool) → (a || b) ≡ false → a ≡ false
or_left true b h = absurd (cc)
or_left false b h = refl

pub or_right : (a b : Bool) → (a || b) ≡ false → b ≡ false
or_right true b h = absurd (cc)
or_right false b h = h

pub and_left : (a b : Bool) → (a && b) ≡ true → a ≡ true
and_left true b h = refl
and_left false b h = absurd (cc)

pub and_right : (a b : Bool) → (a && b) ≡ true → b ≡ true
and_right true b h = h
and_right false b h = absurd (cc)

-- an item that passes a test
pub some_item : {X : Type 0} (test : X → Bool) (xs : List X) (x : X) → Contains xs x → test x ≡ true → list_any test xs ≡ true
some_item test [] x c h = absurd (in_nil x c)
some_item test (y ∷ xs) x c h = elim (in_cons y xs x c) [
  | inl e ↦ ap (λ b. b || list_any test xs) (ap test e ∙ h)
  | inr r ↦ or_true (test y) (list_any test xs) (some_item test xs x r h)
]

-- where no item passes a test, this one does not
pub no_item : {X : Type 0} (test : X → Bool) (xs : List X) (x : X) → list_any test xs ≡ false → Contains xs x → test x ≡ false
no_item test [] x h c = absurd (in_nil x c)
no_item test (y ∷ xs) x h c = elim (in_cons y xs x c) [
  | inl e ↦ ap test (sym e) ∙ or_left (test y) (list_any test xs) h
  | inr r ↦ no_item test xs x (or_right (test y) (list_any test xs) h) r
]

-- NAMES

pub true_false : true ≡ false → ⊥
true_false e = cc

pub same_bytes : (a b : List ℕ) → bytes_eq a b ≡ true → a ≡ b
same_bytes a b h = (bytes_eq-Decides a b).0 h

pub bytes_same : (a b : List ℕ) → a ≡ b → bytes_eq a b ≡ true
bytes_same a b h = (bytes_eq-Decides a b).1 h

not_again : (text : List ℕ) (ns : List Name) (n : Name) → again text ns ≡ [] → Contains ns n → n.text ≡ text → ⊥
not_again text ns n h c e =
    let here : place_if (bytes_eq n.text text) n.at ≡ [] = each_at (λ (m : Name). place_if (bytes_eq m.text text) m.at ≡ []) ns n (each_nil (λ (m : Name). place_if (bytes_eq m.text text) m.at) ns h) c in
    true_false (sym (bytes_same n.text text e) ∙ no_place (bytes_eq n.text text) n.at here)

-- what different names have, where names of one such thing have one text
pub distinct_named : {X : Type 0} (f : Name → X) (ns : List Name) → ((a b : Name) → Contains ns a → Contains ns b → f a ≡ f b → a.text ≡ b.text) → repeats ns ≡ [] → Distinct (map f ns)
distinct_named f [] same h = tt
distinct_named f (n ∷ ns) same h = (
  λ c. let m = from_map f ns (f n) c in
      not_again n.text ns m.0 (left_nil (again n.text ns) (repeats ns) h) m.1 (same m.0 n (in_there n ns m.0 m.1) (in_here n ns n refl) m.2),
  distinct_named f ns (λ a b c e. same a b (in_there n ns a c) (in_there n ns b e)) (right_nil (again n.text ns) (repeats ns) h),
)
