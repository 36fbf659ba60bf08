-- A binding agrees with a tuple exactly where their lists agree, and then it has the tuple's key.
use Rattle.std.proofs.Common.{◌≡◌, ℕ, Bool, true, false, cond, ◌&&◌, ◌||◌, ◌==◌, List, [], ◌∷◌, ◌++◌, length, Contains, ◌⊎◌, inl, inr, refl, ap, sym, ◌∙◌, subst, eq-eqb, eqb-true, arith}
use Rattle.std.specs.Prelude.{Option, Some, None, filter}
use Rattle.std.specs.List.{list_any, list_all, AllZip}
use Rattle.std.specs.Option.{unwrap_or}
use Rattle.std.specs.Cmp.Lexicographic.{pointwise}
use Rattle.pg_value.specs.declared.shape.ElemId.{ElemId}
use Rattle.pg_value.specs.Graph.{same_elem}
use Rattle.pg_value.specs.Hashing.{one_elem, elem_equivalence}
use Rattle.pg_meaning.specs.declared.checked.CheckedPath.{CheckedPath}
use Rattle.pg_meaning.specs.declared.checked.PathBinding.{PathBinding}
use Rattle.pg_meaning.specs.Answers.{VarList, ListsAgree, lists_with}
use Rattle.pg_meaning.specs.Members.{in_nil, in_here, in_there, in_cons, in_left, in_right, in_append, in_filter, from_any}
use Rattle.pg_join.specs.Joining.{list_in, first_of, list_of, lists_of, occurs, shared, key_of, same_list, agrees, has_key, IsOf}

true_false : true ≡ false → ⊥
true_false h = cc

none_some : {X : Type 0} (x : X) → None ≡ Some x → ⊥
none_some x h = cc

-- LISTS OF ELEMENTS

both : (s t : Bool) → (s && t) ≡ true → (s ≡ true) × (t ≡ true)
both true t h = (refl, h)
both false t h = absurd (true_false (sym h))

pub one_list : (xs ys : List ElemId) → pointwise same_elem xs ys ≡ true → xs ≡ ys
one_list [] [] h = refl
one_list [] (y ∷ ys) h = absurd (true_false (sym h))
one_list (x ∷ xs) [] h = absurd (true_false (sym h))
one_list (x ∷ xs) (y ∷ ys) h =
    let b = both (same_elem x y) (pointwise same_elem xs ys) h in
    λ i. one_elem x y b.0 i ∷ one_list xs ys b.1 i

pub self_list : (xs : List ElemId) → pointwise same_elem xs xs ≡ true
self_list [] = refl
self_list (x ∷ xs) = (λ i. elem_equivalence.refl x i && self_list xs i)

one_option : (a b : Option (List ElemId)) → same_list a b ≡ true → a ≡ b
one_option (Some xs) (Some ys) h = ap Some (one_list xs ys h)
one_option None None h = refl
one_option (Some xs) None h = absurd (true_false (sym h))
one_option None (Some ys) h = absurd (true_false (sym h))

self_option : (a : Option (List ElemId)) → same_list a a ≡ true
self_option (Some xs) = self_list xs
self_option None = refl

-- MEMBERS

all_of : (test : ℕ → Bool) (xs : List ℕ) → ((x : ℕ) → Contains xs x → test x ≡ true) → list_all test xs ≡ true
all_of test [] h = refl
all_of test (x ∷ xs) h = λ i. h x (in_here x xs x refl) i && all_of test xs (λ y c. h y (in_there x xs y c)) i

from_all : (test : ℕ → Bool) (xs : List ℕ) (x : ℕ) → list_all test xs ≡ true → Contains xs x → test x ≡ true
from_all test [] x h c = absurd (in_nil x c)
from_all test (y ∷ xs) x h c =
    let b = both (test y) (list_all test xs) h in
    elim (in_cons y xs x c) [ inl e ↦ ap test (sym e) ∙ b.0 | inr r ↦ from_all test xs x b.1 r ]

any_of : {X : Type 0} (test : X → Bool) (xs : List X) (x : X) → Contains xs x → test x ≡ true → list_any test xs ≡ true
any_of test [] x c t = absurd (in_nil x c)
any_of test (y ∷ xs) x c t = elim (in_cons y xs x c) [
  | inl e ↦ (λ i. (ap test e ∙ t) i || list_any test xs)
  | inr r ↦ (λ i. test y || any_of test xs x r t i) ∙ or_true (test y)
]
  where
    or_true : (b : Bool) → (b || true) ≡ true
    or_true true = refl
    or_true false = refl

in_filtered : (test : ℕ → Bool) (xs : List ℕ) (x : ℕ) → Contains xs x → test x ≡ true → Contains (filter test xs) x
in_filtered test [] x c t = absurd (in_nil x c)
in_filtered test (y ∷ ys) x c t = go (test y) refl (in_cons y ys x c) (λ r. in_filtered test ys x r t)
  where
    go : (b : Bool) → test y ≡ b → (y ≡ x) ⊎ Contains ys x → (Contains ys x → Contains (filter test ys) x) → Contains (cond b (y ∷ filter test ys) (filter test ys)) x
    go true e (inl s) again = in_here y (filter test ys) x s
    go true e (inr r) again = in_there y (filter test ys) x (again r)
    go false e (inl s) again = absurd (true_false (sym t ∙ ap test (sym s) ∙ e))
    go false e (inr r) again = again r

-- THE LISTS OF A BINDING

abbrev pub var_list : ℕ → List ElemId → VarList
var_list x elems = record { var = x; elems = elems }

in_list : (vars : List ℕ) (lists : List (List ElemId)) (x : ℕ) (l : List ElemId) → list_in vars lists x ≡ Some l → Contains (lists_with vars lists) (var_list x l)
in_list [] lists x l h = absurd (none_some l h)
in_list (y ∷ vars) [] x l h = absurd (none_some l h)
in_list (y ∷ vars) (m ∷ lists) x l h = go (y == x) refl h (λ k. in_list vars lists x l k)
  where
    go : (b : Bool) → (y == x) ≡ b → cond b (Some m) (list_in vars lists x) ≡ Some l → (list_in vars lists x ≡ Some l → Contains (lists_with vars lists) (var_list x l)) → Contains (var_list y m ∷ lists_with vars lists) (var_list x l)
    go true e k again = in_here (var_list y m) (lists_with vars lists) (var_list x l) (λ i. var_list (eqb-true y x e i) (let s : m ≡ l = cc in s i))
    go false e k again = in_there (var_list y m) (lists_with vars lists) (var_list x l) (again k)

list_there : (vars : List ℕ) (lists : List (List ElemId)) (a : VarList) → Contains (lists_with vars lists) a → (l : List ElemId) × (list_in vars lists a.var ≡ Some l)
list_there [] lists a c = absurd (in_nil a c)
list_there (y ∷ vars) [] a c = absurd (in_nil a c)
list_there (y ∷ vars) (m ∷ lists) a c = go (y == a.var) refl (in_cons (var_list y m) (lists_with vars lists) a c) (λ r. list_there vars lists a r)
  where
    go : (b : Bool) → (y == a.var) ≡ b → (var_list y m ≡ a) ⊎ Contains (lists_with vars lists) a → (Contains (lists_with vars lists) a → (l : List ElemId) × (list_in vars lists a.var ≡ Some l)) → (l : List ElemId) × (cond b (Some m) (list_in vars lists a.var) ≡ Some l)
    go true e r again = (m, refl)
    go false e (inl s) again = absurd (true_false (sym (eq-eqb y a.var (ap (λ (z : VarList). z.var) s)) ∙ e))
    go false e (inr r) again = again r

has_var : (vars : List ℕ) (lists : List (List ElemId)) (a : VarList) → Contains (lists_with vars lists) a → Contains vars a.var
has_var [] lists a c = absurd (in_nil a c)
has_var (y ∷ vars) [] a c = absurd (in_nil a c)
has_var (y ∷ vars) (m ∷ lists) a c = elim (in_cons (var_list y m) (lists_with vars lists) a c) [
  | inl s ↦ in_here y vars a.var (ap (λ (z : VarList). z.var) s)
  | inr r ↦ in_there y vars a.var (has_var vars lists a r)
]

list_of_var : (vars : List ℕ) (lists : List (List ElemId)) (x : ℕ) → length lists ≡ length vars → Contains vars x → (l : List ElemId) × (list_in vars lists x ≡ Some l)
list_of_var [] lists x e c = absurd (in_nil x c)
list_of_var (y ∷ vars) [] x e c = absurd (omega arith)
list_of_var (y ∷ vars) (m ∷ lists) x e c = go (y == x) refl (in_cons y vars x c) (λ r. list_of_var vars lists x (omega arith) r)
  where
    go : (b : Bool) → (y == x) ≡ b → (y ≡ x) ⊎ Contains vars x → (Contains vars x → (l : List ElemId) × (list_in vars lists x ≡ Some l)) → (l : List ElemId) × (cond b (Some m) (list_in vars lists x) ≡ Some l)
    go true s r again = (m, refl)
    go false s (inl t) again = absurd (true_false (sym (eq-eqb y x t) ∙ s))
    go false s (inr r) again = again r

-- THE LISTS OF A TUPLE

pub in_tuple : (paths : List CheckedPath) (t : List PathBinding) (x : ℕ) (l : List ElemId) → list_of paths t x ≡ Some l → Contains (lists_of paths t) (var_list x l)
in_tuple [] t x l h = absurd (none_some l h)
in_tuple (p ∷ paths) [] x l h = absurd (none_some l h)
in_tuple (p ∷ paths) (b ∷ t) x l h = go (list_in p.vars b.vars x) refl h (λ k. in_tuple paths t x l k)
  where
    go : (o : Option (List ElemId)) → list_in p.vars b.vars x ≡ o → first_of o (list_of paths t x) ≡ Some l → (list_of paths t x ≡ Some l → Contains (lists_of paths t) (var_list x l)) → Contains (lists_with p.vars b.vars ++ lists_of paths t) (var_list x l)
    go (Some m) e k again = in_left (lists_with p.vars b.vars) (lists_of paths t) (var_list x l) (in_list p.vars b.vars x l (e ∙ k))
    go None e k again = in_right (lists_with p.vars b.vars) (lists_of paths t) (var_list x l) (again k)

some_first : (o other : Option (List ElemId)) (l : List ElemId) → o ≡ Some l → first_of o other ≡ Some l
some_first (Some m) other l e = e
some_first None other l e = absurd (none_some l e)

second_first : (o other : Option (List ElemId)) (l : List ElemId) → other ≡ Some l → (m : List ElemId) × (first_of o other ≡ Some m)
second_first (Some m) other l e = (m, refl)
second_first None other l e = (l, e)

pub tuple_there : (paths : List CheckedPath) (t : List PathBinding) (a : VarList) → Contains (lists_of paths t) a → (l : List ElemId) × (list_of paths t a.var ≡ Some l)
tuple_there [] t a c = absurd (in_nil a c)
tuple_there (p ∷ paths) [] a c = absurd (in_nil a c)
tuple_there (p ∷ paths) (b ∷ t) a c = elim (in_append (lists_with p.vars b.vars) (lists_of paths t) a c) [
  | inl m ↦ (let l = list_there p.vars b.vars a m in (l.0, some_first (list_in p.vars b.vars a.var) (list_of paths t a.var) l.0 l.1))
  | inr m ↦ (let l = tuple_there paths t a m in second_first (list_in p.vars b.vars a.var) (list_of paths t a.var) l.0 l.1)
]

tuple_occurs : (paths : List CheckedPath) (t : List PathBinding) (a : VarList) → Contains (lists_of paths t) a → occurs paths a.var ≡ true
tuple_occurs [] t a c = absurd (in_nil a c)
tuple_occurs (p ∷ paths) [] a c = absurd (in_nil a c)
tuple_occurs (p ∷ paths) (b ∷ t) a c = elim (in_append (lists_with p.vars b.vars) (lists_of paths t) a c) [
  | inl m ↦ (λ i. any_of (λ y. y == a.var) p.vars a.var (has_var p.vars b.vars a m) (eq-eqb a.var a.var refl) i || occurs paths a.var)
  | inr m ↦ (λ i. list_any (λ y. y == a.var) p.vars || tuple_occurs paths t a m i) ∙ or_true (list_any (λ y. y == a.var) p.vars)
]
  where
    or_true : (s : Bool) → (s || true) ≡ true
    or_true true = refl
    or_true false = refl

occurs_there : (paths : List CheckedPath) (t : List PathBinding) (x : ℕ) → AllZip (λ p b. IsOf p b) paths t → occurs paths x ≡ true → (l : List ElemId) × (list_of paths t x ≡ Some l)
occurs_there [] t x z h = absurd (true_false (sym h))
occurs_there (p ∷ paths) [] x z h = absurd z
occurs_there (p ∷ paths) (b ∷ t) x z h = go (list_any (λ y. y == x) p.vars) refl h (λ k. occurs_there paths t x z.1 k)
  where
    go : (s : Bool) → list_any (λ y. y == x) p.vars ≡ s → (s || occurs paths x) ≡ true → (occurs paths x ≡ true → (l : List ElemId) × (list_of paths t x ≡ Some l)) → (l : List ElemId) × (list_of (p ∷ paths) (b ∷ t) x ≡ Some l)
    go true e k again =
        let f = from_any (λ y. y == x) p.vars e in
        let c = subst (λ y. Contains p.vars y) (eqb-true f.0 x f.2) f.1 in
        let l = list_of_var p.vars b.vars x z.0.long c in
        (l.0, some_first (list_in p.vars b.vars x) (list_of paths t x) l.0 l.1)
    go false e k again =
        let l = again k in
        second_first (list_in p.vars b.vars x) (list_of paths t x) l.0 l.1

-- AGREEING

module _ (before : List CheckedPath) (t : List PathBinding) (p : CheckedPath) (b : PathBinding) (stand : AllZip (λ q c. IsOf q c) before t) (of : IsOf p b) where
  own_agree : ListsAgree (lists_with p.vars b.vars ++ [])
  own_agree = λ a c i j s. of.agree a c (out a i) (out c j) s
    where
      out : (a : VarList) → Contains (lists_with p.vars b.vars ++ []) a → Contains (lists_with p.vars b.vars) a
      out a i = elim (in_append (lists_with p.vars b.vars) [] a i) [ inl l ↦ l | inr r ↦ absurd (in_nil a r) ]

  var_of : (a : VarList) → Contains (lists_of (p ∷ []) (b ∷ [])) a → Contains p.vars a.var
  var_of a i = elim (in_append (lists_with p.vars b.vars) [] a i) [ inl l ↦ has_var p.vars b.vars a l | inr r ↦ absurd (in_nil a r) ]

  -- a variable that both have
  cross : ListsAgree (lists_of before t) → agrees (shared before p) before t p b ≡ true
      → (a c : VarList) → Contains (lists_of before t) a → Contains (lists_of (p ∷ []) (b ∷ [])) c → a.var ≡ c.var → a.elems ≡ c.elems
  cross agree h a c i j s =
      let o : occurs before c.var ≡ true = subst (λ x. occurs before x ≡ true) s (tuple_occurs before t a i) in
      let m = in_filtered (occurs before) p.vars c.var (var_of c j) o in
      let same = one_option (list_of before t c.var) (list_of (p ∷ []) (b ∷ []) c.var) (from_all (λ x. same_list (list_of before t x) (list_of (p ∷ []) (b ∷ []) x)) (shared before p) c.var h m) in
      let k = tuple_there before t a i in
      let l = tuple_there (p ∷ []) (b ∷ []) c j in
      let u = agree a (var_list a.var k.0) i (in_tuple before t a.var k.0 k.1) refl in
      let v = own_agree c (var_list c.var l.0) j (in_tuple (p ∷ []) (b ∷ []) c.var l.0 l.1) refl in
      let w : Some k.0 ≡ Some l.0 = sym k.1 ∙ ap (list_of before t) s ∙ same ∙ l.1 in
      let x : k.0 ≡ l.0 = cc in
      u ∙ x ∙ sym v

  pub agreeing : ListsAgree (lists_of before t) → agrees (shared before p) before t p b ≡ true → ListsAgree (lists_of before t ++ lists_of (p ∷ []) (b ∷ []))
  agreeing agree h = λ a c i j s. elim (in_append (lists_of before t) (lists_of (p ∷ []) (b ∷ [])) a i) [
    | inl l ↦ elim (in_append (lists_of before t) (lists_of (p ∷ []) (b ∷ [])) c j) [ inl m ↦ agree a c l m s | inr m ↦ cross agree h a c l m s ]
    | inr l ↦ elim (in_append (lists_of before t) (lists_of (p ∷ []) (b ∷ [])) c j) [ inl m ↦ sym (cross agree h c a m l (sym s)) | inr m ↦ own_agree a c l m s ]
  ]

  pub agree_so : ListsAgree (lists_of before t ++ lists_of (p ∷ []) (b ∷ [])) → agrees (shared before p) before t p b ≡ true
  agree_so h = all_of (λ x. same_list (list_of before t x) (list_of (p ∷ []) (b ∷ []) x)) (shared before p) one
    where
      one : (x : ℕ) → Contains (shared before p) x → same_list (list_of before t x) (list_of (p ∷ []) (b ∷ []) x) ≡ true
      one x c =
          let f = in_filter (occurs before) p.vars x c in
          let k = occurs_there before t x stand f.1 in
          let m = list_of_var p.vars b.vars x of.long f.0 in
          let l : list_of (p ∷ []) (b ∷ []) x ≡ Some m.0 = some_first (list_in p.vars b.vars x) None m.0 m.1 in
          let e = h (var_list x k.0) (var_list x m.0) (in_left (lists_of before t) (lists_of (p ∷ []) (b ∷ [])) (var_list x k.0) (in_tuple before t x k.0 k.1))
          (in_right (lists_of before t) (lists_of (p ∷ []) (b ∷ [])) (var_list x m.0) (in_tuple (p ∷ []) (b ∷ []) x m.0 l)) refl in
          (λ i. same_list (k.1 i) (l i)) ∙ (λ i. same_list (Some (e i)) (Some m.0)) ∙ self_list m.0

-- what agrees has the key
pub same_key : (vars : List ℕ) (before : List CheckedPath) (t : List PathBinding) (p : CheckedPath) (b : PathBinding) → agrees vars before t p b ≡ true → key_of vars before t ≡ key_of vars (p ∷ []) (b ∷ [])
same_key [] before t p b h = refl
same_key (x ∷ vars) before t p b h =
    let s = both (same_list (list_of before t x) (list_of (p ∷ []) (b ∷ []) x)) (agrees vars before t p b) h in
    let e = one_option (list_of before t x) (list_of (p ∷ []) (b ∷ []) x) s.0 in
    λ i. unwrap_or (e i) [] ++ same_key vars before t p b s.1 i

pub has_the_key : (vars : List ℕ) (before : List CheckedPath) (t : List PathBinding) (p : CheckedPath) (b : PathBinding) → agrees vars before t p b ≡ true → has_key vars p (key_of vars before t) b ≡ true
has_the_key vars before t p b h = ap (λ ks. pointwise same_elem ks (key_of vars (p ∷ []) (b ∷ []))) (same_key vars before t p b h) ∙ self_list (key_of vars (p ∷ []) (b ∷ []))
