-- Joining path pattern by path pattern gives each tuple of bindings that agree, once.
use Rattle.std.proofs.Common.{◌≡◌, Bool, true, false, cond, List, [], ◌∷◌, ◌++◌, Contains, ◌⊎◌, inl, inr, refl, ap, sym, ◌∙◌, subst, append_assoc}
use Rattle.std.specs.Prelude.{filter, flat_map}
use Rattle.std.specs.List.{AllZip}
use Rattle.pg_meaning.specs.declared.checked.CheckedPath.{CheckedPath}
use Rattle.pg_meaning.specs.declared.checked.PathBinding.{PathBinding}
use Rattle.pg_meaning.specs.Bindings.{Distinct, front_of}
use Rattle.pg_meaning.specs.Answers.{VarList, ListsAgree, lists_with}
use Rattle.pg_meaning.specs.Members.{in_nil, in_here, in_there, in_cons, in_left, in_right, in_append, in_one, in_map, from_map, from_flat_map, in_filter, distinct_append, distinct_map}
use Rattle.pg_join.specs.Joining.{lists_of, shared, key_of, agrees, has_key, down, longer, longer_by, extended, IsOf, AreOf, AreJoined}
use Rattle.pg_join.proofs.Agreeing.{agreeing, agree_so, has_the_key}

true_false : true ≡ false → ⊥
true_false h = cc

-- LISTS

module _ {X : Type 0} (test : X → Bool) where
  in_down : (xs : List X) (x : X) → Contains xs x → test x ≡ true → Contains (down test xs) x
  in_down [] x c t = absurd (in_nil x c)
  in_down (y ∷ xs) x c t = elim (in_cons y xs x c) [
    | inl e ↦ in_right (down test xs) (cond (test y) (y ∷ []) []) x (subst (λ b. Contains (cond b (y ∷ []) []) x) (sym (ap test e ∙ t)) (in_here y [] x e))
    | inr r ↦ in_left (down test xs) (cond (test y) (y ∷ []) []) x (in_down xs x r t)
  ]

  one_down : (y x : X) (b : Bool) → Contains (cond b (y ∷ []) []) x → y ≡ x
  one_down y x true c = in_one y x c
  one_down y x false c = absurd (in_nil x c)

  from_down : (xs : List X) (x : X) → Contains (down test xs) x → Contains xs x
  from_down [] x c = c
  from_down (y ∷ xs) x c = elim (in_append (down test xs) (cond (test y) (y ∷ []) []) x c) [ inl l ↦ in_there y xs x (from_down xs x l) | inr r ↦ in_here y xs x (one_down y x (test y) r) ]

  distinct_one : (y : X) (b : Bool) → Distinct (cond b (y ∷ []) [])
  distinct_one y true = (in_nil y, tt)
  distinct_one y false = tt

  distinct_down : (xs : List X) → Distinct xs → Distinct (down test xs)
  distinct_down [] d = tt
  distinct_down (y ∷ xs) d = distinct_append (down test xs) (cond (test y) (y ∷ []) []) (distinct_down xs d.1) (distinct_one y (test y))
      (λ x a b. d.0 (subst (λ z. Contains xs z) (sym (one_down y x (test y) b)) (from_down xs x a)))

  in_filtered : (xs : List X) (x : X) → Contains xs x → test x ≡ true → Contains (filter test xs) x
  in_filtered [] x c t = absurd (in_nil x c)
  in_filtered (y ∷ ys) x c t = go (test y) refl (in_cons y ys x c) (λ r. in_filtered ys x r t)
    where
      go : (b : Bool) → test y ≡ b → (y ≡ x) ⊎ Contains ys x → (Contains ys x → Contains (filter test ys) x) → Contains (cond b (y ∷ filter test ys) (filter test ys)) x
      go true e (inl s) again = in_here y (filter test ys) x s
      go true e (inr r) again = in_there y (filter test ys) x (again r)
      go false e (inl s) again = absurd (true_false (sym t ∙ ap test (sym s) ∙ e))
      go false e (inr r) again = again r

  distinct_filtered : (xs : List X) → Distinct xs → Distinct (filter test xs)
  distinct_filtered [] d = tt
  distinct_filtered (y ∷ ys) d = go (test y) (distinct_filtered ys d.1)
    where
      go : (b : Bool) → Distinct (filter test ys) → Distinct (cond b (y ∷ filter test ys) (filter test ys))
      go true r = (λ c. d.0 (in_filter test ys y c).0, r)
      go false r = r

module _ {X Y : Type 0} (f : X → List Y) where
  in_flat : (xs : List X) (x : X) (y : Y) → Contains xs x → Contains (f x) y → Contains (flat_map f xs) y
  in_flat [] x y c d = absurd (in_nil x c)
  in_flat (z ∷ xs) x y c d = elim (in_cons z xs x c) [
    | inl e ↦ in_left (f z) (flat_map f xs) y (subst (λ w. Contains (f w) y) (sym e) d)
    | inr r ↦ in_right (f z) (flat_map f xs) y (in_flat xs x y r d)
  ]

  distinct_flat : (xs : List X) → Distinct xs → ((x : X) → Contains xs x → Distinct (f x)) → ((x w : X) (y : Y) → Contains (f x) y → Contains (f w) y → x ≡ w) → Distinct (flat_map f xs)
  distinct_flat [] d e apart = tt
  distinct_flat (x ∷ xs) d e apart = distinct_append (f x) (flat_map f xs) (e x (in_here x xs x refl)) (distinct_flat xs d.1 (λ w c. e w (in_there x xs w c)) apart)
      (λ y a b. let m = from_flat_map f xs y b in d.0 (subst (λ z. Contains xs z) (sym (apart x m.0 y a m.2)) m.1))

-- LONGER TUPLES

front : {X : Type 0} (xs : List X) (x : X) → front_of (xs ++ x ∷ []) ≡ xs
front [] x = refl
front (y ∷ []) x = refl
front (y ∷ z ∷ xs) x = ap (λ ys. y ∷ ys) (front (z ∷ xs) x)

same_front : {X : Type 0} (xs ys : List X) (x y : X) → xs ++ x ∷ [] ≡ ys ++ y ∷ [] → xs ≡ ys
same_front xs ys x y e = sym (front xs x) ∙ ap front_of e ∙ front ys y

same_last : {X : Type 0} (xs : List X) (x y : X) → xs ++ x ∷ [] ≡ xs ++ y ∷ [] → x ≡ y
same_last [] x y e = cc
same_last (z ∷ xs) x y e = let t : xs ++ x ∷ [] ≡ xs ++ y ∷ [] = cc in same_last xs x y t

module _ {X Y : Type 0} (P : X → Y → Type 0) where
  pub zip_behind : (xs : List X) (ys : List Y) (x : X) (y : Y) → AllZip P xs ys → P x y → AllZip P (xs ++ x ∷ []) (ys ++ y ∷ [])
  zip_behind [] [] x y z p = (p, tt)
  zip_behind [] (w ∷ ys) x y z p = absurd z
  zip_behind (v ∷ xs) [] x y z p = absurd z
  zip_behind (v ∷ xs) (w ∷ ys) x y z p = (z.0, zip_behind xs ys x y z.1 p)

  record Behind (xs : List X) (x : X) (zs : List Y) : Type 0 where
    ys : List Y
    y : Y
    given : zs ≡ ys ++ y ∷ []
    zips : AllZip P xs ys
    last : P x y

  from_behind : (xs : List X) (x : X) (zs : List Y) → AllZip P (xs ++ x ∷ []) zs → Behind xs x zs
  from_behind [] x [] z = absurd z
  from_behind [] x (y ∷ []) z = record { ys = []; y = y; given = refl; zips = tt; last = z.0 }
  from_behind [] x (y ∷ w ∷ zs) z = absurd z.1
  from_behind (v ∷ xs) x [] z = absurd z
  from_behind (v ∷ xs) x (w ∷ zs) z =
      let r = from_behind xs x zs z.1 in
      record { ys = w ∷ r.ys; y = r.y; given = ap (λ ys. w ∷ ys) r.given; zips = (z.0, r.zips); last = r.last }

lists_behind : (paths : List CheckedPath) (t : List PathBinding) (p : CheckedPath) (b : PathBinding) → AllZip (λ q c. IsOf q c) paths t → lists_of (paths ++ p ∷ []) (t ++ b ∷ []) ≡ lists_of paths t ++ lists_of (p ∷ []) (b ∷ [])
lists_behind [] [] p b z = refl
lists_behind [] (c ∷ t) p b z = absurd z
lists_behind (q ∷ paths) [] p b z = absurd z
lists_behind (q ∷ paths) (c ∷ t) p b z = ap (λ ls. lists_with q.vars c.vars ++ ls) (lists_behind paths t p b z.1) ∙ sym (append_assoc (lists_with q.vars c.vars) (lists_of paths t) (lists_of (p ∷ []) (b ∷ [])))

-- bindings of kept lists are of their path patterns
of_each : (paths : List CheckedPath) (kept : List (List PathBinding)) (t : List PathBinding) → AllZip AreOf paths kept → AllZip (λ bindings b. Contains bindings b) kept t → AllZip (λ q c. IsOf q c) paths t
of_each [] [] [] a z = tt
of_each [] [] (b ∷ t) a z = absurd z
of_each [] (k ∷ kept) t a z = absurd a
of_each (p ∷ paths) [] t a z = absurd a
of_each (p ∷ paths) (k ∷ kept) [] a z = absurd z
of_each (p ∷ paths) (k ∷ kept) (b ∷ t) a z = (a.0.each b z.0, of_each paths kept t a.1 z.1)

-- THE JOIN

pub none_joined : AreJoined [] [] ([] ∷ [])
none_joined = record {
  distinct = (in_nil [], tt);
  exactly = λ t. (λ c. into t (in_one [] t c), λ z. out t z.0);
}
  where
    into : (t : List PathBinding) → [] ≡ t → AllZip (λ bindings b. Contains bindings b) [] t × ListsAgree (lists_of [] t)
    into t e = subst (λ u. AllZip (λ bindings b. Contains bindings b) [] u × ListsAgree (lists_of [] u)) e (tt, λ a c i j s. absurd (in_nil a i))

    out : (t : List PathBinding) → AllZip (λ bindings b. Contains bindings b) [] t → Contains ([] ∷ []) t
    out [] z = in_here [] [] [] refl
    out (b ∷ t) z = absurd z

module _ (paths : List CheckedPath) (kept : List (List PathBinding)) (tuples : List (List PathBinding)) (p : CheckedPath) (k : List PathBinding) (of : AllZip AreOf paths kept) (own : AreOf p k) (j : AreJoined paths kept tuples) where
  abbrev by : List PathBinding → List (List PathBinding)
  by t = longer_by (shared paths p) paths p k t

  abbrev test : List PathBinding → PathBinding → Bool
  test t b = agrees (shared paths p) paths t p b

  abbrev has : List PathBinding → PathBinding → Bool
  has t b = has_key (shared paths p) p (key_of (shared paths p) paths t) b

  record Made (t u : List PathBinding) : Type 0 where
    b : PathBinding
    given : longer t b ≡ u
    there : Contains k b
    agree : agrees (shared paths p) paths t p b ≡ true

  made : (t u : List PathBinding) → Contains (by t) u → Made t u
  made t u c =
      let m = from_map (longer t) (filter (test t) (down (has t) k)) u c in
      let f = in_filter (test t) (down (has t) k) m.0 m.1 in
      record { b = m.0; given = m.2; there = from_down (has t) k m.0 f.0; agree = f.1 }

  make : (t : List PathBinding) (b : PathBinding) → Contains k b → agrees (shared paths p) paths t p b ≡ true → Contains (by t) (longer t b)
  make t b c a = in_map (longer t) (filter (test t) (down (has t) k)) b (in_filtered (test t) (down (has t) k) b (in_down (has t) k b c (has_the_key (shared paths p) paths t p b a)) a)

  forth : (u : List PathBinding) → Contains (extended paths p k tuples) u → AllZip (λ bindings b. Contains bindings b) (kept ++ k ∷ []) u × ListsAgree (lists_of (paths ++ p ∷ []) u)
  forth u c =
      let f = from_flat_map by tuples u c in
      let t = f.0 in
      let m = made t u f.2 in
      let e = (j.exactly t).0 f.1 in
      let stand = of_each paths kept t of e.0 in
      let agree = agreeing paths t p m.b stand (own.each m.b m.there) e.1 m.agree in (
        subst (λ z. AllZip (λ bindings b. Contains bindings b) (kept ++ k ∷ []) z) m.given (zip_behind (λ bindings b. Contains bindings b) kept t k m.b e.0 m.there),
        subst (λ z. ListsAgree (lists_of (paths ++ p ∷ []) z)) m.given (subst ListsAgree (sym (lists_behind paths t p m.b stand)) agree),
      )

  back : (u : List PathBinding) → AllZip (λ bindings b. Contains bindings b) (kept ++ k ∷ []) u → ListsAgree (lists_of (paths ++ p ∷ []) u) → Contains (extended paths p k tuples) u
  back u z agree =
      let r = from_behind (λ (bindings : List PathBinding) b. Contains bindings b) kept k u z in
      let t = r.ys in
      let b = r.y in
      let stand = of_each paths kept t of r.zips in
      let all = subst ListsAgree (lists_behind paths t p b stand) (subst (λ w. ListsAgree (lists_of (paths ++ p ∷ []) w)) r.given agree) in
      let here = λ (a c : VarList) (i : Contains (lists_of paths t) a) (l : Contains (lists_of paths t) c). all a c (in_left (lists_of paths t) (lists_of (p ∷ []) (b ∷ [])) a i) (in_left (lists_of paths t) (lists_of (p ∷ []) (b ∷ [])) c l) in
      let there = (j.exactly t).1 (r.zips, here) in
      subst (λ w. Contains (extended paths p k tuples) w) (sym r.given) (in_flat by tuples t (longer t b) there (make t b r.last (agree_so paths t p b stand (own.each b r.last) all)))

  pub one_joined : AreJoined (paths ++ p ∷ []) (kept ++ k ∷ []) (extended paths p k tuples)
  one_joined = record {
    distinct = distinct_flat by tuples j.distinct
        (λ t c. distinct_map (longer t) (same_last t) (filter (test t) (down (has t) k)) (distinct_filtered (test t) (down (has t) k) (distinct_down (has t) k own.distinct)))
        (λ t w u a b. let m = made t u a in let n = made w u b in same_front t w m.b n.b (m.given ∙ sym n.given));
    exactly = λ u. (λ c. forth u c, λ h. back u h.0 h.1);
  }
