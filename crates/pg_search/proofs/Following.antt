-- The tests of a round by numbers are those of what the numbers stand for.
use Rattle.std.proofs.Common.{◌≡◌, ◌<◌, ◌==◌, ◌||◌, ◌&&◌, ◌-◌, ℕ, zero, suc, Bool, true, false, not, arith, List, [], ◌∷◌, ◌++◌, map, length, Contains, refl, ap, sym, ◌∙◌, subst, append_assoc, eq-eqb}
use Rattle.std.specs.Prelude.{Some, slice_get}
use Rattle.std.specs.Option.{unwrap_or}
use Rattle.std.specs.List.{list_any, list_all}
use Rattle.std.proofs.lemmas.Bool.{eqb-true}
use Rattle.std.proofs.lemmas.Cmp.{nat_eq_equiv}
use Rattle.pg_keyed.specs.Lists.{Each}
use Rattle.pg_value.specs.Graph.{same_elem}
use Rattle.pg_value.specs.Hashing.{one_elem}
use Rattle.pg_ast.specs.declared.pattern.Mode.{Mode}
use Rattle.pg_ast.specs.declared.pattern.Mode.TheVariants.{Walk, Trail, Acyclic, Simple}
use Rattle.pg_meaning.specs.Walks.{Hop}
use Rattle.pg_meaning.specs.Members.{in_here, in_there, in_right}
use Rattle.pg_auto.specs.Tests.{TestsTell, permits, may_follow, fits_mention, agrees}
use Rattle.pg_search.specs.declared.chains.Link.{Link}
use Rattle.pg_search.specs.Chains.{list_at, item_of, extended, is_first, is_second, is_other}
use Rattle.pg_search.specs.Numbers.{Numbers, AreNumbers, elem_at, hop_of, mention_of, hops_at}
use Rattle.pg_search.specs.Seen.{fits, agree, fit_all, may_follow_no}
use Rattle.pg_search.proofs.Numbers.{same_place, hops_extended, get_here}
use Rattle.pg_search.proofs.Naming.{last_of}
use Rattle.pg_search.proofs.Putting.{same_self}
use Rattle.pg_search.proofs.LinkedLists.{last_is}

module _ (n : Numbers) (are : AreNumbers n) where
  start_is : n.start ≡ elem_at n 0
  start_is = sym (ap (λ o. unwrap_or o n.start) are.first)

  -- elements are the same where their numbers are
  same_no : (k j : ℕ) → k < length n.elems → j < length n.elems → same_elem (elem_at n k) (elem_at n j) ≡ (j == k)
  same_no k j l m = go (j == k) refl (same_elem (elem_at n k) (elem_at n j)) refl
    where
      go : (b : Bool) → (j == k) ≡ b → (a : Bool) → same_elem (elem_at n k) (elem_at n j) ≡ a → same_elem (elem_at n k) (elem_at n j) ≡ b
      go true e a h = ap (λ i. same_elem (elem_at n k) (elem_at n i)) (eqb-true j k e) ∙ same_self (elem_at n k)
      go false e false h = h
      go false e true h = absurd (let same = same_place n.elems n.start k j are.elems l m (one_elem (elem_at n k) (elem_at n j) h) in let z : true ≡ false = sym (eq-eqb j k (sym same)) ∙ e in cc)

  any_edge : (k : ℕ) (items : List (ℕ × ℕ)) → k < length n.elems → ((x : ℕ × ℕ) → Contains items x → (x.0 < length n.elems) × (x.1 < length n.elems))
      → list_any (is_first k) items ≡ list_any (same_elem (elem_at n k)) (map (λ h. h.edge) (map (hop_of n) items))
  any_edge k [] l w = refl
  any_edge k (x ∷ xs) l w =
      let a = same_no k x.0 l (w x (in_here x xs x refl)).0 in
      let b = any_edge k xs l (λ y c. w y (in_there x xs y c)) in
      λ i. sym a i || b i

  any_to : (k : ℕ) (items : List (ℕ × ℕ)) → k < length n.elems → ((x : ℕ × ℕ) → Contains items x → (x.0 < length n.elems) × (x.1 < length n.elems))
      → list_any (is_second k) items ≡ list_any (same_elem (elem_at n k)) (map (λ h. h.to) (map (hop_of n) items))
  any_to k [] l w = refl
  any_to k (x ∷ xs) l w =
      let a = same_no k x.1 l (w x (in_here x xs x refl)).1 in
      let b = any_to k xs l (λ y c. w y (in_there x xs y c)) in
      λ i. sym a i || b i

  first_within : 0 < length n.elems
  first_within = get_here n.elems 0 n.start are.first

  follow_no : (mode : Mode) (walk : ℕ) (item : ℕ × ℕ) → item.0 < length n.elems → item.1 < length n.elems → may_follow_no mode (list_at n.walks walk) item ≡ may_follow mode n.start (hops_at n walk) (hop_of n item)
  follow_no Walk walk item e t = refl
  follow_no Trail walk item e t = ap not (any_edge item.0 (list_at n.walks walk) e (are.of_walks walk))
  follow_no Acyclic walk item e t =
      let a = nat_eq_equiv.symm item.1 0 ∙ sym (same_no item.1 0 t first_within) ∙ ap (same_elem (elem_at n item.1)) (sym start_is) in
      let b = any_to item.1 (list_at n.walks walk) t (are.of_walks walk) in
      λ i. not (a i || b i)
  follow_no Simple walk item e t =
      let a = any_to 0 (list_at n.walks walk) first_within (are.of_walks walk) ∙ ap (λ v. list_any (same_elem v) (map (λ h. h.to) (map (hop_of n) (list_at n.walks walk)))) (sym start_is) in
      let b = any_to item.1 (list_at n.walks walk) t (are.of_walks walk) in
      λ i. not (a i) && not (b i)

  -- ONE HOP MORE

  pub follow_on : TestsTell → (mode : Mode) (walk count : ℕ) (link : Link) → slice_get n.walks walk ≡ Some (extended n.walks link) → (count ≡ 0 → ⊥) → (r : Bool)
      → ((base hops : List Hop) → hops_at n link.before ≡ base ++ hops → length hops ≡ count - 1 → permits mode n.start base ≡ true → r ≡ permits mode n.start (base ++ hops))
      → (base hops : List Hop) → hops_at n walk ≡ base ++ hops → length hops ≡ count → permits mode n.start base ≡ true
      → (r && may_follow_no mode (list_at n.walks link.before) (item_of link)) ≡ permits mode n.start (base ++ hops)
  follow_on tell mode walk zero link h some r again base hops stands long fine = absurd (some refl)
  follow_on tell mode walk (suc count) link h some r again base hops stands long fine =
      ap (λ b. b && may_follow_no mode (list_at n.walks link.before) (item_of link)) front
      ∙ go (permits mode n.start (base ++ end.0)) refl
      ∙ ap (permits mode n.start) (append_assoc base end.0 (end.1 ∷ []) ∙ ap (λ hs. base ++ hs) (sym end.2))
    where
      end : (ys : List Hop) × (y : Hop) × (hops ≡ ys ++ y ∷ []) × (length ys ≡ count)
      end = last_of hops count long

      same : (base ++ end.0 ≡ hops_at n link.before) × (end.1 ≡ hop_of n (item_of link))
      same = last_is (base ++ end.0) (hops_at n link.before) end.1 (hop_of n (item_of link))
          (append_assoc base end.0 (end.1 ∷ []) ∙ ap (λ hs. base ++ hs) (sym end.2) ∙ sym stands ∙ hops_extended n walk link h)

      front : r ≡ permits mode n.start (base ++ end.0)
      front = again base end.0 (sym same.0) (let k = end.3 in omega arith) fine

      own : (link.first < length n.elems) × (link.second < length n.elems)
      own = are.of_walks walk (item_of link) (subst (λ xs. Contains xs (item_of link)) (sym (ap (λ o. unwrap_or o []) h)) (in_right (list_at n.walks link.before) (item_of link ∷ []) (item_of link) (in_here (item_of link) [] (item_of link) refl)))

      go : (b : Bool) → permits mode n.start (base ++ end.0) ≡ b → (b && may_follow_no mode (list_at n.walks link.before) (item_of link)) ≡ permits mode n.start ((base ++ end.0) ++ end.1 ∷ [])
      go true e =
          follow_no mode link.before (item_of link) own.0 own.1
          ∙ (λ i. may_follow mode n.start (sym same.0 i) (sym same.1 i))
          ∙ sym (tell.follows_tells mode n.start (base ++ end.0) end.1 e)
      go false e = not_yet (permits mode n.start ((base ++ end.0) ++ end.1 ∷ [])) refl
        where
          not_yet : (b : Bool) → permits mode n.start ((base ++ end.0) ++ end.1 ∷ []) ≡ b → false ≡ b
          not_yet false k = refl
          not_yet true k = absurd (let p = tell.fronts mode n.start (base ++ end.0) (end.1 ∷ []) ((tell.permits_tells mode n.start ((base ++ end.0) ++ end.1 ∷ [])).0 k) in
              let z : true ≡ false = sym ((tell.permits_tells mode n.start (base ++ end.0)).1 p) ∙ e in cc)

  -- AGREEMENT

  pub fits_no : (x y : ℕ × ℕ) → x.1 < length n.elems → y.1 < length n.elems → fits x y ≡ fits_mention (mention_of n x) (mention_of n y)
  fits_no x y l m = ap (λ b. not (x.0 == y.0) || b) (nat_eq_equiv.symm x.1 y.1 ∙ sym (same_no x.1 y.1 l m))

  all_fit : (x : ℕ × ℕ) (ys : List (ℕ × ℕ)) → x.1 < length n.elems → Each (λ m. m.1 < length n.elems) ys → list_all (fits x) ys ≡ list_all (fits_mention (mention_of n x)) (map (mention_of n) ys)
  all_fit x [] l w = refl
  all_fit x (y ∷ ys) l w = let a = fits_no x y l w.0 in let b = all_fit x ys l w.1 in λ i. a i && b i

  pub agree_no : (xs : List (ℕ × ℕ)) → Each (λ m. m.1 < length n.elems) xs → agree xs ≡ agrees (map (mention_of n) xs)
  agree_no [] w = refl
  agree_no (x ∷ xs) w = let a = all_fit x xs w.0 w.1 in let b = agree_no xs w.1 in λ i. a i && b i

  -- mentions before others: those agree, these agree, and each of these fits each of those
  cross : List (ℕ × ℕ) → List (ℕ × ℕ) → Bool
  cross xs ys = list_all (λ y. not (list_any (is_other y.0 y.1) xs)) ys

  cross_cons : (x : ℕ × ℕ) (xs ys : List (ℕ × ℕ)) → fit_all (x ∷ xs) ys ≡ (list_all (fits x) ys && fit_all xs ys)
  cross_cons x xs [] = refl
  cross_cons x xs (y ∷ ys) = (λ i. one i && cross_cons x xs ys i) ∙ mix (fits x y) (not (list_any (is_other y.0 y.1) xs)) (list_all (fits x) ys) (fit_all xs ys)
    where
      neither : (p q o : Bool) → not ((p && not q) || o) ≡ ((not p || q) && not o)
      neither true true o = refl
      neither true false o = refl
      neither false q o = refl

      one : not (list_any (is_other y.0 y.1) (x ∷ xs)) ≡ (fits x y && not (list_any (is_other y.0 y.1) xs))
      one = neither (x.0 == y.0) (x.1 == y.1) (list_any (is_other y.0 y.1) xs)

      mix : (a b c d : Bool) → ((a && b) && (c && d)) ≡ ((a && c) && (b && d))
      mix true true c d = refl
      mix true false true d = refl
      mix true false false d = refl
      mix false b c d = refl

  none_fit : (ys : List (ℕ × ℕ)) → fit_all [] ys ≡ true
  none_fit [] = refl
  none_fit (y ∷ ys) = none_fit ys

  all_append : (x : ℕ × ℕ) (xs ys : List (ℕ × ℕ)) → list_all (fits x) (xs ++ ys) ≡ (list_all (fits x) xs && list_all (fits x) ys)
  all_append x [] ys = refl
  all_append x (z ∷ zs) ys = ap (λ b. fits x z && b) (all_append x zs ys) ∙ regroup (fits x z) (list_all (fits x) zs) (list_all (fits x) ys)
    where
      regroup : (a b c : Bool) → (a && (b && c)) ≡ ((a && b) && c)
      regroup true b c = refl
      regroup false b c = refl

  pub agree_append : (xs ys : List (ℕ × ℕ)) → agree (xs ++ ys) ≡ (agree xs && (fit_all xs ys && agree ys))
  agree_append [] ys = sym (ap (λ b. b && agree ys) (none_fit ys))
  agree_append (x ∷ xs) ys =
      (λ i. all_append x xs ys i && agree_append xs ys i)
      ∙ mix (list_all (fits x) xs) (list_all (fits x) ys) (agree xs) (fit_all xs ys) (agree ys)
      ∙ ap (λ b. (list_all (fits x) xs && agree xs) && (b && agree ys)) (sym (cross_cons x xs ys))
    where
      mix : (a b c d e : Bool) → ((a && b) && (c && (d && e))) ≡ ((a && c) && ((b && d) && e))
      mix true true true d e = refl
      mix true true false d e = refl
      mix true false true d e = refl
      mix true false false d e = refl
      mix false b c d e = refl
