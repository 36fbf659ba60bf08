-- Lists that share their fronts are known by their links.
use Rattle.std.proofs.Common.{◌≡◌, ◌==◌, ◌&&◌, ◌||◌, Bool, true, false, Bor, eq-eqb, ◌+◌, ◌-◌, ◌<◌, ◌≤◌, ℕ, zero, suc, List, [], ◌∷◌, ◌++◌, length, Contains, ◌⊎◌, inl, inr, refl, arith, ap, sym, ◌∙◌, subst, length-append}
use Rattle.std.specs.Prelude.{Option, Some, None, IfSome, slice_get}
use Rattle.std.specs.Option.{unwrap_or, option_copied}
use Rattle.std.specs.List.{list_any}
use Rattle.std.proofs.lemmas.Bool.{eqb-true}
use Rattle.std.proofs.lemmas.Bool.Decides.{leb_tells}
use Rattle.pg_meaning.specs.Bindings.{Distinct}
use Rattle.pg_meaning.specs.Members.{in_nil, in_here, in_there, in_cons, in_one, distinct_append}
use Rattle.pg_search.specs.declared.chains.Link.{Link}
use Rattle.pg_search.specs.Chains.{list_at, item_of, extended, grown, lists_of, AreLinks, IsPushed}
use Rattle.pg_search.specs.Puts.{IsPut}

-- PLACES IN LISTS

module _ {X : Type 0} where
  get_front : (xs ys : List X) (k : ℕ) → k < length xs → slice_get (xs ++ ys) k ≡ slice_get xs k
  get_front [] ys k l = absurd (omega arith)
  get_front (x ∷ xs) ys zero l = refl
  get_front (x ∷ xs) ys (suc k) l = get_front xs ys k (omega arith)

  get_last : (xs : List X) (x : X) → slice_get (xs ++ x ∷ []) (length xs) ≡ Some x
  get_last [] x = refl
  get_last (y ∷ xs) x = get_last xs x

  pub get_within : (xs : List X) (k : ℕ) → k < length xs → (x : X) × (slice_get xs k ≡ Some x)
  get_within [] k l = absurd (omega arith)
  get_within (x ∷ xs) zero l = (x, refl)
  get_within (x ∷ xs) (suc k) l = get_within xs k (omega arith)

  within_get : (xs : List X) (k : ℕ) (x : X) → slice_get xs k ≡ Some x → k < length xs
  within_get [] k x h = absurd (cc)
  within_get (y ∷ ys) zero x h = omega arith
  within_get (y ∷ ys) (suc k) x h = let l = within_get ys k x h in omega arith

  pub get_in : (xs : List X) (k : ℕ) (x : X) → slice_get xs k ≡ Some x → Contains xs x
  get_in [] k x h = absurd (cc)
  get_in (y ∷ xs) zero x h = in_here y xs x (let same : y ≡ x = cc in same)
  get_in (y ∷ xs) (suc k) x h = in_there y xs x (get_in xs k x h)

  in_get : (xs : List X) (x : X) → Contains xs x → (k : ℕ) × (slice_get xs k ≡ Some x)
  in_get [] x c = absurd (in_nil x c)
  in_get (y ∷ xs) x c = elim (in_cons y xs x c) [ inl e ↦ (0, ap Some e) | inr r ↦ (let m = in_get xs x r in (suc m.0, m.1)) ]

  pub one_place : (xs : List X) (i j : ℕ) (x : X) → Distinct xs → slice_get xs i ≡ Some x → slice_get xs j ≡ Some x → i ≡ j
  one_place [] i j x d h k = absurd (cc)
  one_place (y ∷ xs) zero zero x d h k = refl
  one_place (y ∷ xs) zero (suc j) x d h k = absurd (d.0 (get_in xs j y (k ∙ sym h)))
  one_place (y ∷ xs) (suc i) zero x d h k = absurd (d.0 (get_in xs i y (h ∙ sym k)))
  one_place (y ∷ xs) (suc i) (suc j) x d h k = ap suc (one_place xs i j x d.1 h k)

  pub last_is : (xs ys : List X) (x y : X) → xs ++ x ∷ [] ≡ ys ++ y ∷ [] → (xs ≡ ys) × (x ≡ y)
  last_is [] [] x y h = (refl, let e : x ≡ y = cc in e)
  last_is [] (z ∷ []) x y h = absurd (cc)
  last_is [] (z ∷ w ∷ ys) x y h = absurd (cc)
  last_is (z ∷ []) [] x y h = absurd (cc)
  last_is (z ∷ w ∷ xs) [] x y h = absurd (cc)
  last_is (z ∷ xs) (w ∷ ys) x y h =
      let e : z ≡ w = cc in
      let r = last_is xs ys x y (let k : xs ++ x ∷ [] ≡ ys ++ y ∷ [] = cc in k) in
      ((λ i. e i ∷ r.0 i), r.1)

  not_nothing : (xs : List X) (x : X) → [] ≡ xs ++ x ∷ [] → ⊥
  not_nothing [] x h = cc
  not_nothing (y ∷ xs) x h = cc

some_is : {X : Type 0} (x y : X) → Some x ≡ Some y → x ≡ y
some_is x y h = cc

-- THE LISTS OF LINKS

abbrev Lists : Type 0
Lists = List (List (ℕ × ℕ))

length_grown : (lists : Lists) (links : List Link) → length (grown lists links) ≡ length lists + length links
length_grown lists [] = omega arith
length_grown lists (l ∷ links) = let h = length_grown (lists ++ extended lists l ∷ []) links in let k = length-append lists (extended lists l ∷ []) in omega arith

grown_append : (lists : Lists) (a b : List Link) → grown lists (a ++ b) ≡ grown (grown lists a) b
grown_append lists [] b = refl
grown_append lists (l ∷ a) b = grown_append (lists ++ extended lists l ∷ []) a b

-- what stands there stays
grown_get : (lists : Lists) (links : List Link) (k : ℕ) → k < length lists → slice_get (grown lists links) k ≡ slice_get lists k
grown_get lists [] k l = refl
grown_get lists (link ∷ links) k l =
    let m = length-append lists (extended lists link ∷ []) in
    grown_get (lists ++ extended lists link ∷ []) links k (omega arith) ∙ get_front lists (extended lists link ∷ []) k l

-- a link's list stands at its place
link_list : (lists : Lists) (links : List Link) (k : ℕ) (link : Link) → slice_get links k ≡ Some link → link.before < length lists + k → slice_get (grown lists links) (length lists + k) ≡ Some (extended (grown lists links) link)
link_list lists [] k link h l = absurd (cc)
link_list lists (m ∷ links) zero link h l =
    let same : m ≡ link = some_is m link h in
    let next = lists ++ extended lists m ∷ [] in
    let long = length-append lists (extended lists m ∷ []) in
    let front : slice_get (grown next links) link.before ≡ slice_get lists link.before = grown_get next links link.before (omega arith) ∙ get_front lists (extended lists m ∷ []) link.before (omega arith) in
    ap (slice_get (grown next links)) (let z : length lists + 0 ≡ length lists = omega arith in z) ∙ grown_get next links (length lists) (omega arith) ∙ get_last lists (extended lists m)
    ∙ ap (λ (x : Link). Some (extended lists x)) same ∙ ap (λ (o : Option (List (ℕ × ℕ))). Some (unwrap_or o [] ++ item_of link ∷ [])) (sym front)
link_list lists (m ∷ links) (suc k) link h l =
    let next = lists ++ extended lists m ∷ [] in
    let long = length-append lists (extended lists m ∷ []) in
    ap (slice_get (grown next links)) (let z : length lists + suc k ≡ length next + k = omega arith in z) ∙ link_list next links k link h (omega arith)

one_front : (o p : Option (List (ℕ × ℕ))) (x y : List (ℕ × ℕ)) → o ≡ Some x → p ≡ Some y → unwrap_or o [] ≡ unwrap_or p [] → x ≡ y
one_front o p x y h k e = sym (ap (λ (z : Option (List (ℕ × ℕ))). unwrap_or z []) h) ∙ e ∙ ap (λ (z : Option (List (ℕ × ℕ))). unwrap_or z []) k

module _ (links : List Link) (a : AreLinks links) where
  own_list : (k : ℕ) (link : Link) → slice_get links k ≡ Some link → slice_get (lists_of links) (1 + k) ≡ Some (extended (lists_of links) link)
  own_list k link h = link_list ([] ∷ []) links k link h (let e = a.earlier k link h in omega arith)

  -- an item behind a list is a new list where its link is new
  fresh : (link : Link) → link.before < length (lists_of links) → (Contains links link → ⊥) → Contains (lists_of links) (extended (lists_of links) link) → ⊥
  fresh link l new c = go (in_get (lists_of links) (extended (lists_of links) link) c).0 (in_get (lists_of links) (extended (lists_of links) link) c).1
    where
      go : (k : ℕ) → slice_get (lists_of links) k ≡ Some (extended (lists_of links) link) → ⊥
      go zero h =
          let first : slice_get (lists_of links) 0 ≡ Some [] = grown_get ([] ∷ []) links 0 (omega arith) in
          not_nothing (list_at (lists_of links) link.before) (item_of link) (some_is [] (extended (lists_of links) link) (sym first ∙ h))
      go (suc j) h =
          let within = within_get (lists_of links) (suc j) (extended (lists_of links) link) h in
          let long = length_grown ([] ∷ []) links in
          let m = get_within links j (omega arith) in
          let own = own_list j m.0 m.1 in
          let place : slice_get (lists_of links) (1 + j) ≡ slice_get (lists_of links) (suc j) = ap (slice_get (lists_of links)) (let z : 1 + j ≡ suc j = omega arith in z) in
          let same = some_is (extended (lists_of links) m.0) (extended (lists_of links) link) (sym own ∙ place ∙ h) in
          let parts = last_is (list_at (lists_of links) m.0.before) (list_at (lists_of links) link.before) (item_of m.0) (item_of link) same in
          let mine = get_within (lists_of links) m.0.before (let e = a.earlier j m.0 m.1 in omega arith) in
          let his = get_within (lists_of links) link.before l in
          let fronts = one_front (slice_get (lists_of links) m.0.before) (slice_get (lists_of links) link.before) mine.0 his.0 mine.1 his.1 parts.0 in
          let before = one_place (lists_of links) m.0.before link.before his.0 a.distinct (mine.1 ∙ ap Some fronts) his.1 in
          let first = ap (λ (p : ℕ × ℕ). p.0) parts.1 in
          let second = ap (λ (p : ℕ × ℕ). p.1) parts.1 in
          let one : m.0 ≡ link = λ i. record { before = before i; first = first i; second = second i } in
          new (subst (λ z. Contains links z) one (get_in links j m.0 m.1))

pub put_links : (links : List Link) (link : Link) (more : List Link) → AreLinks links → link.before < length (lists_of links) → IsPut links link more → AreLinks more
put_links links link more a l (inl p) = subst AreLinks (sym p.0) a
put_links links link more a l (inr p) = subst AreLinks (sym p.0) (record { earlier = earlier; distinct = distinct })
  where
    earlier : (k : ℕ) (m : Link) → slice_get (links ++ link ∷ []) k ≡ Some m → m.before ≤ k
    earlier k m h = elim (leb_tells (length links) k) [
      | inl x ↦ (let w = within_get (links ++ link ∷ []) k m h in
          let n = length-append links (link ∷ []) in
          let long = length_grown ([] ∷ []) links in
          let here : k ≡ length links = (let y = x.1 in omega arith) in
          let same : link ≡ m = some_is link m (sym (get_last links link) ∙ ap (slice_get (links ++ link ∷ [])) (sym here) ∙ h) in
          let b = ap (λ (z : Link). z.before) same in omega arith)
      | inr x ↦ a.earlier k m (sym (get_front links (link ∷ []) k x.1) ∙ h)
    ]

    distinct : Distinct (lists_of (links ++ link ∷ []))
    distinct = subst Distinct (sym (grown_append ([] ∷ []) links (link ∷ [])))
        (distinct_append (lists_of links) (extended (lists_of links) link ∷ []) a.distinct (in_nil (extended (lists_of links) link), tt)
        (λ x c d. fresh links a link l p.1 (subst (λ z. Contains (lists_of links) z) (sym (in_one (extended (lists_of links) link) x d)) c)))

pub pushed : (links : List Link) (link : Link) (more : List Link) (k : ℕ) → AreLinks links → link.before < length (lists_of links) → IsPut links link more → slice_get more k ≡ Some link
    → IsPushed (lists_of links) link.before (item_of link) (k + 1) (lists_of more)
pushed links link more k a l p h = record { there = at_place; grows = grows p }
  where
    grows : IsPut links link more → (lists_of more ≡ lists_of links) ⊎ (lists_of more ≡ lists_of links ++ extended (lists_of links) link ∷ [])
    grows (inl q) = inl (ap lists_of q.0)
    grows (inr q) = inr (ap lists_of q.0 ∙ grown_append ([] ∷ []) links (link ∷ []))

    front : IsPut links link more → slice_get (lists_of more) link.before ≡ slice_get (lists_of links) link.before
    front (inl q) = ap (λ ls. slice_get (lists_of ls) link.before) q.0
    front (inr q) = ap (λ ls. slice_get (lists_of ls) link.before) q.0 ∙ ap (λ ls. slice_get ls link.before) (grown_append ([] ∷ []) links (link ∷ [])) ∙ get_front (lists_of links) (extended (lists_of links) link ∷ []) link.before l

    at_place : slice_get (lists_of more) (k + 1) ≡ Some (extended (lists_of links) link)
    at_place =
        ap (slice_get (lists_of more)) (let z : k + 1 ≡ 1 + k = omega arith in z) ∙ own_list more (put_links links link more a l p) k link h
        ∙ ap (λ (o : Option (List (ℕ × ℕ))). Some (unwrap_or o [] ++ item_of link ∷ [])) (front p)

-- WHAT CALLS GIVE

-- a list's link
pub link_of : (links : List Link) (lists : Lists) (n : ℕ) (o : Option (Bor Link)) → lists_of links ≡ lists → AreLinks links → (n ≡ 0 → ⊥) → option_copied o ≡ slice_get links (n - 1)
    → IfSome o (λ link. (link.now.before < n) × (slice_get lists n ≡ Some (extended lists link.now)))
link_of links lists n None e a ne h = tt
link_of links lists n (Some link) e a ne h =
    let get : slice_get links (n - 1) ≡ Some link.now = sym h in
    let before = a.earlier (n - 1) link.now get in
    subst (λ (ls : Lists). (link.now.before < n) × (slice_get ls n ≡ Some (extended ls link.now))) e
    (omega arith, ap (slice_get (lists_of links)) (let z : n ≡ 1 + (n - 1) = omega arith in z) ∙ own_list links a (n - 1) link.now get)

pub first_list : (links : List Link) (lists : Lists) (n : ℕ) → lists_of links ≡ lists → n ≡ 0 → slice_get lists n ≡ Some []
first_list links lists n e z = subst (λ (ls : Lists). slice_get ls n ≡ Some []) e (ap (slice_get (lists_of links)) z ∙ grown_get ([] ∷ []) links 0 (omega arith))

pub long_as : (links : List Link) (lists : Lists) (n : ℕ) → lists_of links ≡ lists → n < length lists → (n ≡ 0 → ⊥) → n - 1 < length links
long_as links lists n e l ne = let k = length_grown ([] ∷ []) links in let m = ap length e in omega arith

pub same_link : (a b : Link) → ((a.before == b.before) && ((a.first == b.first) && (a.second == b.second))) ≡ true → a ≡ b
same_link a b h = go (a.before == b.before) (a.first == b.first) (a.second == b.second) refl refl refl h
  where
    go : (p q r : Bool) → (a.before == b.before) ≡ p → (a.first == b.first) ≡ q → (a.second == b.second) ≡ r → (p && (q && r)) ≡ true → a ≡ b
    go true true true e f g h = let x = eqb-true a.before b.before e in let y = eqb-true a.first b.first f in let z = eqb-true a.second b.second g in λ i. record { before = x i; first = y i; second = z i }
    go true true false e f g h = absurd (cc)
    go true false r e f g h = absurd (cc)
    go false q r e f g h = absurd (cc)

pub self_link : (a : Link) → ((a.before == a.before) && ((a.first == a.first) && (a.second == a.second))) ≡ true
self_link a = all (a.before == a.before) (a.first == a.first) (a.second == a.second) (eq-eqb a.before a.before refl) (eq-eqb a.first a.first refl) (eq-eqb a.second a.second refl)
  where
    all : (p q r : Bool) → p ≡ true → q ≡ true → r ≡ true → (p && (q && r)) ≡ true
    all p q r e f g = cc

-- GOING BACK THROUGH A LIST

any_last : {X : Type 0} (test : X → Bool) (xs : List X) (x : X) → list_any test (xs ++ x ∷ []) ≡ (list_any test xs || test x)
any_last test [] x = or_none (test x)
  where
    or_none : (b : Bool) → (b || false) ≡ b
    or_none true = refl
    or_none false = refl
any_last test (y ∷ xs) x = go (test y) (any_last test xs x)
  where
    go : (b : Bool) → list_any test (xs ++ x ∷ []) ≡ (list_any test xs || test x) → (b || list_any test (xs ++ x ∷ [])) ≡ ((b || list_any test xs) || test x)
    go true h = refl
    go false h = h

-- a list has such an item where its front has one, or its last item is one
pub any_back : (lists : Lists) (n : ℕ) (link : Link) (test : ℕ × ℕ → Bool) → slice_get lists n ≡ Some (extended lists link) → list_any test (list_at lists n) ≡ (list_any test (list_at lists link.before) || test (item_of link))
any_back lists n link test h = ap (λ (o : Option (List (ℕ × ℕ))). list_any test (unwrap_or o [])) h ∙ any_last test (list_at lists link.before) (item_of link)

or_true : (a : Bool) → (a || true) ≡ true
or_true true = refl
or_true false = refl

or_false : (a : Bool) → (a || false) ≡ a
or_false true = refl
or_false false = refl

pub any_found : (lists : Lists) (n : ℕ) (link : Link) (test : ℕ × ℕ → Bool) → slice_get lists n ≡ Some (extended lists link) → test (item_of link) ≡ true → list_any test (list_at lists n) ≡ true
any_found lists n link test h t = any_back lists n link test h ∙ ap (λ b. list_any test (list_at lists link.before) || b) t ∙ or_true (list_any test (list_at lists link.before))

pub any_before : (lists : Lists) (n : ℕ) (link : Link) (test : ℕ × ℕ → Bool) → slice_get lists n ≡ Some (extended lists link) → test (item_of link) ≡ false → list_any test (list_at lists n) ≡ list_any test (list_at lists link.before)
any_before lists n link test h t = any_back lists n link test h ∙ ap (λ b. list_any test (list_at lists link.before) || b) t ∙ or_false (list_any test (list_at lists link.before))
