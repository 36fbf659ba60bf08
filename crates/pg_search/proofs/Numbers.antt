-- What numbers stand for: elements, walks as lists of an edge and a vertex, mentions as lists of a variable and an element, and states.
-- Different numbers stand for different things, and go on standing for the same where more come behind them.
use Rattle.std.proofs.Common.{◌≡◌, ◌<◌, ◌⊎◌, zero, suc, arith, ℕ, List, [], ◌∷◌, ◌++◌, map, length, Contains, inl, inr, refl, ap, sym, ◌∙◌, subst}
use Rattle.std.specs.Prelude.{◌≤◌, Option, Some, slice_get}
use Rattle.std.specs.Option.{unwrap_or}
use Rattle.pg_value.specs.declared.shape.ElemId.{ElemId}
use Rattle.pg_meaning.specs.Walks.{Hop, last_vertex}
use Rattle.pg_meaning.specs.Fits.{Mention}
use Rattle.pg_meaning.specs.Bindings.{Distinct}
use Rattle.pg_meaning.specs.Members.{in_nil, in_one, in_append, in_right, in_here, in_there, in_map, from_map}
use Rattle.pg_auto.specs.States.{State}
use Rattle.pg_search.specs.declared.states.Kept.{Kept}
use Rattle.pg_search.specs.declared.chains.Link.{Link}
use Rattle.pg_search.specs.Chains.{list_at, item_of, extended, IsPushed}
use Rattle.pg_search.specs.Numbers.{Numbers, AreNumbers, IsWithin, Grow, elem_at, hop_of, mention_of, hops_at, mentions_at, state_of, first_numbers}
use Rattle.pg_search.specs.Steps.{IsNumbered, IsLonger, IsNamed}
use Rattle.pg_search.specs.Puts.{IsPut}
use Rattle.pg_search.proofs.LinkedLists.{get_within, one_place}
use Rattle.pg_search.proofs.Putting.{distinct_put}

-- DIFFERENT NUMBERS STAND FOR DIFFERENT THINGS

-- in a list without doubles, one item has one place
pub same_place : {X : Type 0} (xs : List X) (d : X) (i j : ℕ) → Distinct xs → i < length xs → j < length xs → unwrap_or (slice_get xs i) d ≡ unwrap_or (slice_get xs j) d → i ≡ j
same_place {X = X} xs d i j apart l m e =
    let x = get_within xs i l in
    let y = get_within xs j m in
    let same = front (slice_get xs i) (slice_get xs j) x.0 y.0 x.1 y.1 e in
    one_place xs i j y.0 apart (x.1 ∙ ap Some same) y.1
  where
    front : (o p : Option X) (x y : X) → o ≡ Some x → p ≡ Some y → unwrap_or o d ≡ unwrap_or p d → x ≡ y
    front o p x y h k e = sym (ap (λ z. unwrap_or z d) h) ∙ e ∙ ap (λ z. unwrap_or z d) k

-- lists of items that stand for the same are the same
same_items : {X Y : Type 0} (f : X → Y) (xs ys : List X) → ((x y : X) → Contains xs x → Contains ys y → f x ≡ f y → x ≡ y) → map f xs ≡ map f ys → xs ≡ ys
same_items f [] [] h e = refl
same_items f [] (y ∷ ys) h e = absurd (cc)
same_items f (x ∷ xs) [] h e = absurd (cc)
same_items f (x ∷ xs) (y ∷ ys) h e =
    let first = h x y (in_here x xs x refl) (in_here y ys y refl) (let k : f x ≡ f y = cc in k) in
    let rest = same_items f xs ys (λ a b c d. h a b (in_there x xs a c) (in_there y ys b d)) (let k : map f xs ≡ map f ys = cc in k) in
    λ i. first i ∷ rest i

module _ (n : Numbers) (are : AreNumbers n) where
  pub same_hops : (i j : ℕ) → i < length n.walks → j < length n.walks → hops_at n i ≡ hops_at n j → i ≡ j
  same_hops i j l m e = same_place n.walks [] i j are.walks l m (same_items (hop_of n) (list_at n.walks i) (list_at n.walks j) (λ x y c d k.
      let p = are.of_walks i x c in
      let q = are.of_walks j y d in
      let edge = same_place n.elems n.start x.0 y.0 are.elems p.0 q.0 (ap (λ (h : Hop). h.edge) k) in
      let to = same_place n.elems n.start x.1 y.1 are.elems p.1 q.1 (ap (λ (h : Hop). h.to) k) in
      λ t. (edge t, to t)) e)

  pub same_mentions : (i j : ℕ) → i < length n.names → j < length n.names → mentions_at n i ≡ mentions_at n j → i ≡ j
  same_mentions i j l m e = same_place n.names [] i j are.names l m (same_items (mention_of n) (list_at n.names i) (list_at n.names j) (λ x y c d k.
      let var = ap (λ (z : Mention). z.var) k in
      let elem = same_place n.elems n.start x.1 y.1 are.elems (are.of_names i x c) (are.of_names j y d) (ap (λ (z : Mention). z.elem) k) in
      λ t. (var t, elem t)) e)

  pub same_states : (a b : Kept) → IsWithin n a → IsWithin n b → state_of n a ≡ state_of n b → a ≡ b
  same_states a b x y e =
      let stage = ap (λ (s : State). s.stage) e in
      let done = ap (λ (s : State). s.done) e in
      let walk = same_hops a.walk b.walk x.walk y.walk (ap (λ (s : State). s.hops) e) in
      let singles = same_mentions a.singles b.singles x.singles y.singles (ap (λ (s : State). s.singles) e) in
      let groups = same_mentions a.groups b.groups x.groups y.groups (ap (λ (s : State). s.groups) e) in
      λ i. record { stage = stage i; done = done i; walk = walk i; singles = singles i; groups = groups i }

  map_append : (xs ys : List Kept) → map (state_of n) (xs ++ ys) ≡ map (state_of n) xs ++ map (state_of n) ys
  map_append [] ys = refl
  map_append (x ∷ xs) ys = ap (λ zs. state_of n x ∷ zs) (map_append xs ys)

  -- a state is put where its numbers are
  pub put_states : (all : List Kept) (a : Kept) (more : List Kept) → ((b : Kept) → Contains all b → IsWithin n b) → IsWithin n a → IsPut all a more → IsPut (map (state_of n) all) (state_of n a) (map (state_of n) more)
  put_states all a more within own (inl p) = inl (ap (map (state_of n)) p.0, in_map (state_of n) all a p.1)
  put_states all a more within own (inr p) = inr (
    ap (map (state_of n)) p.0 ∙ map_append all (a ∷ []),
    λ c. let m = from_map (state_of n) all (state_of n a) c in p.1 (subst (λ z. Contains all z) (same_states m.0 a (within m.0 m.1) own m.2) m.1),
  )

-- MORE NUMBERS

map_alike : {X Y : Type 0} (f h : X → Y) (xs : List X) → ((x : X) → Contains xs x → f x ≡ h x) → map f xs ≡ map h xs
map_alike f h [] e = refl
map_alike f h (x ∷ xs) e = let first = e x (in_here x xs x refl) in let rest = map_alike f h xs (λ y c. e y (in_there x xs y c)) in λ i. first i ∷ rest i

-- those that were there stay what they were, as lists of numbers
pub record Keep (n m : Numbers) : Type 0 where
  pub start : m.start ≡ n.start
  pub elems : (k : ℕ) → k < length n.elems → slice_get m.elems k ≡ slice_get n.elems k
  pub walks : (k : ℕ) → k < length n.walks → slice_get m.walks k ≡ slice_get n.walks k
  pub names : (k : ℕ) → k < length n.names → slice_get m.names k ≡ slice_get n.names k
  pub more_elems : length n.elems ≤ length m.elems
  pub more_walks : length n.walks ≤ length m.walks
  pub more_names : length n.names ≤ length m.names

module _ (n m : Numbers) (are : AreNumbers n) (keep : Keep n m) where
  elem_stays : (k : ℕ) → k < length n.elems → elem_at m k ≡ elem_at n k
  elem_stays k l = λ i. unwrap_or (keep.elems k l i) (keep.start i)

  hops_stay : (k : ℕ) → k < length n.walks → hops_at m k ≡ hops_at n k
  hops_stay k l = ap (λ (o : Option (List (ℕ × ℕ))). map (hop_of m) (unwrap_or o [])) (keep.walks k l)
      ∙ map_alike (hop_of m) (hop_of n) (list_at n.walks k) (λ x c. let w = are.of_walks k x c in let e = elem_stays x.0 w.0 in let v = elem_stays x.1 w.1 in λ i. record { edge = e i; to = v i })

  mentions_stay : (k : ℕ) → k < length n.names → mentions_at m k ≡ mentions_at n k
  mentions_stay k l = ap (λ (o : Option (List (ℕ × ℕ))). map (mention_of m) (unwrap_or o [])) (keep.names k l)
      ∙ map_alike (mention_of m) (mention_of n) (list_at n.names k) (λ x c. let e = elem_stays x.1 (are.of_names k x c) in λ i. record { var = x.0; elem = e i })

  pub grow_of : Grow n m
  grow_of = record {
    start = keep.start;
    more_elems = keep.more_elems;
    more_walks = keep.more_walks;
    more_names = keep.more_names;
    elems = elem_stays;
    hops = hops_stay;
    mentions = mentions_stay;
  }

pub grow_none : (n : Numbers) → Grow n n
grow_none n = record { start = refl; more_elems = omega arith; more_walks = omega arith; more_names = omega arith; elems = λ k l. refl; hops = λ k l. refl; mentions = λ k l. refl }

pub grow_on : (n m l : Numbers) → Grow n m → Grow m l → Grow n l
grow_on n m l g h = record {
  start = h.start ∙ g.start;
  more_elems = let a = g.more_elems in let b = h.more_elems in omega arith;
  more_walks = let a = g.more_walks in let b = h.more_walks in omega arith;
  more_names = let a = g.more_names in let b = h.more_names in omega arith;
  elems = λ k w. h.elems k (let a = g.more_elems in omega arith) ∙ g.elems k w;
  hops = λ k w. h.hops k (let a = g.more_walks in omega arith) ∙ g.hops k w;
  mentions = λ k w. h.mentions k (let a = g.more_names in omega arith) ∙ g.mentions k w;
}

pub state_stays : (n m : Numbers) → Grow n m → (a : Kept) → IsWithin n a → state_of m a ≡ state_of n a
state_stays n m grow a w =
    let hops = grow.hops a.walk w.walk in
    let singles = grow.mentions a.singles w.singles in
    let groups = grow.mentions a.groups w.groups in
    λ i. record { stage = a.stage; done = a.done; at = last_vertex (grow.start i) (hops i); hops = hops i; singles = singles i; groups = groups i }

pub within_stays : (n m : Numbers) → Grow n m → (a : Kept) → IsWithin n a → IsWithin m a
within_stays n m grow a w = record {
  walk = let x = w.walk in let y = grow.more_walks in omega arith;
  singles = let x = w.singles in let y = grow.more_names in omega arith;
  groups = let x = w.groups in let y = grow.more_names in omega arith;
}

-- WHAT IS PUT

-- a list with an item behind it
front_get : {X : Type 0} (xs : List X) (x : X) (k : ℕ) → k < length xs → slice_get (xs ++ x ∷ []) k ≡ slice_get xs k
front_get [] x k l = absurd (omega arith)
front_get (y ∷ ys) x zero l = refl
front_get (y ∷ ys) x (suc k) l = front_get ys x k (omega arith)

longer_list : {X : Type 0} (xs : List X) (x : X) → length xs ≤ length (xs ++ x ∷ [])
longer_list [] x = omega arith
longer_list (y ∷ ys) x = let l = longer_list ys x in omega arith

-- an item of a list that was, or of the one behind them
list_of : (xs : List (List (ℕ × ℕ))) (x : List (ℕ × ℕ)) (k : ℕ) (item : ℕ × ℕ) → Contains (list_at (xs ++ x ∷ []) k) item → Contains (list_at xs k) item ⊎ Contains x item
list_of [] x zero item c = inr c
list_of [] x (suc k) item c = absurd (in_nil item c)
list_of (y ∷ ys) x zero item c = inl c
list_of (y ∷ ys) x (suc k) item c = list_of ys x k item c

pub get_here : {X : Type 0} (xs : List X) (k : ℕ) (x : X) → slice_get xs k ≡ Some x → k < length xs
get_here [] k x h = absurd (cc)
get_here (y ∷ ys) zero x h = omega arith
get_here (y ∷ ys) (suc k) x h = let l = get_here ys k x h in omega arith

map_push : {X Y : Type 0} (f : X → Y) (xs : List X) (x : X) → map f (xs ++ x ∷ []) ≡ map f xs ++ f x ∷ []
map_push f [] x = refl
map_push f (y ∷ ys) x = ap (λ zs. f y ∷ zs) (map_push f ys x)

abbrev pub with_elems : Numbers → List ElemId → Numbers
with_elems n elems = record { start = n.start; elems = elems; walks = n.walks; names = n.names }

abbrev pub with_walks : Numbers → List (List (ℕ × ℕ)) → Numbers
with_walks n walks = record { start = n.start; elems = n.elems; walks = walks; names = n.names }

abbrev pub with_names : Numbers → List (List (ℕ × ℕ)) → Numbers
with_names n names = record { start = n.start; elems = n.elems; walks = n.walks; names = names }

module _ (n : Numbers) (are : AreNumbers n) where
  keep_elems : (elem : ElemId) (more : List ElemId) → IsPut n.elems elem more → (k : ℕ) → k < length n.elems → slice_get more k ≡ slice_get n.elems k
  keep_elems elem more (inl p) k l = ap (λ xs. slice_get xs k) p.0
  keep_elems elem more (inr p) k l = ap (λ xs. slice_get xs k) p.0 ∙ front_get n.elems elem k l

  more_put : (elem : ElemId) (more : List ElemId) → IsPut n.elems elem more → length n.elems ≤ length more
  more_put elem more (inl p) = let e = ap length p.0 in omega arith
  more_put elem more (inr p) = let e = ap length p.0 in let l = longer_list n.elems elem in omega arith

  pub put_elem : (elem : ElemId) (more : List ElemId) → IsPut n.elems elem more → AreNumbers (with_elems n more)
  put_elem elem more p = record {
    first = keep_elems elem more p 0 (get_here n.elems 0 n.start are.first) ∙ are.first;
    elems = distinct_put n.elems elem more p are.elems;
    walks = are.walks;
    names = are.names;
    of_walks = λ k item c. let w = are.of_walks k item c in let l = more_put elem more p in ((let x = w.0 in omega arith), (let x = w.1 in omega arith));
    of_names = λ k item c. let w = are.of_names k item c in let l = more_put elem more p in omega arith;
  }

  pub numbered : (elem : ElemId) (more : List ElemId) (k : ℕ) → IsPut n.elems elem more → slice_get more k ≡ Some elem → IsNumbered n elem k (with_elems n more)
  numbered elem more k p h = record {
    grow = grow_of n (with_elems n more) are (record {
      start = refl;
      elems = keep_elems elem more p;
      walks = λ j l. refl;
      names = λ j l. refl;
      more_elems = more_put elem more p;
      more_walks = omega arith;
      more_names = omega arith;
    });
    within = get_here more k elem h;
    stands = ap (λ o. unwrap_or o n.start) h;
  }

  -- lists of items whose numbers are within
  within_pushed : (lists more : List (List (ℕ × ℕ))) (before : ℕ) (item : ℕ × ℕ) (k : ℕ) (P : ℕ × ℕ → Type 0) → ((j : ℕ) (x : ℕ × ℕ) → Contains (list_at lists j) x → P x) → P item → IsPushed lists before item k more
      → (j : ℕ) (x : ℕ × ℕ) → Contains (list_at more j) x → P x
  within_pushed lists more before item k P old own p = go p.grows
    where
      own_list : (x : ℕ × ℕ) → Contains (list_at lists before ++ item ∷ []) x → P x
      own_list x c = elim (in_append (list_at lists before) (item ∷ []) x c) [ inl a ↦ old before x a | inr b ↦ subst P (in_one item x b) own ]

      go : (more ≡ lists) ⊎ (more ≡ lists ++ (list_at lists before ++ item ∷ []) ∷ []) → (j : ℕ) (x : ℕ × ℕ) → Contains (list_at more j) x → P x
      go (inl e) j x c = old j x (subst (λ ls. Contains (list_at ls j) x) e c)
      go (inr e) j x c = elim (list_of lists (list_at lists before ++ item ∷ []) j x (subst (λ ls. Contains (list_at ls j) x) e c)) [ inl a ↦ old j x a | inr b ↦ own_list x b ]

  keep_pushed : (lists more : List (List (ℕ × ℕ))) (before : ℕ) (item : ℕ × ℕ) (k : ℕ) → IsPushed lists before item k more → ((j : ℕ) → j < length lists → slice_get more j ≡ slice_get lists j) × (length lists ≤ length more)
  keep_pushed lists more before item k p = go p.grows
    where
      go : (more ≡ lists) ⊎ (more ≡ lists ++ (list_at lists before ++ item ∷ []) ∷ []) → ((j : ℕ) → j < length lists → slice_get more j ≡ slice_get lists j) × (length lists ≤ length more)
      go (inl e) = (λ j l. ap (λ ls. slice_get ls j) e, let h = ap length e in omega arith)
      go (inr e) = (λ j l. ap (λ ls. slice_get ls j) e ∙ front_get lists (list_at lists before ++ item ∷ []) j l, let h = ap length e in let l = longer_list lists (list_at lists before ++ item ∷ []) in omega arith)

  pub push_walk : (walk edge to k : ℕ) (more : List (List (ℕ × ℕ))) → edge < length n.elems → to < length n.elems → IsPushed n.walks walk (edge, to) k more → Distinct more → AreNumbers (with_walks n more)
  push_walk walk edge to k more e t p d = record {
    first = are.first;
    elems = are.elems;
    walks = d;
    names = are.names;
    of_walks = within_pushed n.walks more walk (edge, to) k (λ x. (x.0 < length n.elems) × (x.1 < length n.elems)) are.of_walks (e, t) p;
    of_names = are.of_names;
  }

  pub longer_walk : (walk edge to k : ℕ) (more : List (List (ℕ × ℕ))) → IsPushed n.walks walk (edge, to) k more → IsLonger n walk (hop_of n (edge, to)) k (with_walks n more)
  longer_walk walk edge to k more p =
      let keep = keep_pushed n.walks more walk (edge, to) k p in record {
        grow = grow_of n (with_walks n more) are (record { start = refl; elems = λ j l. refl; walks = keep.0; names = λ j l. refl; more_elems = omega arith; more_walks = keep.1; more_names = omega arith });
        within = get_here more k (list_at n.walks walk ++ (edge, to) ∷ []) p.there;
        stands = ap (λ o. map (hop_of n) (unwrap_or o [])) p.there ∙ map_push (hop_of n) (list_at n.walks walk) (edge, to);
      }

  pub push_name : (names var elem k : ℕ) (more : List (List (ℕ × ℕ))) → elem < length n.elems → IsPushed n.names names (var, elem) k more → Distinct more → AreNumbers (with_names n more)
  push_name names var elem k more e p d = record {
    first = are.first;
    elems = are.elems;
    walks = are.walks;
    names = d;
    of_walks = are.of_walks;
    of_names = within_pushed n.names more names (var, elem) k (λ x. x.1 < length n.elems) are.of_names e p;
  }

  pub named : (names var elem k : ℕ) (more : List (List (ℕ × ℕ))) → IsPushed n.names names (var, elem) k more → IsNamed n names ((var, elem) ∷ []) k (with_names n more)
  named names var elem k more p =
      let keep = keep_pushed n.names more names (var, elem) k p in record {
        grow = grow_of n (with_names n more) are (record { start = refl; elems = λ j l. refl; walks = λ j l. refl; names = keep.0; more_elems = omega arith; more_walks = omega arith; more_names = keep.1 });
        within = get_here more k (list_at n.names names ++ (var, elem) ∷ []) p.there;
        stands = ap (λ o. map (mention_of n) (unwrap_or o [])) p.there ∙ map_push (mention_of n) (list_at n.names names) (var, elem);
      }

-- where a walk ends
last_push : (v : ElemId) (hops : List Hop) (hop : Hop) → last_vertex v (hops ++ hop ∷ []) ≡ hop.to
last_push v [] hop = refl
last_push v (h ∷ hs) hop = last_push h.to hs hop

pub last_within : (n : Numbers) → AreNumbers n → (walk : ℕ) (link : Link) → slice_get n.walks walk ≡ Some (extended n.walks link) → link.second < length n.elems
last_within n are walk link h = (are.of_walks walk (item_of link) (subst (λ xs. Contains xs (item_of link)) (sym (ap (λ o. unwrap_or o []) h)) (in_right (list_at n.walks link.before) (item_of link ∷ []) (item_of link) (in_here (item_of link) [] (item_of link) refl)))).1

pub hops_extended : (n : Numbers) (walk : ℕ) (link : Link) → slice_get n.walks walk ≡ Some (extended n.walks link) → hops_at n walk ≡ hops_at n link.before ++ hop_of n (item_of link) ∷ []
hops_extended n walk link h = ap (λ o. map (hop_of n) (unwrap_or o [])) h ∙ map_push (hop_of n) (list_at n.walks link.before) (item_of link)

pub last_stands : (n : Numbers) (walk : ℕ) (link : Link) → slice_get n.walks walk ≡ Some (extended n.walks link) → elem_at n link.second ≡ last_vertex n.start (hops_at n walk)
last_stands n walk link h = sym (ap (last_vertex n.start) (hops_extended n walk link h) ∙ last_push n.start (hops_at n link.before) (hop_of n (item_of link)))

-- the start alone
pub only_first : (start : ElemId) (more : List ElemId) → IsPut [] start more → more ≡ start ∷ []
only_first start more (inl p) = absurd (in_nil start p.1)
only_first start more (inr p) = p.0

pub are_first : (start : ElemId) → AreNumbers (first_numbers start)
are_first start = record {
  first = refl;
  elems = (in_nil start, tt);
  walks = (in_nil [], tt);
  names = (in_nil [], tt);
  of_walks = λ k item c. absurd (nothing k item c);
  of_names = λ k item c. absurd (nothing k item c);
}
  where
    nothing : (k : ℕ) (item : ℕ × ℕ) → Contains (list_at ([] ∷ []) k) item → ⊥
    nothing zero item c = in_nil item c
    nothing (suc k) item c = in_nil item c
