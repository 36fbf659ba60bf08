-- Changes put on the items of chunks, chunk by chunk.
use Rattle.std.proofs.Common.{ℕ, zero, suc, ◌≡◌, ◌==◌, ◌+◌, ◌<◌, ◌≤◌, List, [], ◌∷◌, ◌++◌, length, get_or, take, drop, Bool, true, false, cond, refl, ap, sym, subst, ◌∙◌, arith, append_assoc, append-nil, inl, inr}
use Rattle.std.proofs.lemmas.Bool.{eqb-true}
use Rattle.std.proofs.lemmas.List.{take-append-drop}
use Rattle.std.specs.declared.option.Option.{Option}
use Rattle.std.specs.declared.option.Option.TheVariants.{Some, None}
use Rattle.std.specs.declared.cmp.Ordering.{Ordering}
use Rattle.std.specs.declared.cmp.Ordering.TheVariants.{Less, Equal, Greater}
use Rattle.std.specs.Ordering.{is_eq, is_lt, is_gt}
use Rattle.std.specs.List.{cons_option, filter_map}
use Rattle.pg_keyed.specs.Lists.{Each, each_map, each_of}
use Rattle.pg_keyed.specs.Keyed.{Above, Ascends, weave, put, Fits}
use Rattle.pg_keyed.specs.Orders.{Exact, turn, less, greater, cases}
use Rattle.pg_keyed.specs.Weaves.{weave_step, weave_nothing}
use Rattle.pg_keyed.specs.Puts.{put_weave, put_nothing, put_rises}
use Rattle.pg_shared.specs.declared.part.Part.{Part}
use Rattle.pg_shared.specs.Parts.{joined, Leads}
use Rattle.pg_shared.specs.Changes.{leading, is_before, is_named_before, past, before_parts}
use Rattle.pg_shared.proofs.Heads.{reach, greater_is, above_second, ascends_second}

-- HOW MANY PASS A TEST

pub leading_ends : {X : Type 0} (t : X → Bool) (xs : List X) (i : ℕ) (x : X) → i < length xs → x ≡ get_or xs i x → t x ≡ false → Each (λ y. t y ≡ true) (take i xs) → i ≡ leading t xs
leading_ends t [] i x l e n h = absurd (omega arith)
leading_ends t (y ∷ xs) zero x l e n h = sym (ap (λ b. cond b (suc (leading t xs)) 0) (ap t (sym e) ∙ n))
leading_ends t (y ∷ xs) (suc i) x l e n h = ap suc (leading_ends t xs i x (omega arith) e n h.1) ∙ sym (ap (λ b. cond b (suc (leading t xs)) 0) h.0)

pub leading_all : {X : Type 0} (t : X → Bool) (xs : List X) (i : ℕ) → length xs ≤ i → Each (λ y. t y ≡ true) (take i xs) → length xs ≡ leading t xs
leading_all t [] i l h = refl
leading_all t (y ∷ xs) zero l h = absurd (omega arith)
leading_all t (y ∷ xs) (suc i) l h = ap suc (leading_all t xs i (omega arith) h.1) ∙ sym (ap (λ b. cond b (suc (leading t xs)) 0) h.0)

pub leading_within : {X : Type 0} (t : X → Bool) (xs : List X) → leading t xs ≤ length xs
leading_within t [] = omega arith
leading_within t (x ∷ xs) = go (t x) (leading_within t xs)
  where
    go : (b : Bool) → leading t xs ≤ length xs → cond b (suc (leading t xs)) 0 ≤ suc (length xs)
    go true h = omega arith
    go false h = omega arith

leading_pass : {X : Type 0} (t : X → Bool) (xs : List X) → Each (λ x. t x ≡ true) (take (leading t xs) xs)
leading_pass t [] = tt
leading_pass t (x ∷ xs) = go (t x) refl (leading_pass t xs)
  where
    go : (b : Bool) → t x ≡ b → Each (λ x. t x ≡ true) (take (leading t xs) xs) → Each (λ x. t x ≡ true) (take (cond b (suc (leading t xs)) 0) (x ∷ xs))
    go true e h = (e, h)
    go false e h = tt

-- NO CHANGE

none_long : {X : Type 0} (xs : List X) → length xs ≡ 0 → xs ≡ []
none_long [] l = refl
none_long (x ∷ xs) l = absurd (omega arith)

pub empty_is : {X : Type 0} (xs : List X) (b : Bool) → b ≡ (length xs == 0) → b ≡ true → xs ≡ []
empty_is xs b e h = none_long xs (eqb-true (length xs) 0 (sym e ∙ h))

-- ITEMS THAT ARE GIVEN

cons_append : {X : Type 0} (r : Option X) (xs ys : List X) → cons_option r (xs ++ ys) ≡ cons_option r xs ++ ys
cons_append None xs ys = refl
cons_append (Some x) xs ys = refl

-- some items, one that is given, and others
pub changed_items : {X : Type 0} (js front ys : List X) (r : Option X) → ((js ++ front) ++ cons_option r []) ++ ys ≡ js ++ (front ++ cons_option r ys)
changed_items js front ys r = append_assoc (js ++ front) (cons_option r []) ys ∙ append_assoc js front (cons_option r [] ++ ys) ∙ ap (λ l. js ++ (front ++ l)) (sym (cons_append r [] ys))

take_all : {X : Type 0} (xs : List X) → take (length xs) xs ≡ xs
take_all [] = refl
take_all (x ∷ xs) = ap (λ l. x ∷ l) (take_all xs)

drop_all : {X : Type 0} (xs : List X) → drop (length xs) xs ≡ []
drop_all [] = refl
drop_all (x ∷ xs) = drop_all xs

pub drop_past : {X : Type 0} (n : ℕ) (xs : List X) → length xs ≤ n → drop n xs ≡ []
drop_past zero [] h = refl
drop_past (suc n) [] h = refl
drop_past zero (x ∷ xs) h = absurd (omega arith)
drop_past (suc n) (x ∷ xs) h = drop_past n xs (omega arith)

drop_here : {X : Type 0} (xs : List X) (i : ℕ) (x : X) → i < length xs → x ≡ get_or xs i x → drop i xs ≡ x ∷ drop (i + 1) xs
drop_here [] i x l e = absurd (omega arith)
drop_here (y ∷ xs) zero x l e = ap (λ z. z ∷ xs) (sym e)
drop_here (y ∷ xs) (suc i) x l e = let f : suc (i + 1) ≡ suc i + 1 = omega arith in drop_here xs i x (omega arith) e ∙ ap (λ n. x ∷ drop n (y ∷ xs)) f

all_of : {X : Type 0} (P : X → Type 0) (xs : List X) → ((x : X) → P x) → Each P xs
all_of P xs f = each_of P xs (λ x m. f x)

module _ {X K : Type 0} (key : X → K) (cmp : K → K → Ordering) (o : Exact cmp) where
  -- what is behind a key that is not above another
  behind : (k a b : K) → is_gt (cmp k a) ≡ false → cmp a b ≡ Less → is_gt (cmp k b) ≡ false
  behind k a b n l = go (cmp k a) refl n
    where
      go : (r : Ordering) → cmp k a ≡ r → is_gt r ≡ false → is_gt (cmp k b) ≡ false
      go Less e m = ap is_gt (less o k a b e l)
      go Equal e m = ap is_gt (subst (λ z. cmp z b ≡ Less) (sym (o.exact k a e)) l)
      go Greater e m = cc

  pub drop_ascends : (n : ℕ) (xs : List X) → Ascends key cmp xs → Ascends key cmp (drop n xs)
  drop_ascends zero [] a = a
  drop_ascends zero (x ∷ xs) a = a
  drop_ascends (suc n) [] a = a
  drop_ascends (suc n) (x ∷ xs) a = drop_ascends n xs a.1

  -- all that stand before an item in order
  before_item : (xs : List X) (y : X) (ys : List X) → Ascends key cmp (xs ++ y ∷ ys) → Each (λ x. cmp (key x) (key y) ≡ Less) xs
  before_item [] y ys a = tt
  before_item (x ∷ xs) y ys a = ((above_second key cmp o (key x) xs (y ∷ ys) a.0).0, before_item xs y ys a.1)

  -- those behind the ones that stand before a key
  rest_after : (k : K) (ws : List X) → Ascends key cmp ws → Each (λ w. is_gt (cmp k (key w)) ≡ false) (drop (leading (λ w. is_gt (cmp k (key w))) ws) ws)
  rest_after k [] a = tt
  rest_after k (w ∷ ws) a = go (is_gt (cmp k (key w))) refl (rest_after k ws a.1)
    where
      go : (b : Bool) → is_gt (cmp k (key w)) ≡ b → Each (λ v. is_gt (cmp k (key v)) ≡ false) (drop (leading (λ v. is_gt (cmp k (key v))) ws) ws) → Each (λ v. is_gt (cmp k (key v)) ≡ false) (drop (cond b (suc (leading (λ v. is_gt (cmp k (key v))) ws)) 0) (w ∷ ws))
      go true e r = r
      go false e r = (e, each_map (λ v. cmp (key w) (key v) ≡ Less) (λ v. is_gt (cmp k (key v)) ≡ false) (λ v l. behind k (key w) (key v) e l) ws a.0)

module _ {X W K : Type 0} (key : X → K) (named : W → K) (row : W → Option X) (cmp : K → K → Ordering) (o : Exact cmp) where
  abbrev V : List X → List W → List X
  V xs ws = weave key named row cmp xs ws

  abbrev pub AllBefore : List X → List W → Type 0
  AllBefore xs ws = Each (λ x. Each (λ w. cmp (key x) (named w) ≡ Less) ws) xs

  abbrev pub AllNamedBefore : List W → List X → Type 0
  AllNamedBefore vs ys = Each (λ v. Each (λ y. cmp (key y) (named v) ≡ Greater) ys) vs

  pub under_nothing : (xs : List X) (ws : List W) → ws ≡ [] → xs ≡ V xs ws
  under_nothing xs ws e = sym (ap (V xs) e ∙ weave_nothing key named row cmp o xs)

  pub put_none : (xs : List X) (ws : List W) → ws ≡ [] → xs ≡ put key named row cmp xs ws
  put_none xs ws e = sym (ap (put key named row cmp xs) e ∙ put_nothing key named row cmp o xs)

  -- ONE CHANGE

  abbrev WovenTo : W → List W → List X → ℕ → List X
  WovenTo w more xs n = take n xs ++ cons_option (row w) (V (past key named cmp w (drop n xs)) more)

  pub woven_one : (w : W) (more : List W) (xs : List X) → V xs (w ∷ more) ≡ WovenTo w more xs (leading (is_before key named cmp w) xs)
  woven_one w more [] = refl
  woven_one w more (x ∷ xs) = go (cmp (key x) (named w)) refl (woven_one w more xs)
    where
      go : (r : Ordering) → cmp (key x) (named w) ≡ r → V xs (w ∷ more) ≡ WovenTo w more xs (leading (is_before key named cmp w) xs) → V (x ∷ xs) (w ∷ more) ≡ WovenTo w more (x ∷ xs) (leading (is_before key named cmp w) (x ∷ xs))
      go Less e again = weave_step key named row cmp o Less x xs w more e ∙ ap (λ l. x ∷ l) again ∙ sym (ap (λ r. WovenTo w more (x ∷ xs) (cond (is_lt r) (suc (leading (is_before key named cmp w) xs)) 0)) e)
      go Equal e again = weave_step key named row cmp o Equal x xs w more e ∙ sym (ap (λ r. cons_option (row w) (V (cond (is_eq r) xs (x ∷ xs)) more)) e) ∙ sym (ap (λ r. WovenTo w more (x ∷ xs) (cond (is_lt r) (suc (leading (is_before key named cmp w) xs)) 0)) e)
      go Greater e again = weave_step key named row cmp o Greater x xs w more e ∙ sym (ap (λ r. cons_option (row w) (V (cond (is_eq r) xs (x ∷ xs)) more)) e) ∙ sym (ap (λ r. WovenTo w more (x ∷ xs) (cond (is_lt r) (suc (leading (is_before key named cmp w) xs)) 0)) e)

  -- what is made of one change
  pub one_change : (js mid new front back left xs : List X) (given : Option X) (w : W) (n : ℕ) → n ≡ leading (is_before key named cmp w) xs → front ≡ take n xs → back ≡ drop n xs → left ≡ past key named cmp w back → given ≡ row w
      → mid ≡ js ++ front → new ≡ mid ++ cons_option given [] → (more : List W) → new ++ V left more ≡ js ++ V xs (w ∷ more)
  one_change js mid new front back left xs given w n e f b l g m a more =
      let front_is = f ∙ ap (λ k. take k xs) e in
      let left_is = l ∙ ap (past key named cmp w) (b ∙ ap (λ k. drop k xs) e) in
      ap (λ z. z ++ V left more) (a ∙ ap (λ z. z ++ cons_option given []) m) ∙ changed_items js front (V left more) given
      ∙ (λ i. js ++ (front_is i ++ cons_option (g i) (V (left_is i) more))) ∙ ap (λ z. js ++ z) (sym (woven_one w more xs))

  -- one change more, and their end
  pub change_more : (items new whole left after : List X) (cs : List W) (i : ℕ) (c : W) → i < length cs → c ≡ get_or cs i c → ((more : List W) → new ++ V after more ≡ items ++ V left (c ∷ more)) → items ++ V left (drop i cs) ≡ whole → new ++ V after (drop (i + 1) cs) ≡ whole
  change_more items new whole left after cs i c l e h r = h (drop (i + 1) cs) ∙ ap (λ z. items ++ V left z) (sym (drop_here cs i c l e)) ∙ r

  pub changes_end : (items new whole left : List X) (cs : List W) (n : ℕ) → length cs ≤ n → items ++ V left (drop n cs) ≡ whole → new ≡ items ++ left → new ≡ whole
  changes_end items new whole left cs n l r h = h ∙ ap (λ z. items ++ z) (sym (ap (V left) (drop_past n cs l) ∙ weave_nothing key named row cmp o left)) ∙ r

  -- TWO LISTS, EACH WITH ITS CHANGES

  first_kept : (x : X) (zs : List X) (ws : List W) → Each (λ w. cmp (key x) (named w) ≡ Less) ws → V (x ∷ zs) ws ≡ x ∷ V zs ws
  first_kept x zs [] h = refl
  first_kept x zs (w ∷ ws) h = weave_step key named row cmp o Less x zs w ws h.0

  given_first : (v : W) (ys : List X) (ws : List W) → Each (λ y. cmp (key y) (named v) ≡ Greater) ys → V ys (v ∷ ws) ≡ cons_option (row v) (V ys ws)
  given_first v [] ws h = refl
  given_first v (y ∷ ys) ws h = weave_step key named row cmp o Greater y ys v ws h.0

  given_all : (ys : List X) (vs ws : List W) → AllNamedBefore vs ys → V ys (vs ++ ws) ≡ filter_map row vs ++ V ys ws
  given_all ys [] ws h = refl
  given_all ys (v ∷ vs) ws h = given_first v ys (vs ++ ws) h.0 ∙ ap (cons_option (row v)) (given_all ys vs ws h.1) ∙ cons_append (row v) (filter_map row vs) (V ys ws)

  split : (xs ys : List X) (vs ws : List W) → AllBefore xs ws → AllNamedBefore vs ys → V (xs ++ ys) (vs ++ ws) ≡ V xs vs ++ V ys ws
  split [] ys vs ws a b = given_all ys vs ws b
  split (x ∷ xs) ys vs ws a b = go (λ us h. split xs ys us ws a.1 h) vs b
    where
      go : ((us : List W) → AllNamedBefore us ys → V (xs ++ ys) (us ++ ws) ≡ V xs us ++ V ys ws) → (vs : List W) → AllNamedBefore vs ys → V (x ∷ (xs ++ ys)) (vs ++ ws) ≡ V (x ∷ xs) vs ++ V ys ws
      go again [] b = first_kept x (xs ++ ys) ws a.0 ∙ ap (λ l. x ∷ l) (again [] tt)
      go again (v ∷ vs) b = elim (cases (cmp (key x) (named v))) [
        | inl le ↦ elim le [
          | inl l ↦ weave_step key named row cmp o Less x (xs ++ ys) v (vs ++ ws) l ∙ ap (λ l. x ∷ l) (again (v ∷ vs) b) ∙ sym (ap (λ l. l ++ V ys ws) (weave_step key named row cmp o Less x xs v vs l))
          | inr e ↦ weave_step key named row cmp o Equal x (xs ++ ys) v (vs ++ ws) e ∙ ap (cons_option (row v)) (again vs b.1) ∙ cons_append (row v) (V xs vs) (V ys ws) ∙ sym (ap (λ l. l ++ V ys ws) (weave_step key named row cmp o Equal x xs v vs e))
        ]
        | inr g ↦ weave_step key named row cmp o Greater x (xs ++ ys) v (vs ++ ws) g ∙ ap (cons_option (row v)) (go again vs b.1) ∙ cons_append (row v) (V (x ∷ xs) vs) (V ys ws) ∙ sym (ap (λ l. l ++ V ys ws) (weave_step key named row cmp o Greater x xs v vs g))
      ]

  -- CHUNKS

  abbrev N : List (Part X) → List W → ℕ
  N ps ws = before_parts key named cmp ps ws

  pub parts_within : (ps : List (Part X)) (ws : List W) → N ps ws ≤ length ws
  parts_within [] ws = omega arith
  parts_within (p ∷ ps) ws = leading_within (is_named_before key named cmp p.first) ws

  split_here : (p : Part X) (ps : List (Part X)) (ws : List W) → Each Leads ps → Ascends key cmp (p.items ++ joined ps) → Ascends named cmp ws
      → AllBefore p.items (drop (N ps ws) ws) × AllNamedBefore (take (N ps ws) ws) (joined ps)
  split_here p [] ws leads a b = (subst (AllBefore p.items) (sym (drop_all ws)) (all_of _ p.items (λ x. tt)), all_of _ (take (length ws) ws) (λ v. tt))
  split_here p (q ∷ qs) ws leads a b =
      let rest = leads.0.0 ++ joined qs in
      let order = subst (λ l. Ascends key cmp (p.items ++ (l ++ joined qs))) leads.0.1 a in
      let front = before_item key cmp o p.items q.first rest order in
      let later = ascends_second key cmp o p.items (q.first ∷ rest) order in (
        each_map (λ x. cmp (key x) (key q.first) ≡ Less) (λ x. Each (λ w. cmp (key x) (named w) ≡ Less) (drop (N (q ∷ qs) ws) ws))
            (λ x l. each_map (λ w. is_gt (cmp (key q.first) (named w)) ≡ false) (λ w. cmp (key x) (named w) ≡ Less) (λ w n. reach key cmp o (key x) (key q.first) (named w) l n) (drop (N (q ∷ qs) ws) ws) (rest_after named cmp o (key q.first) ws b))
            p.items front,
        each_map (λ v. is_gt (cmp (key q.first) (named v)) ≡ true) (λ v. Each (λ y. cmp (key y) (named v) ≡ Greater) (joined (q ∷ qs)))
            (λ v t. subst (λ l. Each (λ y. cmp (key y) (named v) ≡ Greater) (l ++ joined qs)) (sym leads.0.1) (
              greater_is (cmp (key q.first) (named v)) t,
              each_map (λ y. cmp (key q.first) (key y) ≡ Less) (λ y. cmp (key y) (named v) ≡ Greater) (λ y l. greater o (key y) (key q.first) (named v) (turn o (key q.first) (key y) Less l) (greater_is (cmp (key q.first) (named v)) t)) rest later.0,
            ))
            (take (N (q ∷ qs) ws) ws) (leading_pass (is_named_before key named cmp q.first) ws),
      )

  pub part_done : (ps : List (Part X)) (i : ℕ) (p : Part X) (ws : List W) → Each Leads ps → Ascends key cmp (joined ps) → Ascends named cmp ws → i < length ps → p ≡ get_or ps i p
      → V (joined (drop i ps)) ws ≡ V p.items (take (N (drop (i + 1) ps) ws) ws) ++ V (joined (drop (i + 1) ps)) (drop (N (drop (i + 1) ps) ws) ws)
  part_done [] i p ws leads a b l e = absurd (omega arith)
  part_done (q ∷ ps) zero p ws leads a b l e =
      let c = split_here q ps ws leads.1 a b in
      ap (V (q.items ++ joined ps)) (sym (take-append-drop (N ps ws) ws)) ∙ split q.items (joined ps) (take (N ps ws) ws) (drop (N ps ws) ws) c.0 c.1
      ∙ ap (λ r. V r.items (take (N ps ws) ws) ++ V (joined ps) (drop (N ps ws) ws)) (sym e)
  part_done (q ∷ ps) (suc i) p ws leads a b l e =
      let f : suc (i + 1) ≡ suc i + 1 = omega arith in
      subst (λ j. V (joined (drop i ps)) ws ≡ V p.items (take (N (drop j (q ∷ ps)) ws) ws) ++ V (joined (drop j (q ∷ ps))) (drop (N (drop j (q ∷ ps)) ws) ws)) f
      (part_done ps i p ws leads.1 (ascends_second key cmp o q.items (joined ps) a) b (omega arith) e)

  -- one chunk more
  pub part_more : (js items new : List X) (whole : List X) (ps : List (Part X)) (i : ℕ) (p : Part X) (ws here later : List W) → Each Leads ps → Ascends key cmp (joined ps) → Ascends named cmp ws → i < length ps → p ≡ get_or ps i p
      → here ≡ take (N (drop (i + 1) ps) ws) ws → later ≡ drop (N (drop (i + 1) ps) ws) ws → new ≡ items ++ V p.items here → items ++ V (joined (drop i ps)) ws ≡ js ++ whole → new ++ V (joined (drop (i + 1) ps)) later ≡ js ++ whole
  part_more js items new whole ps i p ws here later leads a b l e h t n r =
      ap (λ m. m ++ V (joined (drop (i + 1) ps)) later) (n ∙ ap (λ z. items ++ V p.items z) h) ∙ ap (λ z. (items ++ V p.items (take (N (drop (i + 1) ps) ws) ws)) ++ V (joined (drop (i + 1) ps)) z) t
      ∙ append_assoc items (V p.items (take (N (drop (i + 1) ps) ws) ws)) (V (joined (drop (i + 1) ps)) (drop (N (drop (i + 1) ps) ws) ws))
      ∙ ap (λ m. items ++ m) (sym (part_done ps i p ws leads a b l e)) ∙ r

  pub parts_end : (items new whole : List X) (ps : List (Part X)) (n : ℕ) (ws : List W) → length ps ≤ n → items ++ V (joined (drop n ps)) ws ≡ whole → new ≡ items ++ V [] ws → new ≡ whole
  parts_end items new whole ps n ws l r h = h ∙ ap (λ z. items ++ V (joined z) ws) (sym (drop_past n ps l)) ∙ r

  -- a change gives an item of its own key
  all_fit : ((w : W) (x : X) → row w ≡ Some x → key x ≡ named w) → (ws : List W) → Fits key named row cmp ws
  all_fit f [] = tt
  all_fit f (w ∷ ws) = (f w, all_fit f ws)

  pub woven_is_put : ((w : W) (x : X) → row w ≡ Some x → key x ≡ named w) → (xs : List X) (ws : List W) → Ascends key cmp xs → Ascends named cmp ws → V xs ws ≡ put key named row cmp xs ws
  woven_is_put f xs ws a b = sym (put_weave key named row cmp o xs ws (all_fit f ws) a b)

  pub put_order : (xs : List X) (ws : List W) → Ascends key cmp xs → Ascends key cmp (put key named row cmp xs ws)
  put_order xs ws a = put_rises key named row cmp o xs ws a
