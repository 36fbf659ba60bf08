-- Least lengths and last vertices, as bindings are gone over.
use Rattle.std.proofs.Common.{◌≡◌, ◌≤◌, ℕ, Bool, true, false, cond, List, [], ◌∷◌, ◌++◌, map, length, Contains, ◌⊎◌, inl, inr, refl, ap, sym, ◌∙◌, subst, arith}
use Rattle.std.specs.Prelude.{Option, Some, None, is_some, nat_le, filter}
use Rattle.std.proofs.lemmas.Bool.{leb-true, leb-false, le-leb}
use Rattle.pg_value.specs.declared.shape.ElemId.{ElemId}
use Rattle.pg_value.specs.Graph.{same_elem}
use Rattle.pg_value.specs.Hashing.{one_elem, elem_equivalence}
use Rattle.pg_meaning.specs.declared.checked.PathBinding.{PathBinding}
use Rattle.pg_meaning.specs.Bindings.{Distinct}
use Rattle.pg_meaning.specs.Members.{in_nil, in_here, in_there, in_cons, in_left, in_right, in_append, in_one, in_map, from_map, distinct_append}
use Rattle.pg_keyed.specs.Lists.{Each}
use Rattle.pg_join.specs.Selecting.{end_of, HasEnd, IsLeastIn, AreLeast, AreFirsts}
use Rattle.pg_join.specs.Ends.{IsLeast, IsNoted, is_known, is_least, is_within, least_at}

none_some : {X : Type 0} (x : X) → None ≡ Some x → ⊥
none_some x h = cc

some_is : {X : Type 0} (x y : X) → Some x ≡ Some y → x ≡ y
some_is x y h = cc

true_false : true ≡ false → ⊥
true_false h = cc

-- ONE BINDING MORE

-- it has another last vertex
least_other : (all : List PathBinding) (b : PathBinding) (e : ElemId) (o : Option ℕ) → (end_of b ≡ Some e → ⊥) → IsLeast all e o → IsLeast (all ++ b ∷ []) e o
least_other all b e None out h = λ c i f. elim (in_append all (b ∷ []) c i) [ inl l ↦ h c l f | inr r ↦ out (ap end_of (in_one b c r) ∙ f) ]
least_other all b e (Some n) out h = (
  λ c i f. elim (in_append all (b ∷ []) c i) [ inl l ↦ h.0 c l f | inr r ↦ absurd (out (ap end_of (in_one b c r) ∙ f)) ],
  (h.1.0, in_left all (b ∷ []) h.1.0 h.1.1, h.1.2, h.1.3),
)

pub least_without : (all : List PathBinding) (b : PathBinding) (e : ElemId) (o : Option ℕ) → end_of b ≡ None → IsLeast all e o → IsLeast (all ++ b ∷ []) e o
least_without all b e o n h = least_other all b e o (λ f. none_some e (sym n ∙ f)) h

-- one that is known is no longer
long_enough : (all : List PathBinding) (b : PathBinding) (e : ElemId) (n : ℕ) → n ≤ length b.edges → IsLeast all e (Some n) → IsLeast (all ++ b ∷ []) e (Some n)
long_enough all b e n l h = (
  λ c i f. elim (in_append all (b ∷ []) c i) [ inl k ↦ h.0 c k f | inr r ↦ subst (λ z. n ≤ length z.edges) (in_one b c r) l ],
  (h.1.0, in_left all (b ∷ []) h.1.0 h.1.1, h.1.2, h.1.3),
)

-- none is known, or a longer one
shorter : (all : List PathBinding) (b : PathBinding) (e : ElemId) (o : Option ℕ) → end_of b ≡ Some e → ((n : ℕ) → o ≡ Some n → length b.edges ≤ n) → IsLeast all e o → IsLeast (all ++ b ∷ []) e (Some (length b.edges))
shorter all b e None f l h = (
  λ c i g. elim (in_append all (b ∷ []) c i) [ inl k ↦ absurd (h c k g) | inr r ↦ subst (λ z. length b.edges ≤ length z.edges) (in_one b c r) (omega arith) ],
  (b, in_right all (b ∷ []) b (in_here b [] b refl), f, refl),
)
shorter all b e (Some n) f l h = (
  λ c i g. elim (in_append all (b ∷ []) c i) [
    | inl k ↦ (let p = h.0 c k g in let q = l n refl in omega arith)
    | inr r ↦ subst (λ z. length b.edges ≤ length z.edges) (in_one b c r) (omega arith)
  ],
  (b, in_right all (b ∷ []) b (in_here b [] b refl), f, refl),
)

le_other : (m n : ℕ) → nat_le m n ≡ false → n ≤ m
le_other m n h = let l = leb-false m n h in omega arith

self_elem : (e : ElemId) → same_elem e e ≡ true
self_elem e = elem_equivalence.refl e

module _ (all : List PathBinding) (b : PathBinding) (end : ElemId) (is : end_of b ≡ Some end) (f : ElemId → Option ℕ) (known : (e : ElemId) → IsLeast all e (f e)) where
  pub least_kept : (n : ℕ) → f end ≡ Some n → n ≤ length b.edges → (e : ElemId) → IsLeast (all ++ b ∷ []) e (f e)
  least_kept n k l e = go (same_elem end e) refl
    where
      go : (t : Bool) → same_elem end e ≡ t → IsLeast (all ++ b ∷ []) e (f e)
      go true s =
          let q = one_elem end e s in
          let m : f e ≡ Some n = ap f (sym q) ∙ k in
          subst (λ o. IsLeast (all ++ b ∷ []) e o) (sym m) (long_enough all b e n l (subst (λ o. IsLeast all e o) m (known e)))
      go false s = least_other all b e (f e) (λ g. true_false (sym (self_elem end) ∙ ap (same_elem end) (some_is end e (sym is ∙ g)) ∙ s)) (known e)

  pub least_put : (g : ElemId → Option ℕ) → ((n : ℕ) → f end ≡ Some n → length b.edges ≤ n) → ((e : ElemId) → g e ≡ cond (same_elem end e) (Some (length b.edges)) (f e)) → (e : ElemId) → IsLeast (all ++ b ∷ []) e (g e)
  least_put g l put e = go (same_elem end e) refl (put e)
    where
      go : (t : Bool) → same_elem end e ≡ t → g e ≡ cond t (Some (length b.edges)) (f e) → IsLeast (all ++ b ∷ []) e (g e)
      go true s p =
          let q = one_elem end e s in
          subst (λ o. IsLeast (all ++ b ∷ []) e o) (sym p) (shorter all b e (f e) (is ∙ ap Some q) (λ n k. l n (ap f q ∙ k)) (known e))
      go false s p =
          subst (λ o. IsLeast (all ++ b ∷ []) e o) (sym p) (least_other all b e (f e) (λ h. true_false (sym (self_elem end) ∙ ap (same_elem end) (some_is end e (sym is ∙ h)) ∙ s)) (known e))

  -- where a length that is no greater is known, nothing changes
  pub least_known : is_known (f end) (length b.edges) ≡ true → (e : ElemId) → IsLeast (all ++ b ∷ []) e (f e)
  least_known h = go (f end) refl h
    where
      go : (o : Option ℕ) → f end ≡ o → is_known o (length b.edges) ≡ true → (e : ElemId) → IsLeast (all ++ b ∷ []) e (f e)
      go None k t = absurd (true_false (sym t))
      go (Some n) k t = least_kept n k (leb-true n (length b.edges) t)

  pub least_put_new : (g : ElemId → Option ℕ) → is_known (f end) (length b.edges) ≡ false → ((e : ElemId) → g e ≡ cond (same_elem end e) (Some (length b.edges)) (f e)) → (e : ElemId) → IsLeast (all ++ b ∷ []) e (g e)
  least_put_new g h put = least_put g (λ n k. longer n (sym (ap (λ o. is_known o (length b.edges)) k) ∙ h)) put
    where
      longer : (n : ℕ) → nat_le n (length b.edges) ≡ false → length b.edges ≤ n
      longer n t = le_other n (length b.edges) t

-- ALL OF LEAST LENGTH

module _ (test : PathBinding → Bool) where
  kept : (xs : List PathBinding) (x : PathBinding) → Contains xs x → test x ≡ true → Contains (filter test xs) x
  kept [] x c t = absurd (in_nil x c)
  kept (y ∷ ys) x c t = go (test y) refl (in_cons y ys x c) (λ r. kept ys x r t)
    where
      go : (b : Bool) → test y ≡ b → (y ≡ x) ⊎ Contains ys x → (Contains ys x → Contains (filter test ys) x) → Contains (cond b (y ∷ filter test ys) (filter test ys)) x
      go true e (inl s) again = in_here y (filter test ys) x s
      go true e (inr r) again = in_there y (filter test ys) x (again r)
      go false e (inl s) again = absurd (true_false (sym t ∙ ap test (sym s) ∙ e))
      go false e (inr r) again = again r

  given : (xs : List PathBinding) (x : PathBinding) → Contains (filter test xs) x → Contains xs x × (test x ≡ true)
  given [] x c = absurd (in_nil x c)
  given (y ∷ ys) x c = go (test y) refl c (λ r. given ys x r)
    where
      go : (b : Bool) → test y ≡ b → Contains (cond b (y ∷ filter test ys) (filter test ys)) x → (Contains (filter test ys) x → Contains ys x × (test x ≡ true)) → Contains (y ∷ ys) x × (test x ≡ true)
      go true e c again = elim (in_cons y (filter test ys) x c) [ inl s ↦ (in_here y ys x s, ap test (sym s) ∙ e) | inr r ↦ (let g = again r in (in_there y ys x g.0, g.1)) ]
      go false e c again = let g = again c in (in_there y ys x g.0, g.1)

  distinct : (xs : List PathBinding) → Distinct xs → Distinct (filter test xs)
  distinct [] d = tt
  distinct (y ∷ ys) d = go (test y) (distinct ys d.1)
    where
      go : (b : Bool) → Distinct (filter test ys) → Distinct (cond b (y ∷ filter test ys) (filter test ys))
      go true r = (λ c. d.0 (given ys y c).0, r)
      go false r = r

has_end : (all : List PathBinding) (b : PathBinding) → Each HasEnd all → Contains all b → HasEnd b
has_end [] b e c = absurd (in_nil b c)
has_end (x ∷ xs) b e c = elim (in_cons x xs b c) [ inl s ↦ subst HasEnd s e.0 | inr r ↦ has_end xs b e.1 r ]

module _ (all : List PathBinding) (ends : Each HasEnd all) (f : ElemId → Option ℕ) (known : (e : ElemId) → IsLeast all e (f e)) where
  right : (b : PathBinding) → is_least f b ≡ true → IsLeastIn all b
  right b t = λ c i s. go c i (end_of b) refl t (λ e. s ∙ e)
    where
      within : (e : ElemId) (o : Option ℕ) → IsLeast all e o → is_within (length b.edges) o ≡ true → (c : PathBinding) → Contains all c → end_of c ≡ Some e → length b.edges ≤ length c.edges
      within e None k w c i g = absurd (true_false (sym w))
      within e (Some n) k w c i g = let l = leb-true (length b.edges) n w in let m = k.0 c i g in omega arith

      go : (c : PathBinding) → Contains all c → (o : Option ElemId) → end_of b ≡ o → is_within (length b.edges) (least_at f o) ≡ true → (end_of b ≡ o → end_of c ≡ o) → length b.edges ≤ length c.edges
      go c i None e w g = absurd (true_false (sym w))
      go c i (Some x) e w g = within x (f x) (known x) w c i (g e)

  left : (b : PathBinding) → HasEnd b → IsLeastIn all b → Contains all b → is_least f b ≡ true
  left b h least i = go (end_of b) refl h
    where
      within : (e : ElemId) (o : Option ℕ) → IsLeast all e o → end_of b ≡ Some e → is_within (length b.edges) o ≡ true
      within e None k g = absurd (k b i g)
      within e (Some n) k g = let l = least k.1.0 k.1.1 (k.1.2 ∙ sym g) in let m = k.1.3 in le-leb (length b.edges) n (omega arith)

      go : (o : Option ElemId) → end_of b ≡ o → is_some o ≡ true → is_within (length b.edges) (least_at f o) ≡ true
      go None e s = absurd (true_false (sym s))
      go (Some x) e s = within x (f x) (known x) e

  some : (b : PathBinding) → Contains all b → (c : PathBinding) × Contains (filter (is_least f) all) c × (end_of c ≡ end_of b)
  some b i = go (end_of b) refl (has_end all b ends i)
    where
      least : (e : ElemId) (o : Option ℕ) → IsLeast all e o → f e ≡ o → end_of b ≡ Some e → (c : PathBinding) × Contains (filter (is_least f) all) c × (end_of c ≡ end_of b)
      least e None k s g = absurd (k b i g)
      least e (Some n) k s g =
          let c = k.1.0 in
          let t : is_least f c ≡ true = ap (λ o. is_within (length c.edges) (least_at f o)) k.1.2 ∙ ap (is_within (length c.edges)) s ∙ le-leb (length c.edges) n (let m = k.1.3 in omega arith) in
          (c, kept (is_least f) all c k.1.1 t, k.1.2 ∙ sym g)

      go : (o : Option ElemId) → end_of b ≡ o → is_some o ≡ true → (c : PathBinding) × Contains (filter (is_least f) all) c × (end_of c ≡ end_of b)
      go None e s = absurd (true_false (sym s))
      go (Some x) e s = least x (f x) (known x) refl e

  pub are_least : AreLeast all (filter (is_least f) all)
  are_least = record {
    exactly = λ b. (
      λ c. let g = given (is_least f) all b c in (g.0, right b g.1),
      λ c. kept (is_least f) all b c.0 (left b (has_end all b ends c.0) c.1 c.0),
    );
    some = some;
    distinct = distinct (is_least f) all;
  }

-- ONE FOR EACH LAST VERTEX

-- those that were gone over, what is kept of them, and their last vertices
pub record Noted (all firsts : List PathBinding) (noted : List ElemId) : Type 0 where
  pub among : (b : PathBinding) → Contains firsts b → Contains all b
  pub ends : map end_of firsts ≡ map (λ (e : ElemId). Some e) noted
  pub apart : Distinct noted
  pub whole : (b : PathBinding) (e : ElemId) → Contains all b → end_of b ≡ Some e → Contains noted e

pub none_noted : Noted [] [] []
none_noted = record { among = λ b c. absurd (in_nil b c); ends = refl; apart = tt; whole = λ b e c f. absurd (in_nil b c) }

map_behind : {X Y : Type 0} (f : X → Y) (xs : List X) (x : X) → map f (xs ++ x ∷ []) ≡ map f xs ++ f x ∷ []
map_behind f [] x = refl
map_behind f (y ∷ xs) x = ap (λ ys. f y ∷ ys) (map_behind f xs x)

pub noted_new : (all firsts : List PathBinding) (noted more : List ElemId) (b : PathBinding) → Noted all firsts noted → IsNoted noted (end_of b) true more → Noted (all ++ b ∷ []) (firsts ++ b ∷ []) more
noted_new all firsts noted more b n h = record {
  among = λ c i. elim (in_append firsts (b ∷ []) c i) [ inl l ↦ in_left all (b ∷ []) c (n.among c l) | inr r ↦ in_right all (b ∷ []) c r ];
  ends = map_behind end_of firsts b ∙ (λ i. n.ends i ++ h.1 i ∷ []) ∙ sym (ap (map (λ (e : ElemId). Some e)) h.2 ∙ map_behind (λ (e : ElemId). Some e) noted h.0);
  apart = subst Distinct (sym h.2) (distinct_append noted (h.0 ∷ []) n.apart (in_nil h.0, tt) (λ x c d. h.3 (subst (λ z. Contains noted z) (sym (in_one h.0 x d)) c)));
  whole = λ c e i f. subst (λ es. Contains es e) (sym h.2) (elim (in_append all (b ∷ []) c i) [
    | inl l ↦ in_left noted (h.0 ∷ []) e (n.whole c e l f)
    | inr r ↦ in_right noted (h.0 ∷ []) e (in_here h.0 [] e (some_is h.0 e (sym h.1 ∙ ap end_of (in_one b c r) ∙ f)))
  ]);
}

pub noted_old : (all firsts : List PathBinding) (noted more : List ElemId) (b : PathBinding) → Noted all firsts noted → IsNoted noted (end_of b) false more → Noted (all ++ b ∷ []) firsts more
noted_old all firsts noted more b n h = record {
  among = λ c i. in_left all (b ∷ []) c (n.among c i);
  ends = n.ends ∙ ap (map (λ (e : ElemId). Some e)) (sym h.0);
  apart = subst Distinct (sym h.0) n.apart;
  whole = λ c e i f. subst (λ es. Contains es e) (sym h.0) (elim (in_append all (b ∷ []) c i) [ inl l ↦ n.whole c e l f | inr r ↦ h.1 e (ap end_of (in_one b c r) ∙ f) ]);
}

apart_ends : (es : List ElemId) → Distinct es → Distinct (map (λ (e : ElemId). Some e) es)
apart_ends [] d = tt
apart_ends (e ∷ es) d = (λ c. let m = from_map (λ (x : ElemId). Some x) es (Some e) c in d.0 (subst (λ z. Contains es z) (some_is m.0 e m.2) m.1), apart_ends es d.1)

pub are_firsts : (all firsts : List PathBinding) (noted : List ElemId) → Each HasEnd all → Noted all firsts noted → AreFirsts all firsts
are_firsts all firsts noted ends n = record {
  among = n.among;
  apart = subst Distinct (sym n.ends) (apart_ends noted n.apart);
  whole = λ b c. go b c (end_of b) refl (has_end all b ends c);
}
  where
    go : (b : PathBinding) → Contains all b → (o : Option ElemId) → end_of b ≡ o → is_some o ≡ true → Contains (map end_of firsts) (end_of b)
    go b c None e s = absurd (true_false (sym s))
    go b c (Some x) e s = subst (λ xs. Contains xs (end_of b)) (sym n.ends) (subst (λ o. Contains (map (λ (y : ElemId). Some y) noted) o) (sym e) (in_map (λ (y : ElemId). Some y) noted x (n.whole b x c e)))
