-- Bindings by their keys: what an index of them says.
use Rattle.std.proofs.Common.{◌≡◌, ◌<◌, ◌+◌, ℕ, zero, suc, Bool, true, false, cond, List, [], ◌∷◌, ◌++◌, map, take, length, refl, ap, sym, ◌∙◌, subst, arith, append_assoc, ◌⊎◌, inl, inr}
use Rattle.std.specs.Prelude.{Option, Some, None, slice_get, filter}
use Rattle.std.specs.Option.{unwrap_or}
use Rattle.std.specs.Cmp.Lexicographic.{pointwise}
use Rattle.pg_value.specs.declared.shape.ElemId.{ElemId}
use Rattle.pg_value.specs.Graph.{same_elem}
use Rattle.pg_meaning.specs.declared.checked.CheckedPath.{CheckedPath}
use Rattle.pg_meaning.specs.declared.checked.PathBinding.{PathBinding}
use Rattle.pg_join.specs.Joining.{IsLast, down, has_key, key_of, longer, agrees, longer_by}
use Rattle.pg_join.specs.Tuples.{IsIndex}
use Rattle.pg_join.proofs.Agreeing.{one_list}

some_is : {X : Type 0} (x y : X) → Some x ≡ Some y → x ≡ y
some_is x y h = cc

none_some : {X : Type 0} (x : X) → None ≡ Some x → ⊥
none_some x h = cc

pub within : {X : Type 0} (xs : List X) (i : ℕ) (x : X) → slice_get xs i ≡ Some x → i < length xs
within [] zero x g = absurd (none_some x g)
within [] (suc i) x g = absurd (none_some x g)
within (y ∷ xs) zero x g = omega arith
within (y ∷ xs) (suc i) x g = let l = within xs i x g in omega arith

-- WALKS OVER AN INDEX

module _ {X : Type 0} (test : X → Bool) where
  pub down_none : (xs : List X) (n : ℕ) → IsLast test xs n None → down test (take n xs) ≡ []
  down_none [] zero h = refl
  down_none [] (suc n) h = refl
  down_none (x ∷ xs) zero h = refl
  down_none (x ∷ xs) (suc n) h =
      let t : test x ≡ false = h 0 x (omega arith) refl in
      let r = down_none xs n (λ j y l g. h (suc j) y (omega arith) g) in
      λ i. r i ++ cond (t i) (x ∷ []) []

  pub down_some : (xs : List X) (n i : ℕ) (x : X) → slice_get xs i ≡ Some x → IsLast test xs n (Some i) → down test (take n xs) ≡ x ∷ down test (take i xs)
  down_some [] n zero x g h = absurd (none_some x g)
  down_some [] n (suc i) x g h = absurd (none_some x g)
  down_some (y ∷ xs) zero zero x g h = absurd (let l = h.0 in omega arith)
  down_some (y ∷ xs) zero (suc i) x g h = absurd (let l = h.0 in omega arith)
  down_some (y ∷ xs) (suc n) zero x g h =
      let r = down_none xs n (λ j z l k. h.2 (suc j) z (omega arith) (omega arith) k) in
      let t : test y ≡ true = ap test (some_is y h.1.0 h.1.1) ∙ h.1.2 in
      (λ i. r i ++ cond (t i) (y ∷ []) []) ∙ ap (λ z. z ∷ []) (some_is y x g)
  down_some (y ∷ xs) (suc n) (suc i) x g h =
      let l = h.0 in
      let r = down_some xs n i x g (omega arith, h.1, λ j z m o k. h.2 (suc j) z (omega arith) (omega arith) k) in
      ap (λ zs. zs ++ cond (test y) (y ∷ []) []) r

  pub take_all : (xs : List X) → take (length xs) xs ≡ xs
  take_all [] = refl
  take_all (x ∷ xs) = ap (λ ys. x ∷ ys) (take_all xs)

-- what is left of a walk gets shorter
abbrev pub left_of : Option ℕ → ℕ
left_of None = 0
left_of (Some i) = suc i

pub smaller : {X : Type 0} (test : X → Bool) (xs : List X) (i : ℕ) (o : Option ℕ) → IsLast test xs i o → left_of o < suc i
smaller test xs i None h = omega arith
smaller test xs i (Some j) h = let l = h.0 in omega arith

-- the tuples that are made so far, and those that are left
pub record Walks (vars : List ℕ) (before : List CheckedPath) (p : CheckedPath) (kept : List PathBinding) (tuple : List PathBinding) (key : List ElemId) (first out : List (List PathBinding)) (at : Option ℕ) : Type 0 where
  pub n : ℕ
  pub last : IsLast (has_key vars p key) kept n at
  pub rest : first ++ map (longer tuple) (filter (agrees vars before tuple p) (down (has_key vars p key) kept)) ≡ out ++ map (longer tuple) (filter (agrees vars before tuple p) (down (has_key vars p key) (take n kept)))

module _ (vars : List ℕ) (before : List CheckedPath) (p : CheckedPath) (kept : List PathBinding) (known : List ElemId → Option ℕ) (earlier : List (Option ℕ)) (index : IsIndex vars p kept known earlier) (tuple : List PathBinding) (key : List ElemId) where
  pub walk_begins : (out : List (List PathBinding)) → Walks vars before p kept tuple key out out (known key)
  walk_begins out = record {
    n = length kept;
    last = index.last key;
    rest = ap (λ ks. out ++ map (longer tuple) (filter (agrees vars before tuple p) (down (has_key vars p key) ks))) (sym (take_all (has_key vars p key) kept));
  }

  one_more : (b : PathBinding) (bs : List PathBinding) (t : Bool) → map (longer tuple) (cond t (b ∷ bs) bs) ≡ cond t (longer tuple b ∷ []) [] ++ map (longer tuple) bs
  one_more b bs true = refl
  one_more b bs false = refl

  pub walk_goes : (first out more : List (List PathBinding)) (i : ℕ) (b : PathBinding) → slice_get kept i ≡ Some b → Walks vars before p kept tuple key first out (Some i)
      → more ≡ out ++ cond (agrees vars before tuple p b) (longer tuple b ∷ []) [] → Walks vars before p kept tuple key first more (unwrap_or (slice_get earlier i) None)
  walk_goes first out more i b g w m =
      let t : has_key vars p key b ≡ true = ap (has_key vars p key) (some_is b w.last.1.0 (sym g ∙ w.last.1.1)) ∙ w.last.1.2 in
      let e : key ≡ key_of vars (p ∷ []) (b ∷ []) = one_list key (key_of vars (p ∷ []) (b ∷ [])) t in
      let d = down_some (has_key vars p key) kept w.n i b g w.last in
      let ag = agrees vars before tuple p in
      let ds = down (has_key vars p key) (take i kept) in
      record {
        n = i;
        last = subst (λ k. IsLast (has_key vars p k) kept i (unwrap_or (slice_get earlier i) None)) (sym e) (index.before i b g);
        rest = w.rest ∙ ap (λ xs. out ++ map (longer tuple) (filter ag xs)) d ∙ ap (λ xs. out ++ xs) (one_more b (filter ag ds) (ag b))
            ∙ sym (append_assoc out (cond (ag b) (longer tuple b ∷ []) []) (map (longer tuple) (filter ag ds))) ∙ ap (λ xs. xs ++ map (longer tuple) (filter ag ds)) (sym m);
      }

  append_nil : {X : Type 0} (xs : List X) → xs ++ [] ≡ xs
  append_nil [] = refl
  append_nil (x ∷ xs) = ap (λ ys. x ∷ ys) (append_nil xs)

  pub walk_ends : (first out : List (List PathBinding)) → Walks vars before p kept tuple key first out None
      → out ≡ first ++ map (longer tuple) (filter (agrees vars before tuple p) (down (has_key vars p key) kept))
  walk_ends first out w = sym (w.rest ∙ ap (λ xs. out ++ map (longer tuple) (filter (agrees vars before tuple p) xs)) (down_none (has_key vars p key) kept w.n w.last) ∙ append_nil out)

  pub walk_from : (out : List (List PathBinding)) (at : Option ℕ) → at ≡ known key → Walks vars before p kept tuple key out out at
  walk_from out at e = subst (λ o. Walks vars before p kept tuple key out out o) (sym e) (walk_begins out)

  pub walk_within : (first out : List (List PathBinding)) (at : Option ℕ) (i : ℕ) → at ≡ Some i → Walks vars before p kept tuple key first out at → i < length kept
  walk_within first out at i e w = let v = subst (λ o. Walks vars before p kept tuple key first out o) e w in within kept i v.last.1.0 v.last.1.1

  pub walk_on : (first out more : List (List PathBinding)) (at next : Option ℕ) (i : ℕ) (b : PathBinding) → at ≡ Some i → slice_get kept i ≡ Some b → Walks vars before p kept tuple key first out at
      → more ≡ out ++ cond (agrees vars before tuple p b) (longer tuple b ∷ []) [] → next ≡ unwrap_or (slice_get earlier i) None → Walks vars before p kept tuple key first more next
  walk_on first out more at next i b e g w m n =
      subst (λ o. Walks vars before p kept tuple key first more o) (sym n) (walk_goes first out more i b g (subst (λ o. Walks vars before p kept tuple key first out o) e w) m)

  pub walk_falls : (at next : Option ℕ) (i : ℕ) (b : PathBinding) → at ≡ Some i → slice_get kept i ≡ Some b → next ≡ unwrap_or (slice_get earlier i) None → left_of next < left_of at
  walk_falls at next i b e g n =
      let s = smaller (has_key vars p (key_of vars (p ∷ []) (b ∷ []))) kept i next (subst (λ o. IsLast (has_key vars p (key_of vars (p ∷ []) (b ∷ []))) kept i o) (sym n) (index.before i b g)) in
      let l : left_of at ≡ suc i = ap left_of e in
      omega arith

  pub walked : (first out : List (List PathBinding)) (at : Option ℕ) → ((i : ℕ) → at ≡ Some i → ⊥) → key ≡ key_of vars before tuple → Walks vars before p kept tuple key first out at → out ≡ first ++ longer_by vars before p kept tuple
  walked first out None h e w = walk_ends first out w ∙ ap (λ k. first ++ map (longer tuple) (filter (agrees vars before tuple p) (down (has_key vars p k) kept))) e
  walked first out (Some i) h e w = absurd (h i refl)

-- MAKING AN INDEX

-- an index of the first n bindings
pub record IndexedTo (vars : List ℕ) (p : CheckedPath) (kept : List PathBinding) (n : ℕ) (known : List ElemId → Option ℕ) (earlier : List (Option ℕ)) : Type 0 where
  pub last : (key : List ElemId) → IsLast (has_key vars p key) kept n (known key)
  pub long : length earlier ≡ n
  pub before : (i : ℕ) (b : PathBinding) → i < n → slice_get kept i ≡ Some b → IsLast (has_key vars p (key_of vars (p ∷ []) (b ∷ []))) kept i (unwrap_or (slice_get earlier i) None)

pub nothing_indexed : (vars : List ℕ) (p : CheckedPath) (kept : List PathBinding) (known : List ElemId → Option ℕ) → ((key : List ElemId) → known key ≡ None) → IndexedTo vars p kept 0 known []
nothing_indexed vars p kept known none = record {
  last = λ key. subst (λ o. IsLast (has_key vars p key) kept 0 o) (sym (none key)) (λ j x l g. absurd (omega arith));
  long = refl;
  before = λ i b l g. absurd (omega arith);
}

get_front : {X : Type 0} (xs : List X) (x : X) (i : ℕ) → i < length xs → slice_get (xs ++ x ∷ []) i ≡ slice_get xs i
get_front [] x i l = absurd (omega arith)
get_front (y ∷ xs) x zero l = refl
get_front (y ∷ xs) x (suc i) l = get_front xs x i (omega arith)

get_last : {X : Type 0} (xs : List X) (x : X) → slice_get (xs ++ x ∷ []) (length xs) ≡ Some x
get_last [] x = refl
get_last (y ∷ xs) x = get_last xs x

length_behind : {X : Type 0} (xs : List X) (x : X) → length (xs ++ x ∷ []) ≡ length xs + 1
length_behind [] x = refl
length_behind (y ∷ xs) x = let e = length_behind xs x in omega arith

before_next : (j n : ℕ) → j < n + 1 → (j < n) ⊎ (j ≡ n)
before_next j n l = grind arith

module _ {X : Type 0} (test : X → Bool) (xs : List X) (n : ℕ) (x : X) (g : slice_get xs n ≡ Some x) where
  last_new : test x ≡ true → IsLast test xs (n + 1) (Some n)
  last_new t = (omega arith, (x, g, t), λ j y l m k. absurd (omega arith))

  none_passes : test x ≡ false → (j : ℕ) (y : X) → slice_get xs j ≡ Some y → j ≡ n → test y ≡ false
  none_passes t j y k e = ap test (some_is y x (sym k ∙ ap (slice_get xs) e ∙ g)) ∙ t

  last_old : (o : Option ℕ) → test x ≡ false → IsLast test xs n o → IsLast test xs (n + 1) o
  last_old None t h = λ j y l k. elim (before_next j n l) [ inl m ↦ h j y m k | inr e ↦ none_passes t j y k e ]
  last_old (Some i) t h = (
    (let l = h.0 in omega arith),
    h.1,
    λ j y l m k. elim (before_next j n m) [ inl q ↦ h.2 j y l q k | inr e ↦ none_passes t j y k e ],
  )

pub one_more_indexed : (vars : List ℕ) (p : CheckedPath) (kept : List PathBinding) (n : ℕ) (known more : List ElemId → Option ℕ) (earlier longer : List (Option ℕ)) (b : PathBinding) (key : List ElemId)
    → IndexedTo vars p kept n known earlier → slice_get kept n ≡ Some b → key ≡ key_of vars (p ∷ []) (b ∷ [])
    → ((ks : List ElemId) → more ks ≡ cond (pointwise same_elem ks key) (Some n) (known ks)) → longer ≡ earlier ++ known key ∷ [] → IndexedTo vars p kept (n + 1) more longer
one_more_indexed vars p kept n known more earlier longer b key h g k put e = record {
  last = λ ks. go ks (pointwise same_elem ks key) refl (put ks);
  long = ap length e ∙ length_behind earlier (known key) ∙ ap (λ m. m + 1) h.long;
  before = λ i c l m. elim (before_next i n l) [
    | inl q ↦ subst (λ o. IsLast (has_key vars p (key_of vars (p ∷ []) (c ∷ []))) kept i (unwrap_or o None)) (sym (ap (λ os. slice_get os i) e ∙ get_front earlier (known key) i (let z = h.long in omega arith))) (h.before i c q m)
    | inr q ↦ (let s : c ≡ b = some_is c b (sym m ∙ ap (slice_get kept) q ∙ g) in
        let there : slice_get longer i ≡ Some (known key) = ap (slice_get longer) (q ∙ sym h.long) ∙ ap (λ os. slice_get os (length earlier)) e ∙ get_last earlier (known key) in
        let one : IsLast (has_key vars p (key_of vars (p ∷ []) (c ∷ []))) kept n (known key) = subst (λ z. IsLast (has_key vars p z) kept n (known key)) (k ∙ ap (λ z. key_of vars (p ∷ []) (z ∷ [])) (sym s)) (h.last key) in
        subst (λ o. IsLast (has_key vars p (key_of vars (p ∷ []) (c ∷ []))) kept i (unwrap_or o None)) (sym there) (subst (λ z. IsLast (has_key vars p (key_of vars (p ∷ []) (c ∷ []))) kept z (known key)) (sym q) one))
  ];
}
  where
    go : (ks : List ElemId) (t : Bool) → pointwise same_elem ks key ≡ t → more ks ≡ cond t (Some n) (known ks) → IsLast (has_key vars p ks) kept (n + 1) (more ks)
    go ks true s m = subst (λ o. IsLast (has_key vars p ks) kept (n + 1) o) (sym m) (last_new (has_key vars p ks) kept n b g (ap (pointwise same_elem ks) (sym k) ∙ s))
    go ks false s m = subst (λ o. IsLast (has_key vars p ks) kept (n + 1) o) (sym m) (last_old (has_key vars p ks) kept n b g (known ks) (ap (pointwise same_elem ks) (sym k) ∙ s) (h.last ks))

pub all_indexed : (vars : List ℕ) (p : CheckedPath) (kept : List PathBinding) (n : ℕ) (known : List ElemId → Option ℕ) (earlier : List (Option ℕ)) → n ≡ length kept → IndexedTo vars p kept n known earlier → IsIndex vars p kept known earlier
all_indexed vars p kept n known earlier e h = record {
  last = λ key. subst (λ m. IsLast (has_key vars p key) kept m (known key)) e (h.last key);
  long = h.long ∙ e;
  before = λ i b g. h.before i b (let l = within kept i b g in omega arith) g;
}
