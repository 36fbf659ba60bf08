-- Lists of which the front is gone through and the rest is a set.
use Rattle.std.proofs.Common.{◌≡◌, ◌||◌, Bool, true, false, cond, ℕ, ◌+◌, suc, zero, List, [], ◌∷◌, ◌++◌, length, slice_get, Some, refl, ap, sym, ◌∙◌, arith}
use Rattle.std.specs.List.{list_any}
use Rattle.std.proofs.lemmas.List.Folds.{list_any-append}
use Rattle.indexmap.specs.IndexSet.{insert_key}

module _ {X : Type 0} where
  pub get_before : (xs ys : List X) (k : ℕ) (x : X) → slice_get xs k ≡ Some x → slice_get (xs ++ ys) k ≡ Some x
  get_before [] ys k x h = cc
  get_before (y ∷ xs) ys zero x h = h
  get_before (y ∷ xs) ys (suc k) x h = get_before xs ys k x h

  pub get_behind : (xs ys : List X) (k : ℕ) → slice_get (xs ++ ys) (length xs + k) ≡ slice_get ys k
  get_behind [] ys k = ap (λ n. slice_get ys n) (let e : length {A = X} [] + k ≡ k = omega arith in e)
  get_behind (x ∷ xs) ys k = ap (λ n. slice_get (x ∷ (xs ++ ys)) n) (let e : length (x ∷ xs) + k ≡ suc (length xs + k) = omega arith in e) ∙ get_behind xs ys k

  pub get_next : (xs : List X) (x : X) → slice_get (xs ++ x ∷ []) (length xs) ≡ Some x
  get_next [] x = refl
  get_next (y ∷ xs) x = get_next xs x

  module _ (p : X → Bool) where
    true_or : (a b : Bool) → a ≡ true → (a || b) ≡ true
    true_or true b h = refl
    true_or false b h = absurd (cc)

    or_true : (a b : Bool) → b ≡ true → (a || b) ≡ true
    or_true true b h = refl
    or_true false b h = h

    pub any_at : (xs : List X) (k : ℕ) (x : X) → slice_get xs k ≡ Some x → p x ≡ true → list_any p xs ≡ true
    any_at [] k x h t = cc
    any_at (y ∷ xs) zero x h t = true_or (p y) (list_any p xs) (let e : y ≡ x = cc in ap p e ∙ t)
    any_at (y ∷ xs) (suc k) x h t = or_true (p y) (list_any p xs) (any_at xs k x h t)

  module _ (eq : X → X → Bool) where
    pub insert_known : (xs : List X) (x : X) → list_any (eq x) xs ≡ true → xs ≡ insert_key eq xs x
    insert_known xs x h = sym (ap (λ b. cond b xs (xs ++ x ∷ [])) h)

    pub insert_new : (xs : List X) (x : X) → list_any (eq x) xs ≡ false → xs ++ x ∷ [] ≡ insert_key eq xs x
    insert_new xs x h = sym (ap (λ b. cond b xs (xs ++ x ∷ [])) h)

    -- what is not in the front is put into the rest
    pub insert_behind : (few many : List X) (x : X) → list_any (eq x) few ≡ false → few ++ insert_key eq many x ≡ insert_key eq (few ++ many) x
    insert_behind few many x h = go (list_any (eq x) many) refl
      where
        in_all : list_any (eq x) (few ++ many) ≡ list_any (eq x) many
        in_all = list_any-append (eq x) few many ∙ ap (λ b. b || list_any (eq x) many) h

        assoc : (a b c : List X) → a ++ (b ++ c) ≡ (a ++ b) ++ c
        assoc [] b c = refl
        assoc (y ∷ a) b c = ap (λ ys. y ∷ ys) (assoc a b c)

        go : (b : Bool) → list_any (eq x) many ≡ b → few ++ insert_key eq many x ≡ insert_key eq (few ++ many) x
        go true e = ap (λ ys. few ++ ys) (sym (insert_known many x e)) ∙ insert_known (few ++ many) x (in_all ∙ e)
        go false e = ap (λ ys. few ++ ys) (sym (insert_new many x e)) ∙ (assoc few many (x ∷ []) ∙ insert_new (few ++ many) x (in_all ∙ e))
