-- Membership of what is kept of a list and made of it.
use Rattle.std.proofs.Common.{◌≡◌, Bool, true, false, cond, List, [], ◌∷◌, Contains, inl, inr, refl, ap, sym, ◌∙◌, subst}
use Rattle.std.specs.Prelude.{filter, flat_map}
use Rattle.pg_meaning.specs.Members.{in_nil, in_here, in_there, in_cons, in_left, in_right}

kept_step : {X : Type 0} (test : X → Bool) (y : X) (ys : List X) (x : X) (b : Bool) → test y ≡ b → test x ≡ true → (Contains ys x → Contains (filter test ys) x) → Contains (y ∷ ys) x
    → Contains (cond b (y ∷ filter test ys) (filter test ys)) x
kept_step test y ys x true e t rest c = elim (in_cons y ys x c) [ inl s ↦ in_here y (filter test ys) x s | inr r ↦ in_there y (filter test ys) x (rest r) ]
kept_step test y ys x false e t rest c = elim (in_cons y ys x c) [ inl s ↦ absurd (differ (sym t ∙ ap test (sym s) ∙ e)) | inr r ↦ rest r ]
  where
    differ : true ≡ false → ⊥
    differ h = cc

-- what passes the test is kept
pub kept : {X : Type 0} (test : X → Bool) (xs : List X) (x : X) → Contains xs x → test x ≡ true → Contains (filter test xs) x
kept test [] x c t = absurd (in_nil x c)
kept test (y ∷ ys) x c t = kept_step test y ys x (test y) refl t (λ r. kept test ys x r t) c

pub in_flat : {X Y : Type 0} (f : X → List Y) (xs : List X) (x : X) (y : Y) → Contains xs x → Contains (f x) y → Contains (flat_map f xs) y
in_flat f [] x y c d = absurd (in_nil x c)
in_flat f (z ∷ xs) x y c d = elim (in_cons z xs x c) [
  | inl e ↦ in_left (f z) (flat_map f xs) y (subst (λ w. Contains (f w) y) (sym e) d)
  | inr r ↦ in_right (f z) (flat_map f xs) y (in_flat f xs x y r d)
]
