-- Lists of images.
use Rattle.std.proofs.Common.{◌≡◌, List, [], ◌∷◌, map, Contains, inl, inr, refl, sym, subst}
use Rattle.pg_meaning.specs.Members.{in_nil, in_here, in_there, in_cons, from_map}

module _ {X Y : Type 0} (f : X → Y) where
  -- a list of images is the image of a list
  pub preimage : (xs : List X) (ys : List Y) → ((y : Y) → Contains ys y → Contains (map f xs) y) → (zs : List X) × (ys ≡ map f zs) × ((z : X) → Contains zs z → Contains xs z)
  preimage xs [] h = ([], refl, λ z c. absurd (in_nil z c))
  preimage xs (y ∷ ys) h =
      let m = from_map f xs y (h y (in_here y ys y refl)) in
      let r = preimage xs ys (λ z c. h z (in_there y ys z c)) in
      (m.0 ∷ r.0, λ i. sym m.2 i ∷ r.1 i, λ z c. elim (in_cons m.0 r.0 z c) [ inl e ↦ subst (λ w. Contains xs w) e m.1 | inr t ↦ r.2 z t ])

  -- an item of which the image is there, where images tell
  pub image_of : ((a b : X) → f a ≡ f b → a ≡ b) → (xs : List X) (x : X) → Contains (map f xs) (f x) → Contains xs x
  image_of inj xs x c = let m = from_map f xs (f x) c in subst (λ z. Contains xs z) (inj m.0 x m.2) m.1
