-- The listed bases are as many as the distinct numbers of the current base and the pinned ones.
use Rattle.std.proofs.Common.{◌≡◌, ℕ, suc, ◌+◌, ◌≤◌, List, [], ◌∷◌, length, Bool, true, false, cond, not, ◌||◌, ◌==◌, refl, ap, sym, subst, ◌∙◌, arith}
use Rattle.std.proofs.lemmas.Bool.{eqb-true, eq-eqb}
use Rattle.std.specs.List.{list_any}
use Rattle.std.specs.Prelude.{Option, Some, None}
use Rattle.pg_keyed.specs.Lists.{Each, each_map}
use Rattle.pg_pins.specs.Held.{Held, IsKept, Rises, Listed, pinned, is_needed, is_among, distinct, pinned_numbers, listed_numbers}
use Rattle.pg_pins.proofs.Rooms.{false_true, or_left, or_right, one_less, without, rises_filter, last_listed}

pinned_among : (n : ℕ) (pins : List (Option ℕ)) → pinned n pins ≡ is_among n (pinned_numbers pins)
pinned_among n [] = refl
pinned_among n (None ∷ pins) = pinned_among n pins
pinned_among n (Some m ∷ pins) = ap (λ b. (m == n) || b) (pinned_among n pins)

-- a number that is among these, and another
apart : (n m : ℕ) (ns : List ℕ) → is_among n ns ≡ false → is_among m ns ≡ true → (n == m) ≡ false
apart n m ns e f = go (n == m) refl
  where
    go : (b : Bool) → (n == m) ≡ b → b ≡ false
    go true q = absurd (false_true (sym e ∙ ap (λ k. is_among k ns) (eqb-true n m q) ∙ f))
    go false q = refl

module _ {B : Type 0} where
  -- a base goes with its number
  one_more : (n : ℕ) (bs : List (ℕ × B)) → Listed n bs → length (without n bs) + 1 ≤ length bs
  one_more n [] h = absurd (false_true h)
  one_more n (b ∷ bs) h = go (n == b.0) refl (b.0 == n) refl h (λ k. one_more n bs k)
    where
      few : (cs : List (ℕ × B)) → length (without n cs) ≤ length cs
      few [] = omega arith
      few (c ∷ cs) = let r = few cs in elim (n == c.0) as (λ t. length (cond (not t) (c ∷ without n cs) (without n cs)) ≤ suc (length cs)) [ true ↦ omega (arith, r) | false ↦ omega (arith, r) ]

      go : (t : Bool) → (n == b.0) ≡ t → (u : Bool) → (b.0 == n) ≡ u → (u || list_any (λ (d : ℕ × B). d.0 == n) bs) ≡ true → (Listed n bs → length (without n bs) + 1 ≤ length bs) → length (cond (not t) (b ∷ without n bs) (without n bs)) + 1 ≤ suc (length bs)
      go true e u f k r = let l = few bs in omega (arith, l)
      go false e true f k r = absurd (false_true (sym e ∙ eq-eqb n b.0 (sym (eqb-true b.0 n f))))
      go false e false f k r = let l = r k in omega (arith, l)

  -- another stays listed
  still_listed : (n m : ℕ) (bs : List (ℕ × B)) → (n == m) ≡ false → Listed m bs → Listed m (without n bs)
  still_listed n m [] d h = h
  still_listed n m (b ∷ bs) d h = go (n == b.0) refl (b.0 == m) refl h (λ k. still_listed n m bs d k)
    where
      go : (t : Bool) → (n == b.0) ≡ t → (u : Bool) → (b.0 == m) ≡ u → (u || list_any (λ (x : ℕ × B). x.0 == m) bs) ≡ true → (Listed m bs → Listed m (without n bs)) → Listed m (cond (not t) (b ∷ without n bs) (without n bs))
      go true e true f k r = absurd (false_true (sym d ∙ eq-eqb n m (eqb-true n b.0 e ∙ eqb-true b.0 m f)))
      go true e false f k r = r k
      go false e true f k r = ap (λ u. u || list_any (λ (x : ℕ × B). x.0 == m) (without n bs)) f
      go false e false f k r = ap (λ u. u || list_any (λ (x : ℕ × B). x.0 == m) (without n bs)) f ∙ r k

  others_among : (n : ℕ) (ns : List ℕ) (bs : List (ℕ × B)) → Each (λ b. is_among b.0 (n ∷ ns) ≡ true) bs → Each (λ b. is_among b.0 ns ≡ true) (without n bs)
  others_among n ns [] h = tt
  others_among n ns (b ∷ bs) h = go (n == b.0) (others_among n ns bs h.1) h.0
    where
      go : (t : Bool) → Each (λ b. is_among b.0 ns ≡ true) (without n bs) → (t || is_among b.0 ns) ≡ true → Each (λ b. is_among b.0 ns ≡ true) (cond (not t) (b ∷ without n bs) (without n bs))
      go true r e = r
      go false r e = (e, r)

  as_many : (ns : List ℕ) (bs : List (ℕ × B)) → Rises bs → Each (λ b. is_among b.0 ns ≡ true) bs → ((m : ℕ) → is_among m ns ≡ true → Listed m bs) → length bs ≡ length (distinct ns)
  as_many [] [] r e l = refl
  as_many [] (b ∷ bs) r e l = absurd (false_true e.0)
  as_many (n ∷ ns) bs r e l = go (is_among n ns) refl (as_many ns bs r) (as_many ns (without n bs) (rises_filter (λ b. not (n == b.0)) bs r))
    where
      again : is_among n ns ≡ true → (m : ℕ) (t : Bool) → (n == m) ≡ t → (t || is_among m ns) ≡ true → is_among m ns ≡ true
      again q m true f h = sym (ap (λ k. is_among k ns) (eqb-true n m f)) ∙ q
      again q m false f h = h

      go : (t : Bool) → is_among n ns ≡ t
          → (Each (λ b. is_among b.0 ns ≡ true) bs → ((m : ℕ) → is_among m ns ≡ true → Listed m bs) → length bs ≡ length (distinct ns))
          → (Each (λ b. is_among b.0 ns ≡ true) (without n bs) → ((m : ℕ) → is_among m ns ≡ true → Listed m (without n bs)) → length (without n bs) ≡ length (distinct ns))
          → length bs ≡ length (cond t (distinct ns) (n ∷ distinct ns))
      go true q f g = f (each_map (λ b. is_among b.0 (n ∷ ns) ≡ true) (λ b. is_among b.0 ns ≡ true) (λ b h. again q b.0 (n == b.0) refl h) bs e) (λ m h. l m (or_right (n == m) (is_among m ns) h))
      go false q f g =
          let s = g (others_among n ns bs e) (λ m h. still_listed n m bs (apart n m ns q h) (l m (or_right (n == m) (is_among m ns) h))) in
          let a = one_less n bs r in
          let b = one_more n bs (l n (or_left (n == n) (is_among n ns) (eq-eqb n n refl))) in
          omega (arith, s, a, b)

  pub as_listed : (h : Held B) → IsKept h → length h.bases ≡ length (listed_numbers h)
  as_listed h k = as_many (h.current ∷ pinned_numbers h.pins) h.bases k.rises
      (each_map (λ b. is_needed h.current h.pins b ≡ true) (λ b. is_among b.0 (h.current ∷ pinned_numbers h.pins) ≡ true) (λ b q. one b.0 (b.0 == h.current) refl q) h.bases k.only)
      (λ m q. back m (h.current == m) refl q)
    where
      one : (m : ℕ) (t : Bool) → (m == h.current) ≡ t → (t || pinned m h.pins) ≡ true → is_among m (h.current ∷ pinned_numbers h.pins) ≡ true
      one m true e q = or_left (h.current == m) (is_among m (pinned_numbers h.pins)) (eq-eqb h.current m (sym (eqb-true m h.current e)))
      one m false e q = or_right (h.current == m) (is_among m (pinned_numbers h.pins)) (sym (pinned_among m h.pins) ∙ q)

      back : (m : ℕ) (t : Bool) → (h.current == m) ≡ t → (t || is_among m (pinned_numbers h.pins)) ≡ true → Listed m h.bases
      back m true e q = subst (λ n. Listed n h.bases) (eqb-true h.current m e) (last_listed h k)
      back m false e q = k.listed m (pinned_among m h.pins ∙ q)
