-- The chunk that a key falls to, by the first items of all.
use Rattle.std.proofs.Common.{ℕ, zero, suc, ◌≡◌, ◌+◌, ◌*◌, ◌<◌, ◌≤◌, List, [], ◌∷◌, ◌++◌, length, get_or, take, Bool, true, false, cond, refl, ap, sym, subst, ◌∙◌, arith, length-append}
use Rattle.std.specs.Prelude.{Result, Ok, Err}
use Rattle.std.specs.declared.cmp.Ordering.{Ordering}
use Rattle.std.specs.declared.cmp.Ordering.TheVariants.{Less, Equal, Greater}
use Rattle.std.specs.Ordering.{is_gt}
use Rattle.pg_keyed.specs.Lists.{Each}
use Rattle.pg_keyed.specs.Keyed.{Above, Ascends, Sought}
use Rattle.pg_keyed.specs.Orders.{Exact, turn, less}
use Rattle.pg_keyed.specs.Ranks.{above_none, above_less}
use Rattle.pg_chunks.specs.Digits.{digits, digits_more, digits_less}
use Rattle.pg_chunks.specs.Parts.{shift, place}
use Rattle.pg_shared.specs.declared.part.Part.{Part}
use Rattle.pg_shared.specs.Parts.{joined, before_part, heads, Leads, IsLong, IsKept}
use Rattle.pg_shared.proofs.Places.{rank_none, sought_before, sought_after, shift_zero, shift_shift}
use Rattle.pg_shared.proofs.Walks.{each_at, end_of, start_at}

pub greater_is : (r : Ordering) → is_gt r ≡ true → r ≡ Greater
greater_is Less h = cc
greater_is Equal h = cc
greater_is Greater h = refl

pub not_greater : (r : Ordering) → (r ≡ Greater → ⊥) → is_gt r ≡ false
not_greater Less h = refl
not_greater Equal h = refl
not_greater Greater h = absurd (h refl)

module _ {X K : Type 0} (key : X → K) (cmp : K → K → Ordering) (o : Exact cmp) where
  abbrev H : K → List (Part X) → ℕ
  H k ps = heads key cmp k ps

  pub above_second : (k : K) (xs ys : List X) → Above key cmp k (xs ++ ys) → Above key cmp k ys
  above_second k [] ys a = a
  above_second k (x ∷ xs) ys a = above_second k xs ys a.1

  above_first : (k : K) (xs ys : List X) → Above key cmp k (xs ++ ys) → Above key cmp k xs
  above_first k [] ys a = tt
  above_first k (x ∷ xs) ys a = (a.0, above_first k xs ys a.1)

  ascends_first : (xs ys : List X) → Ascends key cmp (xs ++ ys) → Ascends key cmp xs
  ascends_first [] ys a = tt
  ascends_first (x ∷ xs) ys a = (above_first (key x) xs ys a.0, ascends_first xs ys a.1)

  pub ascends_second : (xs ys : List X) → Ascends key cmp (xs ++ ys) → Ascends key cmp ys
  ascends_second [] ys a = a
  ascends_second (x ∷ xs) ys a = ascends_second xs ys a.1

  pub ascends_part : (ps : List (Part X)) (i : ℕ) (p : Part X) → Ascends key cmp (joined ps) → i < length ps → p ≡ get_or ps i p → Ascends key cmp p.items
  ascends_part [] i p a l e = absurd (omega arith)
  ascends_part (q ∷ ps) zero p a l e = subst (λ r. Ascends key cmp r.items) (sym e) (ascends_first q.items (joined ps) a)
  ascends_part (q ∷ ps) (suc i) p a l e = ascends_part ps i p (ascends_second q.items (joined ps) a) (omega arith) e

  -- a chunk's first item is below all behind the chunk
  first_above : (p : Part X) (ys : List X) → Leads p → Ascends key cmp (p.items ++ ys) → Above key cmp (key p.first) ys
  first_above p ys leads a = above_second (key p.first) leads.0 ys (subst (λ l. Ascends key cmp (l ++ ys)) leads.1 a).0

  -- what is below a key that is not above another
  pub reach : (j i k : K) → cmp j i ≡ Less → is_gt (cmp i k) ≡ false → cmp j k ≡ Less
  reach j i k l n = go (cmp i k) refl n
    where
      go : (r : Ordering) → cmp i k ≡ r → is_gt r ≡ false → cmp j k ≡ Less
      go Less e m = less o j i k l e
      go Equal e m = subst (λ z. cmp j z ≡ Less) (o.exact i k e) l
      go Greater e m = cc

  reached : (k : K) (q : Part X) (qs : List (Part X)) → 1 ≤ H k (q ∷ qs) → is_gt (cmp (key q.first) k) ≡ false
  reached k q qs h = go (is_gt (cmp (key q.first) k)) h
    where
      go : (b : Bool) → 1 ≤ cond b 0 (H k qs + 1) → b ≡ false
      go true l = absurd (omega arith)
      go false l = refl

  pub heads_over : (k : K) (ps : List (Part X)) (i : ℕ) (p : Part X) → Each Leads ps → Ascends key cmp (joined ps) → i < length ps → p ≡ get_or ps i p → is_gt (cmp (key p.first) k) ≡ false → i + 1 ≤ H k ps
  heads_over k [] i p leads a l e n = absurd (omega arith)
  heads_over k (q ∷ ps) zero p leads a l e n = subst (λ b. 0 + 1 ≤ cond b 0 (H k ps + 1)) (sym (ap (λ r. is_gt (cmp (key r.first) k)) (sym e) ∙ n)) (omega arith)
  heads_over k (q ∷ []) (suc i) p leads a l e n = absurd (omega arith)
  heads_over k (q ∷ (r ∷ ps)) (suc i) p leads a l e n =
      let again = heads_over k (r ∷ ps) i p leads.1 (ascends_second q.items (joined (r ∷ ps)) a) (omega arith) e n in
      let below = (subst (λ l. Above key cmp (key q.first) (l ++ joined ps)) leads.1.0.1 (first_above q (joined (r ∷ ps)) leads.0 a)).0 in
      let less_k = reach (key q.first) (key r.first) k below (reached k r ps (omega arith)) in
      subst (λ b. suc i + 1 ≤ cond b 0 (H k (r ∷ ps) + 1)) (sym (ap is_gt less_k)) (omega arith)

  pub heads_under : (k : K) (ps : List (Part X)) (i : ℕ) (p : Part X) → i < length ps → p ≡ get_or ps i p → is_gt (cmp (key p.first) k) ≡ true → H k ps ≤ i
  heads_under k [] i p l e n = absurd (omega arith)
  heads_under k (q ∷ ps) zero p l e n = subst (λ b. cond b 0 (H k ps + 1) ≤ 0) (sym (ap (λ r. is_gt (cmp (key r.first) k)) (sym e) ∙ n)) (omega arith)
  heads_under k (q ∷ ps) (suc i) p l e n = go (is_gt (cmp (key q.first) k)) (heads_under k ps i p (omega arith) e n)
    where
      go : (b : Bool) → H k ps ≤ i → cond b 0 (H k ps + 1) ≤ suc i
      go true h = omega arith
      go false h = omega arith

  pub heads_within : (k : K) (ps : List (Part X)) → H k ps ≤ length ps
  heads_within k [] = omega arith
  heads_within k (q ∷ ps) = go (is_gt (cmp (key q.first) k)) (heads_within k ps)
    where
      go : (b : Bool) → H k ps ≤ length ps → cond b 0 (H k ps + 1) ≤ suc (length ps)
      go true h = omega arith
      go false h = omega arith

  all_above : (k : K) (ps : List (Part X)) → H k ps ≡ 0 → Each Leads ps → Ascends key cmp (joined ps) → Above key cmp k (joined ps)
  all_above k [] h leads a = tt
  all_above k (q ∷ ps) h leads a =
      let above = greater_is (cmp (key q.first) k) (go (is_gt (cmp (key q.first) k)) h) in
      let below = turn o (key q.first) k Greater above in
      let order = subst (λ l. Ascends key cmp (l ++ joined ps)) leads.0.1 a in
      subst (λ l. Above key cmp k (l ++ joined ps)) (sym leads.0.1) (below, above_less key cmp o k (key q.first) (leads.0.0 ++ joined ps) below order.0)
    where
      go : (b : Bool) → cond b 0 (H k ps + 1) ≡ 0 → b ≡ true
      go true l = refl
      go false l = absurd (omega arith)

  -- no chunk: the key is below all items
  pub sought_none : (k : K) (ps : List (Part X)) → H k ps ≡ 0 → Each Leads ps → Ascends key cmp (joined ps) → Sought key cmp k (joined ps) (Err 0)
  sought_none k ps h leads a = let above = all_above k ps h leads a in (sym (rank_none key cmp o k (joined ps) above), (omega arith), above_none key cmp o k (joined ps) above)

  behind_all : (xs : List X) (q : X) (k : K) (ys : List X) → Ascends key cmp (xs ++ q ∷ ys) → is_gt (cmp (key q) k) ≡ false → Each (λ x. cmp k (key x) ≡ Greater) xs
  behind_all [] q k ys a n = tt
  behind_all (x ∷ xs) q k ys a n = (turn o (key x) k Less (reach (key x) (key q) k (above_second (key x) xs (q ∷ ys) a.0).0 n), behind_all xs q k ys a.1 n)

  pub sought_in : (k : K) (ps : List (Part X)) (i : ℕ) (p : Part X) (r : Result ℕ ℕ) → Each Leads ps → Ascends key cmp (joined ps) → H k ps ≡ i + 1 → i < length ps → p ≡ get_or ps i p → Sought key cmp k p.items r → Sought key cmp k (joined ps) (shift (before_part i ps) r)
  sought_in k [] i p r leads a h l e s = absurd (omega arith)
  sought_in k (q ∷ ps) zero p r leads a h l e s =
      subst (λ z. Sought key cmp k (q.items ++ joined ps) z) (sym (shift_zero r))
      (sought_before key cmp o k q.items (joined ps) r (all_above k ps (go (is_gt (cmp (key q.first) k)) h) leads.1 (ascends_second q.items (joined ps) a)) (subst (λ z. Sought key cmp k z.items r) e s))
    where
      go : (b : Bool) → cond b 0 (H k ps + 1) ≡ 0 + 1 → H k ps ≡ 0
      go true l = absurd (omega arith)
      go false l = omega arith
  sought_in k (q ∷ []) (suc i) p r leads a h l e s = absurd (omega arith)
  sought_in k (q ∷ (c ∷ ps)) (suc i) p r leads a h l e s =
      let count : H k (c ∷ ps) ≡ i + 1 = go (is_gt (cmp (key q.first) k)) h in
      let again = sought_in k (c ∷ ps) i p r leads.1 (ascends_second q.items (joined (c ∷ ps)) a) count (omega arith) e s in
      let n = length-append q.items (joined (take i (c ∷ ps))) in
      let order = subst (λ l. Ascends key cmp (q.items ++ (l ++ joined ps))) leads.1.0.1 a in
      subst (λ z. Sought key cmp k (q.items ++ joined (c ∷ ps)) z) (shift_shift (length q.items) (before_part i (c ∷ ps)) r ∙ ap (λ j. shift j r) (sym n))
      (sought_after key cmp o k q.items (joined (c ∷ ps)) (shift (before_part i (c ∷ ps)) r) (behind_all q.items c.first k (leads.1.0.0 ++ joined ps) order (reached k c ps (omega arith))) again)
    where
      go : (b : Bool) → cond b 0 (H k (c ∷ ps) + 1) ≡ suc i + 1 → H k (c ∷ ps) ≡ i + 1
      go true l = absurd (omega arith)
      go false l = omega arith

-- STEPS

seven : (n : ℕ) → n < 128 → digits n ≤ 7
unfolding digits
seven n h = let m = digits_more n 127 (omega arith) in omega arith

one : digits 1 ≡ 1
unfolding digits
one = refl

six_more : (f n : ℕ) → 0 < f → 64 * f ≤ n → digits f + 6 ≤ digits n
six_more f n z h =
    let a = digits_less f (2 * f) (omega arith) (omega arith) in
    let b = digits_less (2 * f) (4 * f) (omega arith) (omega arith) in
    let c = digits_less (4 * f) (8 * f) (omega arith) (omega arith) in
    let d = digits_less (8 * f) (16 * f) (omega arith) (omega arith) in
    let e = digits_less (16 * f) (32 * f) (omega arith) (omega arith) in
    let g = digits_less (32 * f) n (omega arith) (omega arith) in
    omega arith

many : {X : Type 0} (ps : List (Part X)) → Each IsLong ps → 64 * length ps ≤ length (joined ps)
many [] h = omega arith
many (p ∷ ps) h = let r = many ps h.1 in let l = h.0 in let n = length-append p.items (joined ps) in omega arith

-- what is read of the first items and of one chunk
pub cost : {X : Type 0} (ps : List (Part X)) (i : ℕ) (p : Part X) → IsKept ps → i < length ps → p ≡ get_or ps i p → digits (length ps) + digits (length p.items) ≤ 1 + digits (length (joined ps))
cost [] i p kept l e = absurd (omega arith)
cost (q ∷ []) i p kept l e = let m = digits_more (length p.items) (length (joined (q ∷ []))) (let w = end_of (q ∷ []) i p l e in omega arith) in let d = one in omega arith
cost (q ∷ (c ∷ ps)) i p kept l e =
    let m = many (q ∷ (c ∷ ps)) (kept.long (omega arith)) in
    let s = six_more (length (q ∷ (c ∷ ps))) (length (joined (q ∷ (c ∷ ps)))) (omega arith) m in
    let t = seven (length p.items) (each_at _ (q ∷ (c ∷ ps)) i p kept.short l e) in
    omega arith

pub parts_within : {X : Type 0} (ps : List (Part X)) → Each Leads ps → length ps ≤ length (joined ps)
parts_within [] h = omega arith
parts_within (p ∷ ps) h = let r = parts_within ps h.1 in let e = ap length h.0.1 in let n = length-append p.items (joined ps) in omega arith

-- no chunk is read
pub cost_none : {X : Type 0} (ps : List (Part X)) → Each Leads ps → digits (length ps) ≤ digits (length (joined ps))
cost_none ps h = digits_more (length ps) (length (joined ps)) (parts_within ps h)

pub start_is : {X : Type 0} (ps : List (Part X)) (i : ℕ) (p : Part X) → IsKept ps → i < length ps → p ≡ get_or ps i p → p.before ≡ before_part i ps
start_is ps i p kept l e = let r = start_at 0 ps i p kept.starts l e in omega arith

module _ {X K : Type 0} (key : X → K) (cmp : K → K → Ordering) where
  pub place_within : (k : K) (xs : List X) (r : Result ℕ ℕ) → Sought key cmp k xs r → place r ≤ length xs
  place_within k xs (Ok i) s = let l = s.1 in omega arith
  place_within k xs (Err i) s = s.1
