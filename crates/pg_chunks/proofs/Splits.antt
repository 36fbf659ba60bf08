-- Where a part stands in the list that its parts are.
use Rattle.std.proofs.Common.{ℕ, zero, suc, ◌≡◌, ◌+◌, ◌-◌, ◌<◌, ◌≤◌, List, [], ◌∷◌, ◌++◌, length, get_or, take, Bool, true, false, refl, ap, sym, ◌∙◌, arith}
use Rattle.std.specs.Prelude.{slice_get}
use Rattle.std.specs.declared.cmp.Ordering.{Ordering}
use Rattle.std.specs.Ordering.{is_lt}
use Rattle.pg_keyed.specs.Lists.{Each}
use Rattle.pg_keyed.specs.Keyed.{Ascends, rank}
use Rattle.pg_keyed.specs.Orders.{Exact}
use Rattle.pg_chunks.specs.declared.part.Chunk.{Chunk}
use Rattle.pg_chunks.specs.Parts.{items_of, joined, before_part, IsPartOf, Starts, Fills, EndsBefore}
use Rattle.pg_chunks.proofs.Places.{length_append, append_front, append_later, or_later, or_front, over_at, under_at}

module _ {X : Type 0} where
  -- a part has the items that stand before the next
  pub before_next : (cs : List (Chunk X)) (m : ℕ) (c : Chunk X) → m < length cs → before_part (m + 1) cs ≡ before_part m cs + length (items_of (get_or cs m c))
  before_next [] m c l = absurd (omega arith)
  before_next (b ∷ cs) zero c l = let n = length_append (items_of b) [] in omega arith
  before_next (b ∷ cs) (suc m) c l =
      let r = before_next cs m c (omega arith) in
      let n = length_append (items_of b) (joined (take (m + 1) cs)) in
      let p = length_append (items_of b) (joined (take m cs)) in
      let e : suc m + 1 ≡ suc (m + 1) = omega arith in
      let f = ap (λ j. before_part j (b ∷ cs)) e in
      omega arith

  pub before_within : (cs : List (Chunk X)) (m : ℕ) → before_part m cs ≤ length (joined cs)
  before_within [] zero = omega arith
  before_within [] (suc m) = omega arith
  before_within (b ∷ cs) zero = omega arith
  before_within (b ∷ cs) (suc m) = let r = before_within cs m in let n = length_append (items_of b) (joined (take m cs)) in let p = length_append (items_of b) (joined cs) in omega arith

  pub before_end : (cs : List (Chunk X)) → before_part (length cs) cs ≡ length (joined cs)
  before_end [] = refl
  before_end (b ∷ cs) = let r = before_end cs in let n = length_append (items_of b) (joined (take (length cs) cs)) in let p = length_append (items_of b) (joined cs) in omega arith

  -- an item of a part, by its place
  pub item_at : (cs : List (Chunk X)) (m : ℕ) (c : Chunk X) (i : ℕ) (d : X) → m < length cs → i < length (items_of (get_or cs m c)) → get_or (joined cs) (before_part m cs + i) d ≡ get_or (items_of (get_or cs m c)) i d
  item_at [] m c i d l h = absurd (omega arith)
  item_at (b ∷ cs) zero c i d l h = let e : 0 + i ≡ i = omega arith in ap (λ j. get_or (items_of b ++ joined cs) j d) e ∙ or_front (items_of b) (joined cs) i d h
  item_at (b ∷ cs) (suc m) c i d l h =
      let n = length_append (items_of b) (joined (take m cs)) in
      let e : before_part (suc m) (b ∷ cs) + i ≡ length (items_of b) + (before_part m cs + i) = omega arith in
      ap (λ j. get_or (items_of b ++ joined cs) j d) e ∙ or_later (items_of b) (joined cs) (before_part m cs + i) d ∙ item_at cs m c i d (omega arith) h

  pub each_at : (P : Chunk X → Type 0) (cs : List (Chunk X)) (m : ℕ) (c : Chunk X) → Each P cs → m < length cs → P (get_or cs m c)
  each_at P [] m c h l = absurd (omega arith)
  each_at P (b ∷ cs) zero c h l = h.0
  each_at P (b ∷ cs) (suc m) c h l = each_at P cs m c h.1 (omega arith)

some_item : {X : Type 0} (xs : List X) → 0 < length xs → X
some_item [] h = absurd (omega arith)
some_item (x ∷ xs) h = x

module _ {X K : Type 0} (key : X → K) (cmp : K → K → Ordering) (o : Exact cmp) where
  -- a part whose last item stands before the key
  pub passes : (k : K) (cs : List (Chunk X)) (m : ℕ) (c : Chunk X) (b : Bool) → Each Fills cs → Ascends key cmp (joined cs) → m < length cs → c ≡ get_or cs m c → EndsBefore key cmp k (items_of c) b → b ≡ true → before_part (m + 1) cs ≤ rank key cmp k (joined cs)
  passes k cs m c b f a l s e t =
      let n = before_next cs m c l in
      let z = ap (λ p. length (items_of p)) s in
      let w = (each_at Fills cs m c f l).0 in
      let v = before_within cs (m + 1) in
      let d = some_item (items_of c) (omega arith) in
      let i = length (items_of c) - 1 in
      let q = item_at cs m c i d l (omega arith) ∙ ap (λ p. get_or (items_of p) i d) (sym s) in
      let r = over_at key cmp o k (joined cs) (before_part m cs + i) d a (omega arith) (ap (λ x. is_lt (cmp (key x) k)) q ∙ e d ∙ t) in
      omega arith

  -- and one whose last item does not
  pub stops : (k : K) (cs : List (Chunk X)) (m : ℕ) (c : Chunk X) (b : Bool) → Each Fills cs → m < length cs → c ≡ get_or cs m c → EndsBefore key cmp k (items_of c) b → b ≡ false → rank key cmp k (joined cs) < before_part (m + 1) cs
  stops k cs m c b f l s e t =
      let n = before_next cs m c l in
      let z = ap (λ p. length (items_of p)) s in
      let w = (each_at Fills cs m c f l).0 in
      let v = before_within cs (m + 1) in
      let d = some_item (items_of c) (omega arith) in
      let i = length (items_of c) - 1 in
      let q = item_at cs m c i d l (omega arith) ∙ ap (λ p. get_or (items_of p) i d) (sym s) in
      let r = under_at key cmp o k (joined cs) (before_part m cs + i) d (omega arith) (ap (λ x. is_lt (cmp (key x) k)) q ∙ e d ∙ t) in
      omega arith

module _ {X : Type 0} where
  pub start_at : (n : ℕ) (cs : List (Chunk X)) (m : ℕ) (c : Chunk X) → Starts n cs → m < length cs → c ≡ get_or cs m c → c.start ≡ n + before_part m cs
  start_at n [] m c s l e = absurd (omega arith)
  start_at n (b ∷ cs) zero c s l e = let z = ap (λ p. p.start) e in let q = s.0 in omega arith
  start_at n (b ∷ cs) (suc m) c s l e = let r = start_at (n + length (items_of b)) cs m c s.1 (omega arith) e in let p = length_append (items_of b) (joined (take m cs)) in omega arith

  -- an item of a part
  pub get_in : (cs : List (Chunk X)) (m at : ℕ) (c : Chunk X) → Starts 0 cs → IsPartOf m at cs → c ≡ get_or cs m c → slice_get (joined cs) at ≡ slice_get (items_of c) (at - c.start)
  get_in cs m at c s p e =
      let a = start_at 0 cs m c s p.0 e in
      let n = before_next cs m c p.0 in
      let y = ap (λ z. length (items_of z)) e in
      let q = p.1 in
      let r = p.2 in
      let z : at ≡ before_part m cs + (at - c.start) = omega arith in
      ap (λ i. slice_get (joined cs) i) z ∙ get_within cs m c (at - c.start) p.0 e (omega arith)
    where
      get_within : (cs : List (Chunk X)) (m : ℕ) (c : Chunk X) (i : ℕ) → m < length cs → c ≡ get_or cs m c → i < length (items_of c) → slice_get (joined cs) (before_part m cs + i) ≡ slice_get (items_of c) i
      get_within [] m c i l e h = absurd (omega arith)
      get_within (b ∷ cs) zero c i l e h =
          let z : 0 + i ≡ i = omega arith in
          let y = ap (λ p. length (items_of p)) e in
          ap (λ j. slice_get (items_of b ++ joined cs) j) z ∙ append_front (items_of b) (joined cs) i (omega arith) ∙ sym (ap (λ p. slice_get (items_of p) i) e)
      get_within (b ∷ cs) (suc m) c i l e h =
          let n = length_append (items_of b) (joined (take m cs)) in
          let z : before_part (suc m) (b ∷ cs) + i ≡ length (items_of b) + (before_part m cs + i) = omega arith in
          ap (λ j. slice_get (items_of b ++ joined cs) j) z ∙ append_later (items_of b) (joined cs) (before_part m cs + i) ∙ get_within cs m c i (omega arith) e h
