-- One part replaced by others that have one item more.
use Rattle.std.proofs.Common.{ℕ, zero, suc, ◌≡◌, ◌+◌, ◌-◌, ◌<◌, ◌≤◌, List, [], ◌∷◌, ◌++◌, length, get_or, take, refl, ap, sym, subst, ◌∙◌, arith}
use Rattle.std.specs.Prelude.{slice_set}
use Rattle.std.specs.List.{insert}
use Rattle.pg_keyed.specs.Lists.{Each, each_append}
use Rattle.pg_chunks.specs.declared.part.Chunk.{Chunk}
use Rattle.pg_chunks.specs.Parts.{items_of, joined, before_part, IsPartOf, Grown, Same, Set, Starts, Fills, raised, raised_from}
use Rattle.pg_chunks.proofs.Places.{length_append, insert_later, insert_front, set_later, set_front}
use Rattle.pg_chunks.proofs.Splits.{before_next, start_at, each_at}
use Rattle.pg_chunks.proofs.Raises.{set_length}

pub append_assoc : {X : Type 0} (xs ys zs : List X) → (xs ++ ys) ++ zs ≡ xs ++ (ys ++ zs)
append_assoc [] ys zs = refl
append_assoc (x ∷ xs) ys zs = ap (λ vs. x ∷ vs) (append_assoc xs ys zs)

pub append_nil : {X : Type 0} (xs : List X) → xs ++ [] ≡ xs
append_nil [] = refl
append_nil (x ∷ xs) = ap (λ ys. x ∷ ys) (append_nil xs)

insert_length : {X : Type 0} (xs : List X) (i : ℕ) (x : X) → i ≤ length xs → length (insert xs i x) ≡ length xs + 1
insert_length [] zero x h = refl
insert_length [] (suc i) x h = absurd (omega arith)
insert_length (y ∷ ys) zero x h = omega arith
insert_length (y ∷ ys) (suc i) x h = let r = insert_length ys i x (omega arith) in omega arith

module _ {X : Type 0} where
  -- the parts ds stand for the part at m, and the parts behind it start one item later
  abbrev pub renewed : ℕ → List (Chunk X) → List (Chunk X) → List (Chunk X)
  renewed m [] ds = []
  renewed zero (c ∷ cs) ds = ds ++ raised cs
  renewed (suc m) (c ∷ cs) ds = c ∷ renewed m cs ds

  joined_raised : (cs : List (Chunk X)) → joined (raised cs) ≡ joined cs
  joined_raised [] = refl
  joined_raised (c ∷ cs) = ap (λ xs. items_of c ++ xs) (joined_raised cs)

  pub joined_append : (cs ds : List (Chunk X)) → joined (cs ++ ds) ≡ joined cs ++ joined ds
  joined_append [] ds = refl
  joined_append (c ∷ cs) ds = ap (λ xs. items_of c ++ xs) (joined_append cs ds) ∙ sym (append_assoc (items_of c) (joined cs) (joined ds))

  pub renewed_one : (cs : List (Chunk X)) (m : ℕ) (c : Chunk X) → m < length cs → raised_from (m + 1) (slice_set cs m c) ≡ renewed m cs (c ∷ [])
  renewed_one [] m c l = absurd (omega arith)
  renewed_one (b ∷ cs) zero c l = refl
  renewed_one (b ∷ cs) (suc m) c l =
      let s : suc m + 1 ≡ suc (m + 1) = omega arith in
      ap (λ j. raised_from j (b ∷ slice_set cs m c)) s ∙ ap (λ bs. b ∷ bs) (renewed_one cs m c (omega arith))

  pub renewed_two : (cs : List (Chunk X)) (m : ℕ) (c d : Chunk X) → m < length cs → raised_from (m + 2) (insert (slice_set cs m c) (m + 1) d) ≡ renewed m cs (c ∷ d ∷ [])
  renewed_two [] m c d l = absurd (omega arith)
  renewed_two (b ∷ cs) zero c d l = refl
  renewed_two (b ∷ cs) (suc m) c d l =
      let s : suc m + 2 ≡ suc (m + 2) = omega arith in
      let t : suc m + 1 ≡ suc (m + 1) = omega arith in
      ap (λ j. raised_from j (insert (b ∷ slice_set cs m c) (suc m + 1) d)) s ∙ ap (λ j. raised_from (suc (m + 2)) (insert (b ∷ slice_set cs m c) j d)) t ∙ ap (λ bs. b ∷ bs) (renewed_two cs m c d (omega arith))

  pub renewed_joined : (cs : List (Chunk X)) (m : ℕ) (c : Chunk X) (ds : List (Chunk X)) (i : ℕ) (x : X) → m < length cs → i ≤ length (items_of (get_or cs m c)) → joined ds ≡ insert (items_of (get_or cs m c)) i x → joined (renewed m cs ds) ≡ insert (joined cs) (before_part m cs + i) x
  renewed_joined [] m c ds i x l h e = absurd (omega arith)
  renewed_joined (b ∷ cs) zero c ds i x l h e =
      let z : 0 + i ≡ i = omega arith in
      joined_append ds (raised cs) ∙ ap (λ xs. joined ds ++ xs) (joined_raised cs) ∙ ap (λ xs. xs ++ joined cs) e ∙ sym (ap (λ j. insert (items_of b ++ joined cs) j x) z ∙ insert_front (items_of b) (joined cs) i x h)
  renewed_joined (b ∷ cs) (suc m) c ds i x l h e =
      let n = length_append (items_of b) (joined (take m cs)) in
      let z : before_part (suc m) (b ∷ cs) + i ≡ length (items_of b) + (before_part m cs + i) = omega arith in
      ap (λ xs. items_of b ++ xs) (renewed_joined cs m c ds i x (omega arith) h e) ∙ sym (ap (λ j. insert (items_of b ++ joined cs) j x) z ∙ insert_later (items_of b) (joined cs) (before_part m cs + i) x)

  starts_raised : (n p : ℕ) (cs : List (Chunk X)) → p ≡ n + 1 → Starts n cs → Starts p (raised cs)
  starts_raised n p [] e s = tt
  starts_raised n p (c ∷ cs) e s = (let q = s.0 in omega arith, starts_raised (n + length (items_of c)) (p + length (items_of c)) cs (omega arith) s.1)

  pub starts_append : (n : ℕ) (cs ds : List (Chunk X)) → Starts n cs → Starts (n + length (joined cs)) ds → Starts n (cs ++ ds)
  starts_append n [] ds s t = let e : n + 0 ≡ n = omega arith in subst (λ j. Starts j ds) e t
  starts_append n (c ∷ cs) ds s t =
      let l = length_append (items_of c) (joined cs) in
      let e : n + length (joined (c ∷ cs)) ≡ (n + length (items_of c)) + length (joined cs) = omega arith in
      (s.0, starts_append (n + length (items_of c)) cs ds s.1 (subst (λ j. Starts j ds) e t))

  pub renewed_starts : (n : ℕ) (cs : List (Chunk X)) (m : ℕ) (c : Chunk X) (ds : List (Chunk X)) → Starts n cs → m < length cs → Starts (n + before_part m cs) ds → length (joined ds) ≡ length (items_of (get_or cs m c)) + 1 → Starts n (renewed m cs ds)
  renewed_starts n [] m c ds s l t e = absurd (omega arith)
  renewed_starts n (b ∷ cs) zero c ds s l t e =
      let z : n + 0 ≡ n = omega arith in
      starts_append n ds (raised cs) (subst (λ j. Starts j ds) z t) (starts_raised (n + length (items_of b)) (n + length (joined ds)) cs (omega arith) s.1)
  renewed_starts n (b ∷ cs) (suc m) c ds s l t e =
      let p = length_append (items_of b) (joined (take m cs)) in
      let z : n + before_part (suc m) (b ∷ cs) ≡ (n + length (items_of b)) + before_part m cs = omega arith in
      (s.0, renewed_starts (n + length (items_of b)) cs m c ds s.1 (omega arith) (subst (λ j. Starts j ds) z t) e)

  fills_raised : (cs : List (Chunk X)) → Each Fills cs → Each Fills (raised cs)
  fills_raised [] f = tt
  fills_raised (c ∷ cs) f = (f.0, fills_raised cs f.1)

  pub renewed_fills : (cs : List (Chunk X)) (m : ℕ) (ds : List (Chunk X)) → Each Fills cs → Each Fills ds → Each Fills (renewed m cs ds)
  renewed_fills [] zero ds f g = tt
  renewed_fills [] (suc m) ds f g = tt
  renewed_fills (c ∷ cs) zero ds f g = each_append Fills ds (raised cs) g (fills_raised cs f.1)
  renewed_fills (c ∷ cs) (suc m) ds f g = (f.0, renewed_fills cs m ds f.1 g)

  grown : (cs : List (Chunk X)) (m at : ℕ) (c : Chunk X) (x : X) (ds : List (Chunk X)) → Starts 0 cs → Each Fills cs → IsPartOf m at cs → c ≡ get_or cs m c
      → joined ds ≡ insert (items_of c) (at - c.start) x → Starts c.start ds → Each Fills ds → Grown cs at x (renewed m cs ds)
  grown cs m at c x ds s f p e j t g =
      let a = start_at 0 cs m c s p.0 e in
      let n = before_next cs m c p.0 in
      let q = p.1 in
      let r = p.2 in
      let z : before_part m cs + (at - c.start) ≡ at = omega arith in
      let items : items_of c ≡ items_of (get_or cs m c) = ap (λ b. items_of b) e in
      let k = ap length items in
      let w : joined ds ≡ insert (items_of (get_or cs m c)) (at - c.start) x = j ∙ ap (λ xs. insert xs (at - c.start) x) items in
      let long = ap length w ∙ insert_length (items_of (get_or cs m c)) (at - c.start) x (omega arith) in
      record {
        whole = renewed_joined cs m c ds (at - c.start) x p.0 (omega arith) w ∙ ap (λ i. insert (joined cs) i x) z;
        starts = renewed_starts 0 cs m c ds s p.0 (let y : c.start ≡ 0 + before_part m cs = a in subst (λ i. Starts i ds) y t) long;
        fills = renewed_fills cs m ds f g;
      }

  -- the part has one item more
  pub grown_roomy : (cs : List (Chunk X)) (m at : ℕ) (c d : Chunk X) (x : X) → Starts 0 cs → Each Fills cs → IsPartOf m at cs → before_part (m + 1) cs < before_part m cs + 127 → c ≡ get_or cs m c
      → d.start ≡ c.start → items_of d ≡ insert (items_of c) (at - c.start) x → Grown cs at x (raised_from (m + 1) (slice_set cs m d))
  grown_roomy cs m at c d x s f p room e b i =
      let n = before_next cs m c p.0 in
      let a = start_at 0 cs m c s p.0 e in
      let q = p.1 in
      let r = p.2 in
      let k = ap (λ y. length (items_of y)) e in
      let long = ap length i ∙ insert_length (items_of c) (at - c.start) x (omega arith) in
      let fit = each_at Fills cs m c f p.0 in
      let low = fit.0 in
      subst (λ ds. Grown cs at x ds) (sym (renewed_one cs m d p.0))
      (grown cs m at c x (d ∷ []) s f p e (append_nil (items_of d) ∙ i) (b, tt) ((omega arith, omega arith), tt))

  -- the part is two
  pub grown_split : (cs : List (Chunk X)) (m at : ℕ) (c d : Chunk X) (f : Chunk X) (x : X) → Starts 0 cs → Each Fills cs → IsPartOf m at cs → c ≡ get_or cs m c
      → d.start ≡ c.start → f.start ≡ c.start + 64 → length (items_of d) ≡ 64 → length (items_of f) ≡ 64 → items_of d ++ items_of f ≡ insert (items_of c) (at - c.start) x
      → Grown cs at x (raised_from (m + 2) (insert (slice_set cs m d) (m + 1) f))
  grown_split cs m at c d f x s g p e b h k l i =
      subst (λ ds. Grown cs at x ds) (sym (renewed_two cs m d f p.0))
      (grown cs m at c x (d ∷ f ∷ []) s g p e (ap (λ xs. items_of d ++ xs) (append_nil (items_of f)) ∙ i) (b, (omega arith, tt)) ((omega arith, omega arith), ((omega arith, omega arith), tt)))

  -- one part set to one with as many items
  set_starts : (n : ℕ) (cs : List (Chunk X)) (m : ℕ) (c d : Chunk X) → Starts n cs → c ≡ get_or cs m c → d.start ≡ c.start → length (items_of d) ≡ length (items_of c) → Starts n (slice_set cs m d)
  set_starts n [] zero c d s e b l = tt
  set_starts n [] (suc m) c d s e b l = tt
  set_starts n (a ∷ cs) zero c d s e b l =
      let z = ap (λ p. p.start) e in
      let y = ap (λ p. length (items_of p)) e in
      let w : n + length (items_of a) ≡ n + length (items_of d) = omega arith in
      (let q = s.0 in omega arith, subst (λ i. Starts i cs) w s.1)
  set_starts n (a ∷ cs) (suc m) c d s e b l = (s.0, set_starts (n + length (items_of a)) cs m c d s.1 e b l)

  set_fills : (cs : List (Chunk X)) (m : ℕ) (d : Chunk X) → Each Fills cs → Fills d → Each Fills (slice_set cs m d)
  set_fills [] zero d f g = tt
  set_fills [] (suc m) d f g = tt
  set_fills (a ∷ cs) zero d f g = (g, f.1)
  set_fills (a ∷ cs) (suc m) d f g = (f.0, set_fills cs m d f.1 g)

  set_same : (cs : List (Chunk X)) (m : ℕ) (c d : Chunk X) → m < length cs → c ≡ get_or cs m c → items_of d ≡ items_of c → joined (slice_set cs m d) ≡ joined cs
  set_same [] m c d l e i = absurd (omega arith)
  set_same (a ∷ cs) zero c d l e i = ap (λ xs. xs ++ joined cs) (i ∙ ap (λ p. items_of p) e)
  set_same (a ∷ cs) (suc m) c d l e i = ap (λ xs. items_of a ++ xs) (set_same cs m c d (omega arith) e i)

  set_joined : (cs : List (Chunk X)) (m : ℕ) (c d : Chunk X) (i : ℕ) (x : X) → m < length cs → c ≡ get_or cs m c → i < length (items_of c) → items_of d ≡ slice_set (items_of c) i x → joined (slice_set cs m d) ≡ slice_set (joined cs) (before_part m cs + i) x
  set_joined [] m c d i x l e h s = absurd (omega arith)
  set_joined (a ∷ cs) zero c d i x l e h s =
      let z : 0 + i ≡ i = omega arith in
      let w : items_of c ≡ items_of a = ap (λ p. items_of p) e in
      let y = ap length w in
      ap (λ xs. xs ++ joined cs) (s ∙ ap (λ xs. slice_set xs i x) w) ∙ sym (ap (λ j. slice_set (items_of a ++ joined cs) j x) z ∙ set_front (items_of a) (joined cs) i x (omega arith))
  set_joined (a ∷ cs) (suc m) c d i x l e h s =
      let n = length_append (items_of a) (joined (take m cs)) in
      let z : before_part (suc m) (a ∷ cs) + i ≡ length (items_of a) + (before_part m cs + i) = omega arith in
      ap (λ xs. items_of a ++ xs) (set_joined cs m c d i x (omega arith) e h s) ∙ sym (ap (λ j. slice_set (items_of a ++ joined cs) j x) z ∙ set_later (items_of a) (joined cs) (before_part m cs + i) x)

  fill_of : (cs : List (Chunk X)) (m : ℕ) (c d : Chunk X) → Each Fills cs → m < length cs → c ≡ get_or cs m c → length (items_of d) ≡ length (items_of c) → Fills d
  fill_of cs m c d f l e n = let w = each_at Fills cs m c f l in let y = ap (λ p. length (items_of p)) e in let a = w.0 in let b = w.1 in (omega arith, omega arith)

  pub same_set : (cs : List (Chunk X)) (m : ℕ) (c d : Chunk X) → Starts 0 cs → Each Fills cs → m < length cs → c ≡ get_or cs m c → d.start ≡ c.start → items_of d ≡ items_of c → Same cs (slice_set cs m d)
  same_set cs m c d s f l e b i = record {
    whole = set_same cs m c d l e i;
    starts = set_starts 0 cs m c d s e b (ap length i);
    fills = set_fills cs m d f (fill_of cs m c d f l e (ap length i));
  }

  pub is_set : (cs : List (Chunk X)) (m at : ℕ) (c d : Chunk X) (x : X) → Starts 0 cs → Each Fills cs → IsPartOf m at cs → c ≡ get_or cs m c → d.start ≡ c.start → items_of d ≡ slice_set (items_of c) (at - c.start) x → Set cs at x (slice_set cs m d)
  is_set cs m at c d x s f p e b i =
      let a = start_at 0 cs m c s p.0 e in
      let n = before_next cs m c p.0 in
      let y = ap (λ z. length (items_of z)) e in
      let q = p.1 in
      let r = p.2 in
      let k : length (items_of d) ≡ length (items_of c) = ap length i ∙ set_length (items_of c) (at - c.start) x in
      let z : before_part m cs + (at - c.start) ≡ at = omega arith in
      record {
        whole = set_joined cs m c d (at - c.start) x p.0 e (omega arith) i ∙ ap (λ j. slice_set (joined cs) j x) z;
        starts = set_starts 0 cs m c d s e b k;
        fills = set_fills cs m d f (fill_of cs m c d f p.0 e k);
      }

  -- the same, of a list that equals the first
  pub split_in : (cs bs es ds : List (Chunk X)) (m at : ℕ) (c d : Chunk X) (f : Chunk X) (x : X) → bs ≡ cs → Starts 0 cs → Each Fills cs → IsPartOf m at cs → c ≡ get_or bs m c
      → d.start ≡ c.start → f.start ≡ c.start + 64 → length (items_of d) ≡ 64 → length (items_of f) ≡ 64 → items_of d ++ items_of f ≡ insert (items_of c) (at - c.start) x
      → es ≡ insert (slice_set bs m d) (m + 1) f → ds ≡ raised_from (m + 2) es → Grown cs at x ds
  split_in cs bs es ds m at c d f x q s g p e b h k l i j r =
      let made : ds ≡ raised_from (m + 2) (insert (slice_set cs m d) (m + 1) f) = r ∙ ap (λ y. raised_from (m + 2) y) (j ∙ ap (λ y. insert (slice_set y m d) (m + 1) f) q) in
      subst (λ y. Grown cs at x y) (sym made) (grown_split cs m at c d f x s g p (e ∙ ap (λ y. get_or y m c) q) b h k l i)

  pub same_in : (cs bs : List (Chunk X)) (m : ℕ) (c d : Chunk X) → bs ≡ cs → Starts 0 cs → Each Fills cs → m < length cs → c ≡ get_or bs m c → d.start ≡ c.start → items_of d ≡ items_of c → Same cs (slice_set bs m d)
  same_in cs bs m c d q s f l e b i = subst (λ y. Same cs (slice_set y m d)) (sym q) (same_set cs m c d s f l (e ∙ ap (λ y. get_or y m c) q) b i)
