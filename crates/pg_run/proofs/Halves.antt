-- A search by halving: the items before `low` are below the key, those from `high` on are above it.
use Rattle.std.proofs.Common.{ℕ, zero, suc, ◌≡◌, ◌+◌, ◌<◌, ◌≤◌, List, [], ◌∷◌, length, get_or, refl, ap, sym, ◌∙◌, arith}
use Rattle.std.specs.Prelude.{slice_get, Ok, Err}
use Rattle.std.specs.declared.option.Option.TheVariants.{Some, None}
use Rattle.std.specs.declared.cmp.Ordering.{Ordering}
use Rattle.std.specs.declared.cmp.Ordering.TheVariants.{Less, Equal, Greater}
use Rattle.std.specs.Ordering.{ordering_index}
use Rattle.pg_keyed.specs.Keyed.{Ascends, get}
use Rattle.pg_keyed.specs.Orders.{Exact, turn}
use Rattle.pg_keyed.specs.Searches.{rises, sought}

module _ {X K : Type 0} (key : X → K) (cmp : K → K → Ordering) where
  pub record Between (k : K) (xs : List X) (low high : ℕ) : Type 0 where
    pub ordered : low ≤ high
    pub within : high ≤ length xs
    pub below : (j : ℕ) (d : X) → j < low → cmp (key (get_or xs j d)) k ≡ Less
    pub above : (j : ℕ) (d : X) → high ≤ j → j < length xs → cmp (key (get_or xs j d)) k ≡ Greater

lowest : (r : Ordering) → ordering_index r ≤ 0 → r ≡ Less
lowest Less h = refl
lowest Equal h = absurd (omega arith)
lowest Greater h = absurd (omega arith)

highest : (r : Ordering) → 2 ≤ ordering_index r → r ≡ Greater
highest Less h = absurd (omega arith)
highest Equal h = absurd (omega arith)
highest Greater h = refl

same_default : {X : Type 0} (xs : List X) (i : ℕ) (d e : X) → i < length xs → get_or xs i d ≡ get_or xs i e
same_default [] i d e l = absurd (omega arith)
same_default (x ∷ xs) zero d e l = refl
same_default (x ∷ xs) (suc i) d e l = same_default xs i d e (omega arith)

module _ {X K : Type 0} (key : X → K) (cmp : K → K → Ordering) (o : Exact cmp) where
  pub all_between : (k : K) (xs : List X) → Between key cmp k xs 0 (length xs)
  all_between k xs = record { ordered = omega arith; within = omega arith; below = λ j d l. absurd (omega arith); above = λ j d l m. absurd (omega arith) }

  -- the key is above that of an item
  pub upper : (k : K) (xs : List X) (low high m : ℕ) (x : X) → Ascends key cmp xs → Between key cmp k xs low high → m < high → x ≡ get_or xs m x → cmp k (key x) ≡ Greater → Between key cmp k xs (m + 1) high
  upper k xs low high m x a b l e g = record {
    ordered = omega arith;
    within = b.within;
    below = λ j d n.
        let w = b.within in
        let p = rises key cmp o k xs a j m d (omega arith) (omega arith) in
        let q : cmp (key (get_or xs m d)) k ≡ Less = ap (λ y. cmp (key y) k) (same_default xs m d x (omega arith) ∙ sym e) ∙ turn o k (key x) Greater g in
        lowest _ (let r = ap ordering_index q in omega arith);
    above = b.above;
  }

  -- the key is below that of an item
  pub lower : (k : K) (xs : List X) (low high m : ℕ) (x : X) → Ascends key cmp xs → Between key cmp k xs low high → low ≤ m → m < high → x ≡ get_or xs m x → cmp k (key x) ≡ Less → Between key cmp k xs low m
  lower k xs low high m x a b s l e g = record {
    ordered = s;
    within = let w = b.within in omega arith;
    below = b.below;
    above = λ j d n t.
        let w = b.within in
        let p = rises key cmp o k xs a m j d (omega arith) (omega arith) in
        let q : cmp (key (get_or xs m d)) k ≡ Greater = ap (λ y. cmp (key y) k) (same_default xs m d x (omega arith) ∙ sym e) ∙ turn o k (key x) Less g in
        highest _ (let r = ap ordering_index q in omega arith);
  }

  pub here : (k : K) (xs : List X) (m : ℕ) (x : X) → Ascends key cmp xs → m < length xs → x ≡ get_or xs m x → cmp k (key x) ≡ Equal → Some x ≡ get key cmp k xs
  here k xs m x a l e g = sym ((sought key cmp o k xs (Ok m) a l (λ d. ap (λ y. cmp (key y) k) (same_default xs m d x l ∙ sym e) ∙ turn o k (key x) Equal g)).2 ∙ at xs m x l e)
    where
      at : (xs : List X) (m : ℕ) (x : X) → m < length xs → x ≡ get_or xs m x → slice_get xs m ≡ Some x
      at [] m x l e = absurd (omega arith)
      at (y ∷ ys) zero x l e = ap Some (sym e)
      at (y ∷ ys) (suc m) x l e = at ys m x (omega arith) e

  pub nowhere : (k : K) (xs : List X) (low high : ℕ) → Ascends key cmp xs → Between key cmp k xs low high → high ≤ low → None ≡ get key cmp k xs
  nowhere k xs low high a b l = let w = b.within in sym (sought key cmp o k xs (Err low) a (let t = b.ordered in omega arith) (λ r. (λ j d z m. b.below j d m, λ j d m n. b.above j d (let t = b.ordered in omega arith) n))).2
