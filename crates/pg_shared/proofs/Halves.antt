-- What a search by halving keeps: what stands before its lower place is below the key, what stands from its upper place on is above it.
use Rattle.std.proofs.Common.{ℕ, zero, suc, ◌≡◌, ◌+◌, ◌<◌, ◌≤◌, List, [], ◌∷◌, length, get_or, refl, ap, arith}
use Rattle.std.specs.declared.cmp.Ordering.{Ordering}
use Rattle.std.specs.declared.cmp.Ordering.TheVariants.{Less, Equal, Greater}
use Rattle.std.specs.Ordering.{ordering_index}
use Rattle.pg_keyed.specs.Keyed.{Ascends}
use Rattle.pg_keyed.specs.Orders.{Exact}
use Rattle.pg_keyed.specs.Searches.{rises}

index_less : (r : Ordering) → ordering_index r ≤ 0 → r ≡ Less
index_less Less h = refl
index_less Equal h = absurd (omega arith)
index_less Greater h = absurd (omega arith)

index_greater : (r : Ordering) → 2 ≤ ordering_index r → r ≡ Greater
index_greater Less h = absurd (omega arith)
index_greater Equal h = absurd (omega arith)
index_greater Greater h = refl

pub get_or_same : {X : Type 0} (xs : List X) (i : ℕ) (d e : X) → i < length xs → get_or xs i d ≡ get_or xs i e
get_or_same [] i d e l = absurd (omega arith)
get_or_same (x ∷ xs) zero d e l = refl
get_or_same (x ∷ xs) (suc i) d e l = get_or_same xs i d e (omega arith)

module _ {X K : Type 0} (key : X → K) (cmp : K → K → Ordering) (o : Exact cmp) where
  pub below : (k : K) (xs : List X) (m : ℕ) (c : X) → Ascends key cmp xs → m < length xs → cmp (key (get_or xs m c)) k ≡ Less → (j : ℕ) (d : X) → j < m + 1 → cmp (key (get_or xs j d)) k ≡ Less
  below k xs m c a l e j d h = index_less _ (let r = rises key cmp o k xs a j m d (omega arith) l in let q = ap (λ x. ordering_index (cmp (key x) k)) (get_or_same xs m d c l) in let i = ap ordering_index e in omega arith)

  pub above : (k : K) (xs : List X) (m : ℕ) (c : X) → Ascends key cmp xs → m < length xs → cmp (key (get_or xs m c)) k ≡ Greater → (j : ℕ) (d : X) → m ≤ j → j < length xs → cmp (key (get_or xs j d)) k ≡ Greater
  above k xs m c a l e j d h n = index_greater _ (let r = rises key cmp o k xs a m j d (omega arith) n in let q = ap (λ x. ordering_index (cmp (key x) k)) (get_or_same xs m d c l) in let i = ap ordering_index e in omega arith)
