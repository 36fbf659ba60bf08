-- How many items stand before a key, and what items above a key read.
use Rattle.std.proofs.Common.{suc, ◌≡◌, ◌+◌, ◌≤◌, List, [], ◌∷◌, length, true, false, cond, refl, ap, arith}
use Rattle.std.specs.declared.option.Option.TheVariants.{None}
use Rattle.std.specs.declared.cmp.Ordering.{Ordering}
use Rattle.std.specs.declared.cmp.Ordering.TheVariants.{Less}
use Rattle.std.specs.Ordering.{is_eq, is_gt}
use Rattle.pg_keyed.specs.Keyed.{Above, get, rank}
use Rattle.pg_keyed.specs.Orders.{Exact, less}

module _ {X K : Type 0} (key : X → K) (cmp : K → K → Ordering) (o : Exact cmp) where
  pub rank_within : (k : K) (xs : List X) → rank key cmp k xs ≤ length xs
  rank_within k [] = omega arith
  rank_within k (y ∷ ys) = let r = rank_within k ys in elim (is_gt (cmp k (key y))) as (λ b. cond b (rank key cmp k ys + 1) 0 ≤ suc (length ys)) [ true ↦ omega arith | false ↦ omega arith ]

  pub above_none : (k : K) (xs : List X) → Above key cmp k xs → get key cmp k xs ≡ None
  above_none k [] h = refl
  above_none k (y ∷ ys) h = rw (ap is_eq h.0) (above_none k ys h.1)

  pub above_less : (j k : K) (xs : List X) → cmp j k ≡ Less → Above key cmp k xs → Above key cmp j xs
  above_less j k [] l h = tt
  above_less j k (y ∷ ys) l h = (less o j k (key y) l h.0, above_less j k ys l h.1)
