-- How many items all chunks have.
use Rattle.std.proofs.Common.{ℕ, zero, suc, ◌≡◌, ◌+◌, List, [], ◌∷◌, length, get_or, take, arith, length-append}
use Rattle.pg_shared.specs.declared.part.Part.{Part}
use Rattle.pg_shared.specs.Parts.{joined, before_part, IsKept}
use Rattle.pg_shared.proofs.Walks.{next_part, start_at}

module _ {X : Type 0} where
  total : (ps : List (Part X)) (n : ℕ) → n ≡ length ps → before_part n ps ≡ length (joined ps)
  total [] zero e = omega arith
  total [] (suc n) e = absurd (omega arith)
  total (p ∷ ps) zero e = absurd (omega arith)
  total (p ∷ ps) (suc n) e = let r = total ps n (omega arith) in let a = length-append p.items (joined (take n ps)) in let b = length-append p.items (joined ps) in omega arith

  pub last_end : (ps : List (Part X)) (i : ℕ) (p : Part X) → IsKept ps → i + 1 ≡ length ps → p ≡ get_or ps i p → p.before + length p.items ≡ length (joined ps)
  last_end ps i p kept l e =
      let s = start_at 0 ps i p kept.starts (omega arith) e in
      let n = next_part ps i p (omega arith) e in
      let t = total ps (i + 1) l in
      omega arith
