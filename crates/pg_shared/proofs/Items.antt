-- One item of a list, and the first of those that stand together.
use Rattle.std.proofs.Common.{ℕ, zero, suc, ◌≡◌, ◌<◌, List, [], ◌∷◌, ◌++◌, length, get_or, refl, ap, sym, ◌∙◌, arith}
use Rattle.std.specs.Prelude.{slice_get}
use Rattle.std.specs.declared.option.Option.TheVariants.{Some}
use Rattle.pg_chunks.specs.Parts.{IsRun}

module _ {X : Type 0} where
  get_behind : (front run back : List X) (at : ℕ) (d : X) → length front ≡ at → 0 < length run → get_or (front ++ (run ++ back)) at d ≡ get_or run 0 d
  get_behind [] [] back at d e l = absurd (omega arith)
  get_behind [] (r ∷ run) back zero d e l = refl
  get_behind [] (r ∷ run) back (suc at) d e l = absurd (omega arith)
  get_behind (x ∷ front) run back zero d e l = absurd (omega arith)
  get_behind (x ∷ front) run back (suc at) d e l = get_behind front run back at d (omega arith) l

  pub first_of_run : (xs run : List X) (at : ℕ) (d : X) → IsRun at xs run → get_or xs at d ≡ get_or run 0 d
  first_of_run xs run at d r = ap (λ l. get_or l at d) r.3 ∙ get_behind r.0 run r.1 at d r.2 r.4

  pub found : (xs : List X) (i : ℕ) (x : X) → i < length xs → x ≡ get_or xs i x → slice_get xs i ≡ Some x
  found [] i x l e = absurd (omega arith)
  found (y ∷ xs) zero x l e = ap (λ z. Some z) (sym e)
  found (y ∷ xs) (suc i) x l e = found xs i x (omega arith) e
