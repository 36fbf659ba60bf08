use Rattle.std.proofs.Common.{ℕ, ◌≡◌, ◌+◌, ◌<◌, List, [], ◌∷◌, ◌++◌, length, take, get_or, sym, subst, add-one}
use Rattle.std.proofs.Math.Seq.{take-suc}
use Rattle.std.specs.List.{AllZip}
use Rattle.pg_adj.specs.Adjacency.{AreBoth}
use Rattle.pg_adj.proofs.adj.all_ends.Goals as goal

zip_push : {A B : Type 0} (R : A → B → Type 0) (xs : List A) (ys : List B) (x : A) (y : B) → AllZip R xs ys → R x y → AllZip R (xs ++ x ∷ []) (ys ++ y ∷ [])
zip_push R [] [] x y h r = (r, tt)
zip_push R [] (w ∷ ys) x y h r = absurd h
zip_push R (z ∷ xs) [] x y h r = absurd h
zip_push R (z ∷ xs) (w ∷ ys) x y h r = (h.0, zip_push R xs ys x y h.1 r)

one_more : {A B : Type 0} (R : A → B → Type 0) (xs : List A) (ys new : List B) (i : ℕ) (x : A) (y : B) → i < length xs → x ≡ get_or xs i x → AllZip R (take i xs) ys → R x y → new ≡ ys ++ y ∷ [] → AllZip R (take (i + 1) xs) new
one_more R xs ys new i x y l e h r n =
    rw add-one (rw n (subst (λ zs. AllZip R zs (ys ++ y ∷ [])) (sym (take-suc xs i x l)) (zip_push R (take i xs) ys (get_or xs i x) y h (subst (λ z. R z y) e r))))

pub loop-list-preserved : goal.loop-list-preserved
loop-list-preserved c =
    one_more AreBoth c.args.lists.now c.loop-list.tables.items c.push.new.self.items c.loop-list.list-index c.list-item.result c.in_ok-both_ends.field-0 c.loop-list-test.true c.list-item.is c.loop-list.invariant
    (subst (λ ends. AreBoth ends c.in_ok-both_ends.field-0) c.as_slice.ensures c.in_ok-both_ends.ensures) c.in_ok-push.ensures.items
