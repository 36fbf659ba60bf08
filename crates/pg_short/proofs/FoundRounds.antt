-- Lists of rounds as they are read, and as they are meant.
use Rattle.std.proofs.Common.{◌≡◌, ◌<◌, ◌+◌, ℕ, zero, suc, Bool, true, false, cond, List, [], ◌∷◌, ◌++◌, length, take, drop, get_or, ◌≤◌, ◌-◌, map, refl, arith, ap, sym, ◌∙◌, append_assoc, add-one}
use Rattle.std.specs.Prelude.{flat_map, filter, IfOk, OnOk}
use Rattle.std.specs.declared.result.Result.{Result}
use Rattle.std.specs.declared.result.Result.TheVariants.{Ok, Err}
use Rattle.pg_value.specs.declared.shape.ElemId.{ElemId}
use Rattle.pg_meaning.specs.Walks.{Hop}
use Rattle.pg_meaning.specs.Rounds.{Leg}
use Rattle.pg_view.specs.declared.view.Neighbour.{Neighbour}
use Rattle.pg_view.specs.Neighbours.{neighbour}
use Rattle.pg_auto.specs.Stages.{Stage}
use Rattle.pg_auto.specs.States.{Task}
use Rattle.pg_auto.specs.Successors.{is_round, longer}
use Rattle.pg_search.specs.Hops.{hop_view}
use Rattle.pg_short.specs.Rounds.{hops_in, all_hops, fitting_one, longer_over}

pub if_ok : {A E : Type 0} (r : Result A E) (P Q : A → Type 0) → ((x : A) → P x → Q x) → IfOk r P → IfOk r Q
if_ok (Ok x) P Q f h = f x h
if_ok (Err e) P Q f h = tt

pub on_ok : {A E : Type 0} (r : Result A E) (P Q : Type 0) → (P → Q) → OnOk r P → OnOk r Q
on_ok (Ok x) P Q f h = f h
on_ok (Err e) P Q f h = tt

map_both : {X Y : Type 0} (f : X → Y) (xs ys : List X) → map f (xs ++ ys) ≡ map f xs ++ map f ys
map_both f [] ys = refl
map_both f (x ∷ xs) ys = ap (λ zs. f x ∷ zs) (map_both f xs ys)

pub all_both : (xs ys : List (List Neighbour)) → all_hops (xs ++ ys) ≡ all_hops xs ++ all_hops ys
all_both xs ys = map_both hops_in xs ys

pub each_longer : (front : List Neighbour) (xs : List Hop) → all_hops (map (λ hop. front ++ hop ∷ []) (map neighbour xs)) ≡ map (λ hop. hops_in front ++ hop ∷ []) xs
each_longer front [] = refl
each_longer front (x ∷ xs) = let first = map_both hop_view front (neighbour x ∷ []) in let rest = each_longer front xs in λ i. first i ∷ rest i

pub rounds_tested : (t : Task) (stage : Stage) (v : ElemId) (rounds : List (List Neighbour)) → all_hops (flat_map (fitting_one t stage v) rounds) ≡ filter (is_round t stage v) (all_hops rounds)
rounds_tested t stage v [] = refl
rounds_tested t stage v (hops ∷ rounds) = go (is_round t stage v (hops_in hops)) (rounds_tested t stage v rounds)
  where
    go : (b : Bool) → all_hops (flat_map (fitting_one t stage v) rounds) ≡ filter (is_round t stage v) (all_hops rounds)
        → all_hops (cond b (hops ∷ []) [] ++ flat_map (fitting_one t stage v) rounds) ≡ cond b (hops_in hops ∷ filter (is_round t stage v) (all_hops rounds)) (filter (is_round t stage v) (all_hops rounds))
    go true r = ap (λ hs. hops_in hops ∷ hs) r
    go false r = r

pub longer_all : (t : Task) (leg : Leg) (v : ElemId) (found : List (List Neighbour)) → flat_map (longer_over t leg v) found ≡ flat_map (longer t leg v) (all_hops found)
longer_all t leg v [] = refl
longer_all t leg v (front ∷ found) = ap (λ hs. longer_over t leg v front ++ hs) (longer_all t leg v found)

pub flat_one_more : {X Y : Type 0} (f : X → List Y) (xs : List X) (i : ℕ) (x : X) → i < length xs → x ≡ get_or xs i x → flat_map f (take i xs) ++ f x ≡ flat_map f (take (i + 1) xs)
flat_one_more f [] i x l e = absurd (omega arith)
flat_one_more f (y ∷ ys) zero x l e = let same : x ≡ y = e in append-nil' (f x) ∙ ap (λ z. f z ++ []) same
  where
    append-nil' : {Y : Type 0} (ys : List Y) → ys ≡ ys ++ []
    append-nil' [] = refl
    append-nil' (z ∷ zs) = ap (λ us. z ∷ us) (append-nil' zs)
flat_one_more f (y ∷ ys) (suc i) x l e = rw add-one (append_assoc (f y) (flat_map f (take i ys)) (f x) ∙ ap (λ zs. f y ++ zs) (rw add-one at (flat_one_more f ys i x (omega arith) e)))

take_all : {X : Type 0} (xs : List X) (n : ℕ) → length xs ≤ n → take n xs ≡ xs
take_all [] zero l = refl
take_all [] (suc n) l = refl
take_all (x ∷ xs) zero l = absurd (omega arith)
take_all (x ∷ xs) (suc n) l = ap (λ ys. x ∷ ys) (take_all xs n (omega arith))

pub split_first : {X : Type 0} (xs : List X) (x : X) → 1 ≤ length xs → x ≡ get_or xs 0 x → xs ≡ x ∷ take (length xs - 1) (drop 1 xs)
split_first [] x l e = absurd (omega arith)
split_first (y ∷ ys) x l e = ap (λ z. z ∷ ys) (sym e) ∙ ap (λ zs. x ∷ zs) (sym (take_all ys (length (y ∷ ys) - 1) (omega arith)))
