-- What is given for the starts of each stretch is what is given for all starts.
use Rattle.std.proofs.Common.{ℕ, zero, suc, ◌≡◌, ◌+◌, ◌<◌, List, [], ◌∷◌, ◌++◌, Ok, Err, IfOk, map, take, length, get_or, ap, sym, subst, ◌∙◌, arith, append-nil}
use Rattle.std.specs.List.{AllZip, flat_map}
use Rattle.std.specs.declared.result.Result.{Result}
use Rattle.std.proofs.lemmas.List.{take_more, map-append}
use Rattle.std.proofs.lemmas.Grind.{flat_map-append}
use Rattle.pg_keyed.specs.Lists.{Each}
use Rattle.pg_work.specs.Parts.{AreParts}

pub each_at : {X : Type 0} (P : X → Type 0) (xs : List X) (i : ℕ) (x : X) → Each P xs → i < length xs → x ≡ get_or xs i x → P x
each_at P [] i x h l e = absurd (omega arith)
each_at P (y ∷ ys) zero x h l e = subst P (sym e) h.0
each_at P (y ∷ ys) (suc i) x h l e = each_at P ys i x h.1 (omega arith) e

zip_append : {A B : Type 0} (R : A → B → Type 0) (xs : List A) (ys : List B) (us : List A) (vs : List B) → AllZip R xs ys → AllZip R us vs → AllZip R (xs ++ us) (ys ++ vs)
zip_append R [] [] us vs h k = k
zip_append R [] (y ∷ ys) us vs h k = absurd h
zip_append R (x ∷ xs) [] us vs h k = absurd h
zip_append R (x ∷ xs) (y ∷ ys) us vs h k = (h.0, zip_append R xs ys us vs h.1 k)

-- one more start
pub one_more : {A B : Type 0} (R : A → B → Type 0) (xs : List A) (ys zs : List B) (i : ℕ) (x : A) (y : B) → i < length xs → x ≡ get_or xs i x → zs ≡ ys ++ y ∷ [] → AllZip R (take i xs) ys → R x y → AllZip R (take (i + 1) xs) zs
one_more R xs ys zs i x y l e q h r =
    let front : take (i + 1) xs ≡ take i xs ++ x ∷ [] = take_more xs i x l ∙ ap (λ z. take i xs ++ z ∷ []) (sym e) in
    rw (front, q) (zip_append R (take i xs) ys (x ∷ []) (y ∷ []) h (r, tt))

-- one more part
pub part_more : {X E : Type 0} (parts : List (Result (List X) E)) (made : List X) (list : List X) (part : Result (List X) E) (all : List X) → part ≡ Ok list → all ≡ made ++ list → AreParts parts made → AreParts (parts ++ part ∷ []) all
part_more parts made list part all p q (lists, is, joined) = (
  lists ++ list ∷ [],
  rw (is, p) (sym (map-append (λ l. Ok l) lists (list ∷ []))),
  q ∙ ap (λ l. l ++ list) joined ∙ ap (λ l. flat_map (λ l. l) lists ++ l) (sym (append-nil list)) ∙ sym (flat_map-append (λ l. l) lists (list ∷ [])),
)

-- stretches of one job, none of which was refused
all_given : {S J X Y : Type 0} (E : Type 0) (job_of : S → J) (starts_of : S → List X) (P : J → X → Y → Type 0) (job : J) (ss : List S) (lists : List (List Y)) → Each (λ s. job_of s ≡ job) ss → AllZip (λ (s : S) (r : Result (List Y) E). IfOk r (AllZip (P (job_of s)) (starts_of s))) ss (map (λ list. Ok list) lists) → AllZip (P job) (flat_map starts_of ss) (flat_map (λ list. list) lists)
all_given E job_of starts_of P job [] [] h k = tt
all_given E job_of starts_of P job [] (l ∷ ls) h k = absurd k
all_given E job_of starts_of P job (s ∷ ss) [] h k = absurd k
all_given E job_of starts_of P job (s ∷ ss) (l ∷ ls) h k = zip_append (P job) (starts_of s) l (flat_map starts_of ss) (flat_map (λ list. list) ls) (subst (λ j. AllZip (P j) (starts_of s) l) h.0 k.0) (all_given E job_of starts_of P job ss ls h.1 k.1)

pub given_for_all : {S J X Y E : Type 0} (job_of : S → J) (starts_of : S → List X) (P : J → X → Y → Type 0) (job : J) (starts : List X) (ss : List S) (parts : List (Result (List Y) E)) (made : List Y) → flat_map starts_of ss ≡ starts → Each (λ s. job_of s ≡ job) ss → AllZip (λ (s : S) (r : Result (List Y) E). IfOk r (AllZip (P (job_of s)) (starts_of s))) ss parts → AreParts parts made → AllZip (P job) starts made
given_for_all {S} {J} {X} {Y} {E} job_of starts_of P job starts ss parts made whole same given (lists, is, joined) = rw (← whole, joined) (all_given E job_of starts_of P job ss lists same (rw is at given))

pub ok_then : {X E : Type 0} (P Q : X → Type 0) (r : Result X E) → ((x : X) → P x → Q x) → IfOk r P → IfOk r Q
ok_then P Q (Ok x) f h = f x h
ok_then P Q (Err e) f h = tt
