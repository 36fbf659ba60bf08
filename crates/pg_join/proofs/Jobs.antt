-- What a job promises for each start.
use Rattle.std.proofs.Common.{List, [], ◌∷◌}
use Rattle.std.specs.List.{AllZip}
use Rattle.pg_keyed.specs.Lists.{Each}

pub each_same : {X : Type 0} (P : Type 0) (xs : List X) → P → Each (λ x. P) xs
each_same P [] p = tt
each_same P (x ∷ xs) p = (p, each_same P xs p)

pub zip_weaker : {X Y : Type 0} (P Q : X → Y → Type 0) → ((x : X) (y : Y) → P x y → Q x y) → (xs : List X) (ys : List Y) → AllZip P xs ys → AllZip Q xs ys
zip_weaker P Q f [] [] z = tt
zip_weaker P Q f [] (y ∷ ys) z = absurd z
zip_weaker P Q f (x ∷ xs) [] z = absurd z
zip_weaker P Q f (x ∷ xs) (y ∷ ys) z = (f x y z.0, zip_weaker P Q f xs ys z.1)
