-- Sets of names, and names that stand twice, as one pass finds them.
use Rattle.std.specs.Prelude.{ℕ, Bool, cond, List, [], ◌∷◌, ◌++◌, map}
use Rattle.std.specs.List.{list_any}
use Rattle.std.specs.Str.{bytes_eq}
use Rattle.pg_ast.specs.declared.expr.Name.{Name}
use Rattle.pg_rules.specs.Definitions.Tables.{member}
use Rattle.pg_rules.specs.Places.{place_if}

-- SETS

abbrev pub member_by : {X : Type 0} → (X → X → Bool) → X → List X → Bool
member_by eq x xs = list_any (eq x) xs

-- what is new stands behind what was seen
abbrev pub add_by : {X : Type 0} → (X → X → Bool) → List X → X → List X
add_by eq seen x = cond (member_by eq x seen) seen (seen ++ x ∷ [])

abbrev pub add : List (List ℕ) → List ℕ → List (List ℕ)
add seen text = add_by bytes_eq seen text

-- each text once
abbrev pub add_all : List (List ℕ) → List (List ℕ) → List (List ℕ)
add_all seen [] = seen
add_all seen (t ∷ ts) = add_all (add seen t) ts

-- NAMES THAT STAND TWICE

-- the texts of the names of some things
abbrev pub texts_by : {X : Type 0} → (X → Name) → List X → List (List ℕ)
texts_by named xs = map (λ x. (named x).text) xs

-- each name that was seen before it
abbrev pub repeats_after : List (List ℕ) → List Name → List ℕ
repeats_after seen [] = []
repeats_after seen (n ∷ ns) = place_if (member n.text seen) n.at ++ repeats_after (add seen n.text) ns
