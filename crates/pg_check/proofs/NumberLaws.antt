-- The number of a variable by its name.
use Rattle.std.proofs.Common.{◌≡◌, ℕ, refl, ap, sym, ◌∙◌, Bool, List, [], ◌∷◌, map, not}
use Rattle.std.specs.Prelude.{position}
use Rattle.std.specs.List.{prefix_len}
use Rattle.std.specs.Str.{bytes_eq}
use Rattle.pg_ast.specs.declared.expr.Name.{Name}
use Rattle.pg_meaning.specs.Mentions.{Mention}
use Rattle.pg_rules.specs.Queries.Collections.{same_name}
use Rattle.pg_check.specs.UsePlaces.{Known}
use Rattle.pg_check.specs.Resolved.{names_in, Fits}
use Rattle.pg_check.proofs.VariableLaws.{map_twice, as_long}

prefix_mapped : {X Y : Type 0} (q : Y → Bool) (f : X → Y) (xs : List X) → prefix_len q (map f xs) ≡ prefix_len (λ x. q (f x)) xs
prefix_mapped q f [] = refl
prefix_mapped q f (x ∷ xs) = rw (prefix_mapped q f xs) refl

pub position_mapped : {X Y : Type 0} (p : Y → Bool) (f : X → Y) (xs : List X) → position p (map f xs) ≡ position (λ x. p (f x)) xs
position_mapped p f xs = rw (prefix_mapped (λ y. not (p y)) f xs, as_long f xs) refl

pub number_is : (known : Known) (n : Name) → Fits known → position (bytes_eq n.text) (map (λ e. e.0) known) ≡ position (same_name n) (names_in known)
number_is known n fits =
    ap (position (bytes_eq n.text)) (fits.keys ∙ sym (map_twice (λ (m : Name). m.text) (λ (e : List ℕ × Mention Name). e.1.variable) known))
    ∙ position_mapped (bytes_eq n.text) (λ (m : Name). m.text) (names_in known)
