-- Kinds and widths over the kinds of a graph's properties are those of the rules.
use Rattle.std.proofs.Common.{◌≡◌, ℕ, refl, ap, ◌∙◌, not, ◌&&◌, List, ◌++◌, Option, Some, None}
use Rattle.std.specs.Prelude.{option_map, find}
use Rattle.std.specs.List.{flat_map}
use Rattle.std.specs.Str.{bytes_eq}
use Rattle.pg_value.specs.declared.value.Kind.{Kind}
use Rattle.pg_ast.specs.Trees.{ExprTree, Literal, Wide, ColumnOf, PropertyOf, One, Two, Group, Counted}
use Rattle.pg_meaning.specs.Typing.{Names, typed, kind_of, width_of, width_named, unary_width, binary_width, agg_width, unary_takes, binary_takes, agg_takes, agg_kind, too_wide}
use Rattle.pg_rules.specs.declared.entry.GraphEntry.{GraphEntry}
use Rattle.pg_rules.specs.Definitions.Graphs.{Row, rows}
use Rattle.pg_rules.specs.Catalog.GraphLookUps.{elements_in}
use Rattle.pg_rules.specs.ExprFaults.{types_at, wide_at}
use Rattle.pg_rules.specs.Places.{place_if}
use Rattle.pg_rules.specs.Queries.{names_of}
use Rattle.pg_catalog.specs.PropertyKinds.{AreKindsOf}
use Rattle.pg_check.specs.Scopes.{scope}

-- two scopes in which names stand for the same
abbrev pub Alike : Names → Names → Type 0
Alike f g = (variable : Option (List ℕ)) (name : List ℕ) → f variable name ≡ g variable name

pub kind_alike : (f g : Names) → Alike f g → (x : ExprTree) → kind_of f x ≡ kind_of g x
kind_alike f g h (Literal v bits at) = refl
kind_alike f g h (Wide at) = refl
kind_alike f g h (ColumnOf n) = ap (option_map (λ t. t.kind)) (h None n.text)
kind_alike f g h (PropertyOf v n) = ap (option_map (λ t. t.kind)) (h (Some v.text) n.text)
kind_alike f g h (One op x at) = refl
kind_alike f g h (Two op x y at) = refl
kind_alike f g h (Group agg x at) = ap (agg_kind agg) (kind_alike f g h x)
kind_alike f g h (Counted v at) = refl

pub width_alike : (f g : Names) → Alike f g → (x : ExprTree) → width_of f x ≡ width_of g x
width_alike f g h (Literal v bits at) = refl
width_alike f g h (Wide at) = refl
width_alike f g h (ColumnOf n) = ap width_named (h None n.text)
width_alike f g h (PropertyOf v n) = ap width_named (h (Some v.text) n.text)
width_alike f g h (One op x at) = ap (unary_width op) (width_alike f g h x)
width_alike f g h (Two op x y at) = ap (λ w. binary_width op w (width_of f y)) (width_alike f g h x) ∙ ap (binary_width op (width_of g x)) (width_alike f g h y)
width_alike f g h (Group agg x at) = ap (agg_width agg) (width_alike f g h x)
width_alike f g h (Counted v at) = refl

pub types_alike : (f g : Names) → Alike f g → (x : ExprTree) → types_at f x ≡ types_at g x
types_alike f g h (Literal v bits at) = refl
types_alike f g h (Wide at) = refl
types_alike f g h (ColumnOf n) = refl
types_alike f g h (PropertyOf v n) = refl
types_alike f g h (One op x at) = ap (λ k. place_if (not (unary_takes op k)) at ++ types_at f x) (kind_alike f g h x) ∙ ap (λ l. place_if (not (unary_takes op (kind_of g x))) at ++ l) (types_alike f g h x)
types_alike f g h (Two op x y at) =
    ap (λ k. place_if (not (binary_takes op k (kind_of f y))) at ++ (types_at f x ++ types_at f y)) (kind_alike f g h x)
    ∙ ap (λ k. place_if (not (binary_takes op (kind_of g x) k)) at ++ (types_at f x ++ types_at f y)) (kind_alike f g h y)
    ∙ ap (λ l. place_if (not (binary_takes op (kind_of g x) (kind_of g y))) at ++ (l ++ types_at f y)) (types_alike f g h x)
    ∙ ap (λ l. place_if (not (binary_takes op (kind_of g x) (kind_of g y))) at ++ (types_at g x ++ l)) (types_alike f g h y)
types_alike f g h (Group agg x at) = ap (λ k. place_if (not (agg_takes agg k)) at ++ types_at f x) (kind_alike f g h x) ∙ ap (λ l. place_if (not (agg_takes agg (kind_of g x))) at ++ l) (types_alike f g h x)
types_alike f g h (Counted v at) = refl

pub wide_alike : (f g : Names) → Alike f g → (x : ExprTree) → wide_at f x ≡ wide_at g x
wide_alike f g h (Literal v bits at) = refl
wide_alike f g h (Wide at) = refl
wide_alike f g h (ColumnOf n) = refl
wide_alike f g h (PropertyOf v n) = refl
wide_alike f g h (One op x at) =
    ap (λ w. place_if (too_wide (unary_width op w) && not (too_wide w)) at ++ wide_at f x) (width_alike f g h x)
    ∙ ap (λ l. place_if (too_wide (unary_width op (width_of g x)) && not (too_wide (width_of g x))) at ++ l) (wide_alike f g h x)
wide_alike f g h (Two op x y at) =
    let own : ℕ → ℕ → List ℕ = λ v w. place_if (too_wide (binary_width op v w) && (not (too_wide v) && not (too_wide w))) at in
    ap (λ v. own v (width_of f y) ++ (wide_at f x ++ wide_at f y)) (width_alike f g h x)
    ∙ ap (λ w. own (width_of g x) w ++ (wide_at f x ++ wide_at f y)) (width_alike f g h y)
    ∙ ap (λ l. own (width_of g x) (width_of g y) ++ (l ++ wide_at f y)) (wide_alike f g h x)
    ∙ ap (λ l. own (width_of g x) (width_of g y) ++ (wide_at g x ++ l)) (wide_alike f g h y)
wide_alike f g h (Group agg x at) =
    ap (λ w. place_if (too_wide (agg_width agg w) && not (too_wide w)) at ++ wide_at f x) (width_alike f g h x)
    ∙ ap (λ l. place_if (too_wide (agg_width agg (width_of g x)) && not (too_wide (width_of g x))) at ++ l) (wide_alike f g h x)
wide_alike f g h (Counted v at) = refl

typed_of : (o : Option Row) → option_map typed (option_map (λ r. r.property.kind) o) ≡ option_map (λ r. typed r.property.kind) o
typed_of None = refl
typed_of (Some r) = refl

-- the kinds of a graph's properties are what names stand for in a query
pub alike : (g : GraphEntry) (kinds : List (List ℕ × Kind)) → AreKindsOf g kinds → Alike (scope kinds) (names_of g)
alike g kinds h None name = refl
alike g kinds h (Some variable) name = ap (option_map typed) (h name) ∙ typed_of (find (λ (r : Row). bytes_eq name r.property.name) (flat_map rows (elements_in g)))
