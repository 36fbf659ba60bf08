-- The faults of quantifiers, part by part.
use Rattle.std.proofs.Common.{◌≡◌, ℕ, refl, ap, sym, ◌∙◌, Bool, List, [], ◌∷◌, ◌&&◌, ◌||◌, map}
use Rattle.std.specs.Prelude.{is_none}
use Rattle.std.specs.List.{flat_map, list_any}
use Rattle.std.specs.Option.{option_to_list}
use Rattle.pg_ast.specs.declared.pattern.Quant.{Quant}
use Rattle.pg_ast.specs.declared.pattern.Part.{Part}
use Rattle.pg_ast.specs.declared.pattern.Part.TheVariants as parts
use Rattle.pg_ast.specs.declared.pattern.PathPattern.{PathPattern}
use Rattle.pg_ast.specs.declared.pattern.Query.{Query}
use Rattle.pg_meaning.specs.Outlines.{has_no_upper, is_walk, is_every, walks_on}
use Rattle.pg_rules.specs.Places.{place_if}
use Rattle.pg_rules.specs.Queries.{unbounded, bounds, is_below, quants_in, large}
use Rattle.pg_rules.specs.Queries.Collections.{quant_of, outline_of, outlines}
use Rattle.pg_check.specs.Passes.{reversed_path, endless_path, part_repeats, large_path}
use Rattle.pg_check.proofs.Loops.{flat_nested, flat_same}

pub outline_quant : (p : Part) → (outline_of p).quant ≡ quant_of p
outline_quant (parts.Node f) = refl
outline_quant (parts.Edge arrow f quant) = refl
outline_quant (parts.Group nodes arrows edges condition quant) = refl

any_same : (ps : List Part) → list_any (λ o. has_no_upper o.quant) (map outline_of ps) ≡ list_any part_repeats ps
any_same [] = refl
any_same (p ∷ ps) = ap (λ q. has_no_upper q || list_any (λ o. has_no_upper o.quant) (map outline_of ps)) (outline_quant p) ∙ ap (λ b. part_repeats p || b) (any_same ps)

pub walks_same : (p : PathPattern) → walks_on p.mode (outlines p) ≡ (is_walk p.mode && list_any part_repeats p.parts)
walks_same p = ap (λ b. is_walk p.mode && b) (any_same p.parts)

abbrev of_quant : Part → List Quant
of_quant p = option_to_list (quant_of p)

endless_one : (p : PathPattern) → endless_path p ≡ flat_map (λ c. place_if (is_none c.high && (is_every p.selector && walks_on p.mode (outlines p))) c.at) (quants_in p)
endless_one p =
    let at : Bool → Quant → List ℕ = λ b c. place_if (is_none c.high && (is_every p.selector && b)) c.at in
    sym (flat_nested (at (is_walk p.mode && list_any part_repeats p.parts)) of_quant p.parts)
    ∙ ap (λ b. flat_map (at b) (quants_in p)) (sym (walks_same p))

pub unbounded_same : (q : Query) → flat_map endless_path q.paths ≡ unbounded q
unbounded_same q = flat_same endless_path (λ p. flat_map (λ c. place_if (is_none c.high && (is_every p.selector && walks_on p.mode (outlines p))) c.at) (quants_in p)) endless_one q.paths

reversed_one : (p : PathPattern) → reversed_path p ≡ flat_map (λ c. place_if (is_below c.high c.low) c.at) (quants_in p)
reversed_one p = sym (flat_nested (λ (c : Quant). place_if (is_below c.high c.low) c.at) of_quant p.parts)

pub bounds_same : (q : Query) → flat_map reversed_path q.paths ≡ bounds q
bounds_same q = flat_same reversed_path (λ p. flat_map (λ c. place_if (is_below c.high c.low) c.at) (quants_in p)) reversed_one q.paths

large_one : (p : PathPattern) → large_path p ≡ flat_map large (quants_in p)
large_one p = sym (flat_nested large of_quant p.parts)

pub large_same : (ps : List PathPattern) → flat_map large_path ps ≡ flat_map (λ p. flat_map large (quants_in p)) ps
large_same ps = flat_same large_path (λ p. flat_map large (quants_in p)) large_one ps
