-- The places of faults as passes over parts, conditions and expressions find them.
use Rattle.std.specs.Prelude.{ℕ, Bool, not, ◌&&◌, is_none, nat_lt, List, ◌++◌, flat_map, Option, option_to_list}
use Rattle.std.specs.List.{list_any}
use Rattle.pg_ast.specs.declared.expr.Name.{Name}
use Rattle.pg_ast.specs.declared.expr.Whole.{Whole}
use Rattle.pg_ast.specs.declared.pattern.Filler.{Filler}
use Rattle.pg_ast.specs.declared.pattern.Part.{Part}
use Rattle.pg_ast.specs.declared.pattern.PathPattern.{PathPattern}
use Rattle.pg_rules.specs.Definitions.Tables.{member}
use Rattle.pg_meaning.specs.Outlines.{has_no_upper, is_walk, is_every, length_number}
use Rattle.pg_rules.specs.Places.{place_if}
use Rattle.pg_rules.specs.Queries.{is_below, large, labels_of, fourth_edge}
use Rattle.pg_rules.specs.Queries.Collections.{Inner, quant_of, fillers_of, inner_if, named, outlines}
use Rattle.pg_check.specs.declared.gather.InnerCondition.{InnerCondition}
use Rattle.pg_check.specs.declared.gather.Own.{Own}
use Rattle.pg_check.specs.declared.gather.Own.TheVariants as owns

-- CONDITIONS INSIDE PATTERNS

abbrev pub own_names : Own → List Name
own_names (owns.Alone f) = option_to_list f.now.var
own_names (owns.Together nodes edges) = named (nodes.now ++ edges.now)

abbrev pub inner_view : InnerCondition → Inner
inner_view i = record { condition = i.condition.now; own = own_names i.own }

abbrev pub inner_with : Option Whole → Own → List Inner
inner_with w own = inner_if w (own_names own)

-- LABELS

abbrev pub unlabelled : List (List ℕ) → Name → List ℕ
unlabelled names n = place_if (not (member n.text names)) n.at

abbrev pub unlabelled_in : List (List ℕ) → Filler → List ℕ
unlabelled_in names f = flat_map (unlabelled names) (labels_of f)

abbrev pub unlabelled_part : List (List ℕ) → Part → List ℕ
unlabelled_part names p = flat_map (unlabelled_in names) (fillers_of p)

-- QUANTIFIERS

abbrev pub endless_part : Bool → Part → List ℕ
endless_part endless p = flat_map (λ c. place_if (is_none c.high && endless) c.at) (option_to_list (quant_of p))

abbrev pub part_repeats : Part → Bool
part_repeats p = has_no_upper (quant_of p)

abbrev pub may_repeat : PathPattern → Bool
may_repeat p = is_every p.selector && (is_walk p.mode && list_any part_repeats p.parts)

abbrev pub endless_path : PathPattern → List ℕ
endless_path p = flat_map (endless_part (may_repeat p)) p.parts

abbrev pub reversed_part : Part → List ℕ
reversed_part p = flat_map (λ c. place_if (is_below c.high c.low) c.at) (option_to_list (quant_of p))

abbrev pub reversed_path : PathPattern → List ℕ
reversed_path p = flat_map reversed_part p.parts

abbrev pub large_part : Part → List ℕ
large_part p = flat_map large (option_to_list (quant_of p))

abbrev pub large_path : PathPattern → List ℕ
large_path p = flat_map large_part p.parts

abbrev pub crowded_path : PathPattern → List ℕ
crowded_path p = flat_map fourth_edge p.parts

abbrev pub long_path : PathPattern → List ℕ
long_path p = place_if (nat_lt 1000 (length_number (outlines p))) p.at

-- whether a path pattern allows every walk and has a part that may be repeated without end
abbrev pub path_walks : PathPattern → Bool
path_walks p = is_walk p.mode && list_any part_repeats p.parts
