-- A checked expression of a query is sound where the one that is written has no place of a fault.
use Rattle.std.proofs.Common.{◌≡◌, ◌≤◌, ◌||◌, ◌&&◌, ℕ, Bool, true, false, not, ltb-true, ltb-false, refl, ap, sym, ◌∙◌, subst, arith, List, [], ◌∷◌, ◌++◌, map, length, Contains, Option, Some, None, find}
use Rattle.std.proofs.lemmas.List.{map-append}
use Rattle.std.specs.Prelude.{option_map}
use Rattle.std.specs.List.{list_any, list_all, flat_map}
use Rattle.std.specs.Str.{bytes_eq}
use Rattle.pg_keyed.specs.Lists.{Each}
use Rattle.pg_value.specs.declared.value.Kind.{Kind}
use Rattle.pg_value.specs.declared.value.Kind.TheVariants as kinds
use Rattle.pg_value.specs.declared.shape.GraphNo.{GraphNo}
use Rattle.pg_ast.specs.declared.expr.Name.{Name}
use Rattle.pg_ast.specs.Trees.{ExprTree, Literal, Wide, ColumnOf, PropertyOf, One, Two, Group, Counted}
use Rattle.pg_meaning.specs.CExprs.{CTree, Literal as CLiteral, ColumnAt, PropertyOf as CProperty, One as COne, Two as CTwo, Group as CGroup, Counted as CCounted, ctree_of, tree_unary, tree_binary, tree_agg}
use Rattle.pg_meaning.specs.Typing.{typed, bits_of, kind_of, width_of, width_named, unary_takes, binary_takes, agg_takes, unary_width, binary_width, agg_width, too_wide, widest, Names}
use Rattle.pg_meaning.specs.Meaning.{vars_of}
use Rattle.pg_meaning.specs.Mentions.{Degree, Singleton, Grouped}
use Rattle.pg_meaning.specs.Members.{in_here}
use Rattle.pg_meaning.specs.Sound.{Reads, IsOf, IsArgument, Binds, Degrees, IsTyped, IsNarrow}
use Rattle.pg_meaning.specs.Sound.Kinds.{Frame, OfTables, width_in}
use Rattle.pg_rules.specs.Catalog.{Defined}
use Rattle.pg_rules.specs.Catalog.GraphLookUps.{elements_in, graph_numbered}
use Rattle.pg_rules.specs.Catalog.Shapes.{shapes}
use Rattle.pg_rules.specs.Catalog.Sound.{IsSound}
use Rattle.pg_rules.specs.declared.entry.GraphEntry.{GraphEntry}
use Rattle.pg_rules.specs.Definitions.Graphs.{Row, rows}
use Rattle.pg_rules.specs.ExprFaults.{types_at, wide_at}
use Rattle.pg_rules.specs.Places.{place_if}
use Rattle.pg_rules.specs.Queries.{names_of, property_of, is_empty, is_grouped, is_singleton, are_of_one}
use Rattle.pg_rules.specs.Queries.Collections.{Use, Aggregate, same_name, uses_in, aggregates_in}
use Rattle.pg_rules.specs.Queries.CheckedQueries.{checked_tree, number_of}
use Rattle.pg_rules.specs.Resolving.{HasDigits}
use Rattle.pg_rules.specs.Written.{HasBits}
use Rattle.pg_rules.proofs.KeptSound.EmptyPlaces.{left_nil, right_nil, no_place, is_not}
use Rattle.pg_rules.proofs.KeptSound.Lists.{or_left, or_right, and_left, and_right, true_false}
use Rattle.pg_rules.proofs.Accepted.Lists.{each_left, each_right}
use Rattle.pg_rules.proofs.Accepted.Properties.{of_name}
use Rattle.pg_rules.proofs.Accepted.Resolved.{same_kind, same_width}
use Rattle.pg_rules.proofs.Accepted.Numbers.{text_same, one_number}

-- WHAT IS TOO WIDE

-- where a number that is too wide is not in an expression, each literal has its digits
pub has_digits : (names : Names) (t : ExprTree) → HasBits t → wide_at names t ≡ [] → HasDigits t
has_digits names (Literal v bits at) h k = h
has_digits names (Wide at) h k = absurd (omega (arith, ap length k))
has_digits names (ColumnOf n) h k = tt
has_digits names (PropertyOf v n) h k = tt
has_digits names (One op x at) h k =
    has_digits names x h (right_nil (place_if (too_wide (unary_width op (width_of names x)) && not (too_wide (width_of names x))) at) (wide_at names x) k)
has_digits names (Two op x y at) h k =
    let both = right_nil (place_if (too_wide (binary_width op (width_of names x) (width_of names y)) && (not (too_wide (width_of names x)) && not (too_wide (width_of names y)))) at)
    (wide_at names x ++ wide_at names y) k in
    (has_digits names x h.0 (left_nil (wide_at names x) (wide_at names y) both), has_digits names y h.1 (right_nil (wide_at names x) (wide_at names y) both))
has_digits names (Group agg x at) h k =
    has_digits names x h (right_nil (place_if (too_wide (agg_width agg (width_of names x)) && not (too_wide (width_of names x))) at) (wide_at names x) k)
has_digits names (Counted v at) h k = tt

pub not_wide : (w : ℕ) → too_wide w ≡ false → w ≤ widest
not_wide w h = ltb-false widest w h

is_narrow : (w : ℕ) → w ≤ widest → too_wide w ≡ false
is_narrow w h = go (too_wide w) refl
  where
    go : (b : Bool) → too_wide w ≡ b → b ≡ false
    go false e = refl
    go true e = let l = ltb-true widest w e in absurd (omega (arith, h, l))

and_false : (a b : Bool) → b ≡ true → (a && b) ≡ false → a ≡ false
and_false true b h k = absurd (true_false (sym h ∙ k))
and_false false b h k = refl

pub within : (a b : ℕ) → (too_wide a && not (too_wide b)) ≡ false → b ≤ widest → a ≤ widest
within a b h k = not_wide a (and_false (too_wide a) (not (too_wide b)) (ap not (is_narrow b k)) h)

pub within_both : (a b c : ℕ) → (too_wide a && (not (too_wide b) && not (too_wide c))) ≡ false → b ≤ widest → c ≤ widest → a ≤ widest
within_both a b c h k l =
    not_wide a (and_false (too_wide a) (not (too_wide b) && not (too_wide c)) ((λ i. not (is_narrow b k i) && not (is_narrow c l i))) h)

pub bits_narrow : (k : Kind) → bits_of k ≤ widest
bits_narrow kinds.Int = omega arith
bits_narrow kinds.Text = omega arith
bits_narrow kinds.Bool = omega arith

pub named_narrow : (g : GraphEntry) (name : List ℕ) → width_named (property_of g name) ≤ widest
named_narrow g name = go (find (λ (r : Row). bytes_eq name r.property.name) (flat_map rows (elements_in g)))
  where
    go : (o : Option Row) → width_named (option_map (λ (r : Row). typed r.property.kind) o) ≤ widest
    go None = omega arith
    go (Some r) = bits_narrow r.property.kind

pub own_width : (frame : Frame) (x : CTree) → IsNarrow frame x → width_in frame x ≤ widest
own_width frame (CLiteral v) h = h
own_width frame (ColumnAt c) h = h
own_width frame (CProperty x places) h = h
own_width frame (COne op x) h = h.0
own_width frame (CTwo op x y) h = h.0
own_width frame (CGroup agg x) h = h.0
own_width frame (CCounted x) h = h

-- COLUMNS, KINDS AND WIDTHS

module _ (d : Defined) (g : GraphNo) (vs : List Name) (sound : IsSound d) where
  abbrev frame : Frame
  frame = OfTables (shapes d)

  abbrev names : Names
  names = names_of (graph_numbered d.1 g)

  abbrev tree : ExprTree → CTree
  tree t = ctree_of (checked_tree d g vs t)

  pub reads : (t : ExprTree) → Reads frame (tree t)
  reads (Literal v bits at) = tt
  reads (Wide at) = tt
  reads (ColumnOf n) = tt
  reads (PropertyOf v n) = (of_name d g n.text sound).property
  reads (One op x at) = subst (Reads frame) (sym (tree_unary op (checked_tree d g vs x))) (reads x)
  reads (Two op x y at) = subst (Reads frame) (sym (tree_binary op (checked_tree d g vs x) (checked_tree d g vs y))) (reads x, reads y)
  reads (Group agg x at) = subst (Reads frame) (sym (tree_agg agg (checked_tree d g vs x))) (reads x)
  reads (Counted v at) = tt

  pub is_typed : (t : ExprTree) → HasDigits t → types_at names t ≡ [] → IsTyped frame (tree t)
  is_typed (Literal v bits at) h k = tt
  is_typed (Wide at) h k = tt
  is_typed (ColumnOf n) h k = tt
  is_typed (PropertyOf v n) h k = tt
  is_typed (One op x at) h k =
      let place : List ℕ = place_if (not (unary_takes op (kind_of names x))) at in
      let own : unary_takes op (kind_of names x) ≡ true = is_not (unary_takes op (kind_of names x)) (no_place (not (unary_takes op (kind_of names x))) at (left_nil place (types_at names x) k)) in
      subst (IsTyped frame) (sym (tree_unary op (checked_tree d g vs x)))
      (ap (unary_takes op) (same_kind d g vs sound x h) ∙ own, is_typed x h (right_nil place (types_at names x) k))
  is_typed (Two op x y at) h k =
      let test : Bool = binary_takes op (kind_of names x) (kind_of names y) in
      let both = right_nil (place_if (not test) at) (types_at names x ++ types_at names y) k in
      let own : test ≡ true = is_not test (no_place (not test) at (left_nil (place_if (not test) at) (types_at names x ++ types_at names y) k)) in
      subst (IsTyped frame) (sym (tree_binary op (checked_tree d g vs x) (checked_tree d g vs y))) (
        (λ i. binary_takes op (same_kind d g vs sound x h.0 i) (same_kind d g vs sound y h.1 i)) ∙ own,
        is_typed x h.0 (left_nil (types_at names x) (types_at names y) both),
        is_typed y h.1 (right_nil (types_at names x) (types_at names y) both),
      )
  is_typed (Group agg x at) h k =
      let test : Bool = agg_takes agg (kind_of names x) in
      let own : test ≡ true = is_not test (no_place (not test) at (left_nil (place_if (not test) at) (types_at names x) k)) in
      subst (IsTyped frame) (sym (tree_agg agg (checked_tree d g vs x)))
      (ap (agg_takes agg) (same_kind d g vs sound x h) ∙ own, is_typed x h (right_nil (place_if (not test) at) (types_at names x) k))
  is_typed (Counted v at) h k = tt

  pub narrow : (t : ExprTree) → HasDigits t → wide_at names t ≡ [] → IsNarrow frame (tree t)
  narrow (Literal v bits at) h k = subst (λ w. w ≤ widest) h (not_wide bits (no_place (too_wide bits) at k))
  narrow (Wide at) h k = absurd h
  narrow (ColumnOf n) h k = omega arith
  narrow (PropertyOf v n) h k = subst (λ w. w ≤ widest) (sym (of_name d g n.text sound).width) (named_narrow (graph_numbered d.1 g) n.text)
  narrow (One op x at) h k =
      let w : ℕ = width_of names x in
      let place : Bool = too_wide (unary_width op w) && not (too_wide w) in
      let rest : IsNarrow frame (tree x) = narrow x h (right_nil (place_if place at) (wide_at names x) k) in
      let same : width_in frame (tree x) ≡ w = same_width d g vs sound x h in
      let own : unary_width op w ≤ widest = within (unary_width op w) w (no_place place at (left_nil (place_if place at) (wide_at names x) k)) (subst (λ n. n ≤ widest) same (own_width frame (tree x) rest)) in
      subst (IsNarrow frame) (sym (tree_unary op (checked_tree d g vs x))) (subst (λ n. unary_width op n ≤ widest) (sym same) own, rest)
  narrow (Two op x y at) h k =
      let v : ℕ = width_of names x in
      let w : ℕ = width_of names y in
      let place : Bool = too_wide (binary_width op v w) && (not (too_wide v) && not (too_wide w)) in
      let both = right_nil (place_if place at) (wide_at names x ++ wide_at names y) k in
      let first : IsNarrow frame (tree x) = narrow x h.0 (left_nil (wide_at names x) (wide_at names y) both) in
      let second : IsNarrow frame (tree y) = narrow y h.1 (right_nil (wide_at names x) (wide_at names y) both) in
      let a : width_in frame (tree x) ≡ v = same_width d g vs sound x h.0 in
      let b : width_in frame (tree y) ≡ w = same_width d g vs sound y h.1 in
      let own : binary_width op v w ≤ widest =
      within_both (binary_width op v w) v w (no_place place at (left_nil (place_if place at) (wide_at names x ++ wide_at names y) k))
      (subst (λ n. n ≤ widest) a (own_width frame (tree x) first)) (subst (λ n. n ≤ widest) b (own_width frame (tree y) second)) in
      subst (IsNarrow frame) (sym (tree_binary op (checked_tree d g vs x) (checked_tree d g vs y)))
      (subst (λ n. n ≤ widest) (λ i. binary_width op (sym a i) (sym b i)) own, first, second)
  narrow (Group agg x at) h k =
      let w : ℕ = width_of names x in
      let place : Bool = too_wide (agg_width agg w) && not (too_wide w) in
      let rest : IsNarrow frame (tree x) = narrow x h (right_nil (place_if place at) (wide_at names x) k) in
      let same : width_in frame (tree x) ≡ w = same_width d g vs sound x h in
      let own : agg_width agg w ≤ widest = within (agg_width agg w) w (no_place place at (left_nil (place_if place at) (wide_at names x) k)) (subst (λ n. n ≤ widest) same (own_width frame (tree x) rest)) in
      subst (IsNarrow frame) (sym (tree_agg agg (checked_tree d g vs x))) (subst (λ n. agg_width agg n ≤ widest) (sym same) own, rest)
  narrow (Counted v at) h k = omega arith

  -- VARIABLES WITHOUT AGGREGATES

  -- where no aggregate stands, and each variable is a singleton
  pub binds_plainly : (degrees : Degrees) (around : List ℕ) (t : ExprTree) → aggregates_in around t ≡ []
      → Each (λ (u : Use). degrees (number_of vs u.variable) ≡ Some Singleton) (uses_in around t) → Binds degrees (tree t)
  binds_plainly degrees around (Literal v bits at) h k = tt
  binds_plainly degrees around (Wide at) h k = tt
  binds_plainly degrees around (ColumnOf n) h k = tt
  binds_plainly degrees around (PropertyOf v n) h k = k.0
  binds_plainly degrees around (One op x at) h k = subst (Binds degrees) (sym (tree_unary op (checked_tree d g vs x))) (binds_plainly degrees around x h k)
  binds_plainly degrees around (Two op x y at) h k =
      let is : Use → Type 0 = λ (u : Use). degrees (number_of vs u.variable) ≡ Some Singleton in
      subst (Binds degrees) (sym (tree_binary op (checked_tree d g vs x) (checked_tree d g vs y))) (
        binds_plainly degrees around x (left_nil (aggregates_in around x) (aggregates_in around y) h) (each_left is (uses_in around x) (uses_in around y) k),
        binds_plainly degrees around y (right_nil (aggregates_in around x) (aggregates_in around y) h) (each_right is (uses_in around x) (uses_in around y) k),
      )
  binds_plainly degrees around (Group agg x at) h k = absurd (omega (arith, ap length h))
  binds_plainly degrees around (Counted v at) h k = absurd (omega (arith, ap length h))

  -- THE ARGUMENT OF AN AGGREGATE

  -- where no aggregate stands, and each use is of this variable
  alone : (around : List ℕ) (v : Name) (t : ExprTree) → aggregates_in around t ≡ [] → Each (λ (u : Use). same_name v u.variable ≡ true) (uses_in around t) → IsOf (number_of vs v) (tree t)
  alone around v (Literal u bits at) h k = tt
  alone around v (Wide at) h k = tt
  alone around v (ColumnOf n) h k = tt
  alone around v (PropertyOf w n) h k = sym (one_number vs v w k.0)
  alone around v (One op x at) h k = subst (IsOf (number_of vs v)) (sym (tree_unary op (checked_tree d g vs x))) (alone around v x h k)
  alone around v (Two op x y at) h k =
      let is : Use → Type 0 = λ (u : Use). same_name v u.variable ≡ true in
      subst (IsOf (number_of vs v)) (sym (tree_binary op (checked_tree d g vs x) (checked_tree d g vs y))) (
        alone around v x (left_nil (aggregates_in around x) (aggregates_in around y) h) (each_left is (uses_in around x) (uses_in around y) k),
        alone around v y (right_nil (aggregates_in around x) (aggregates_in around y) h) (each_right is (uses_in around x) (uses_in around y) k),
      )
  alone around v (Group agg x at) h k = absurd (omega (arith, ap length h))
  alone around v (Counted w at) h k = absurd (omega (arith, ap length h))

  -- the variables of a checked expression are the numbers of those that are used
  used : (around : List ℕ) (t : ExprTree) → vars_of (tree t) ≡ map (λ (u : Use). number_of vs u.variable) (uses_in around t)
  used around (Literal u bits at) = refl
  used around (Wide at) = refl
  used around (ColumnOf n) = refl
  used around (PropertyOf w n) = refl
  used around (One op x at) = ap vars_of (tree_unary op (checked_tree d g vs x)) ∙ used around x
  used around (Two op x y at) =
      ap vars_of (tree_binary op (checked_tree d g vs x) (checked_tree d g vs y)) ∙ (λ i. used around x i ++ used around y i)
      ∙ sym (map-append (λ (u : Use). number_of vs u.variable) (uses_in around x) (uses_in around y))
  used around (Group agg x at) = ap vars_of (tree_agg agg (checked_tree d g vs x)) ∙ used (around ++ at ∷ []) x
  used around (Counted w at) = refl

  -- VARIABLES OUTSIDE THE PATTERNS

  module _ (degrees : Degrees) (degree : Name → Option Degree) where
    -- a variable that has a number, a degree and the same degree by its number
    pub record IsKnown (u : Use) : Type 0 where
      pub degree_of : Degree
      pub has : degree u.variable ≡ Some degree_of
      pub same : degrees (number_of vs u.variable) ≡ degree u.variable

    abbrev pub is_bare : Use → Bool
    is_bare u = is_empty u.around && is_grouped (degree u.variable)

    abbrev pub is_misused : Aggregate → Bool
    is_misused a = not (is_empty a.around) || (not (are_of_one a.argument) || list_any (λ (u : Use). is_singleton (degree u.variable)) a.argument)

    is_single : (u : Use) → IsKnown u → is_grouped (degree u.variable) ≡ false → degrees (number_of vs u.variable) ≡ Some Singleton
    is_single u k h = k.same ∙ k.has ∙ ap Some (go k.degree_of (sym (ap is_grouped k.has) ∙ h))
      where
        go : (x : Degree) → is_grouped (Some x) ≡ false → x ≡ Singleton
        go Singleton e = refl
        go Grouped e = absurd (true_false e)

    is_many : (u : Use) → IsKnown u → is_singleton (degree u.variable) ≡ false → degrees (number_of vs u.variable) ≡ Some Grouped
    is_many u k h = k.same ∙ k.has ∙ ap Some (go k.degree_of (sym (ap is_singleton k.has) ∙ h))
      where
        go : (x : Degree) → is_singleton (Some x) ≡ false → x ≡ Grouped
        go Grouped e = refl
        go Singleton e = absurd (true_false e)

    -- within an aggregate no other stands
    no_inner : (around : List ℕ) (t : ExprTree) → is_empty around ≡ false → Each (λ a. is_misused a ≡ false) (aggregates_in around t) → aggregates_in around t ≡ []
    no_inner around (Literal v bits at) h k = refl
    no_inner around (Wide at) h k = refl
    no_inner around (ColumnOf n) h k = refl
    no_inner around (PropertyOf v n) h k = refl
    no_inner around (One op x at) h k = no_inner around x h k
    no_inner around (Two op x y at) h k =
        let is : Aggregate → Type 0 = λ a. is_misused a ≡ false in
        λ i. no_inner around x h (each_left is (aggregates_in around x) (aggregates_in around y) k) i ++ no_inner around y h (each_right is (aggregates_in around x) (aggregates_in around y) k) i
    no_inner around (Group agg x at) h k = absurd (true_false (ap (λ b. not b || (not (are_of_one (uses_in (around ++ at ∷ []) x)) || list_any (λ (u : Use). is_singleton (degree u.variable)) (uses_in (around ++ at ∷ []) x))) (sym h) ∙ k.0))
    no_inner around (Counted v at) h k = absurd (true_false (ap (λ b. not b || (not true || (is_singleton (degree v) || false))) (sym h) ∙ counted))
      where
        counted : (not (is_empty around) || (not true || (is_singleton (degree v) || false))) ≡ false
        counted = k.0

    all_same : (v : Name) (us : List Use) → list_all (λ (w : Use). same_name v w.variable) us ≡ true → Each (λ (w : Use). same_name v w.variable ≡ true) us
    all_same v [] h = tt
    all_same v (u ∷ us) h =
        (and_left (same_name v u.variable) (list_all (λ (w : Use). same_name v w.variable) us) h, all_same v us (and_right (same_name v u.variable) (list_all (λ (w : Use). same_name v w.variable) us) h))

    -- an aggregate of one group variable
    argument : (around : List ℕ) (t : ExprTree) → aggregates_in around t ≡ [] → Each IsKnown (uses_in around t)
        → (not (are_of_one (uses_in around t)) || list_any (λ (u : Use). is_singleton (degree u.variable)) (uses_in around t)) ≡ false → IsArgument degrees (tree t)
    argument around t none known h = go (uses_in around t) refl
      where
        single : Use → Bool
        single u = is_singleton (degree u.variable)

        go : (us : List Use) → uses_in around t ≡ us → IsArgument degrees (tree t)
        go [] e = absurd (true_false (sym (ap (λ us. not (are_of_one us) || list_any single us) e) ∙ h))
        go (u ∷ us) e =
            let free : (not (are_of_one (u ∷ us)) || list_any single (u ∷ us)) ≡ false = sym (ap (λ xs. not (are_of_one xs) || list_any single xs) e) ∙ h in
            let one : are_of_one (u ∷ us) ≡ true = is_not (are_of_one (u ∷ us)) (or_left (not (are_of_one (u ∷ us))) (list_any single (u ∷ us)) free) in
            let many : single u ≡ false = or_left (single u) (list_any single us) (or_right (not (are_of_one (u ∷ us))) (list_any single (u ∷ us)) free) in
            let k : Each IsKnown (u ∷ us) = subst (Each IsKnown) e known in
            record {
              variable = number_of vs u.variable;
              grouped = is_many u k.0 many;
              stands = subst (λ ns. Contains ns (number_of vs u.variable)) (sym (used around t ∙ ap (map (λ (w : Use). number_of vs w.variable)) e))
                  (in_here (number_of vs u.variable) (map (λ (w : Use). number_of vs w.variable) us) (number_of vs u.variable) refl);
              alone = alone around u.variable t none (subst (Each (λ (w : Use). same_name u.variable w.variable ≡ true)) (sym e) (text_same u.variable u.variable refl, all_same u.variable us one));
            }

    pub binds : (t : ExprTree) → Each IsKnown (uses_in [] t) → Each (λ u. is_bare u ≡ false) (uses_in [] t) → Each (λ a. is_misused a ≡ false) (aggregates_in [] t) → Binds degrees (tree t)
    binds (Literal v bits at) known bare right = tt
    binds (Wide at) known bare right = tt
    binds (ColumnOf n) known bare right = tt
    binds (PropertyOf v n) known bare right = is_single (record { variable = v; property = Some n; around = [] }) known.0 bare.0
    binds (One op x at) known bare right = subst (Binds degrees) (sym (tree_unary op (checked_tree d g vs x))) (binds x known bare right)
    binds (Two op x y at) known bare right =
        subst (Binds degrees) (sym (tree_binary op (checked_tree d g vs x) (checked_tree d g vs y))) (
          binds x (each_left IsKnown (uses_in [] x) (uses_in [] y) known) (each_left (λ u. is_bare u ≡ false) (uses_in [] x) (uses_in [] y) bare)
              (each_left (λ a. is_misused a ≡ false) (aggregates_in [] x) (aggregates_in [] y) right),
          binds y (each_right IsKnown (uses_in [] x) (uses_in [] y) known) (each_right (λ u. is_bare u ≡ false) (uses_in [] x) (uses_in [] y) bare)
              (each_right (λ a. is_misused a ≡ false) (aggregates_in [] x) (aggregates_in [] y) right),
        )
    binds (Group agg x at) known bare right =
        subst (Binds degrees) (sym (tree_agg agg (checked_tree d g vs x)))
        (argument (at ∷ []) x (no_inner (at ∷ []) x refl right.1) known right.0)
    binds (Counted v at) known bare right =
        is_many (record { variable = v; property = None; around = at ∷ [] }) known.0 (or_left (is_singleton (degree v)) false right.0)
