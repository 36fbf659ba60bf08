-- The checked tree of a query that is not refused is sound.
use Rattle.std.proofs.Common.{◌≡◌, ◌+◌, ◌≤◌, ◌<◌, ◌||◌, ◌&&◌, ℕ, Bool, true, false, not, is_none, nat_lt, ltb-false, refl, ap, sym, ◌∙◌, subst, arith, List, [], ◌∷◌, ◌++◌, map, length, Contains, Option, Some, None}
use Rattle.std.proofs.lemmas.List.{length-map}
use Rattle.std.proofs.lemmas.Option.{slice_get-map}
use Rattle.std.proofs.lemmas.Iterator.Adapters.{position_from-zero}
use Rattle.std.specs.Prelude.{option_map, option_to_list, slice_get}
use Rattle.std.specs.List.{flat_map, range_with_len, list_any, position_from}
use Rattle.std.specs.Option.{unwrap_or}
use Rattle.std.specs.Str.{bytes_eq}
use Rattle.pg_keyed.specs.Lists.{Each, each_map}
use Rattle.pg_value.specs.declared.value.Kind.TheVariants as kinds
use Rattle.pg_value.specs.declared.shape.GraphNo.{GraphNo}
use Rattle.pg_ast.specs.declared.expr.Name.{Name}
use Rattle.pg_ast.specs.declared.expr.Whole.{Whole}
use Rattle.pg_ast.specs.declared.pattern.Quant.{Quant}
use Rattle.pg_ast.specs.declared.pattern.Part.{Part}
use Rattle.pg_ast.specs.declared.pattern.PathPattern.{PathPattern}
use Rattle.pg_ast.specs.declared.pattern.ColumnItem.{ColumnItem}
use Rattle.pg_ast.specs.declared.pattern.Query.{Query}
use Rattle.pg_ast.specs.Trees.{ExprTree, tree_of}
use Rattle.pg_meaning.specs.declared.checked.CheckedPath.{CheckedPath}
use Rattle.pg_meaning.specs.declared.checked.CheckedQuery.{CheckedQuery}
use Rattle.pg_meaning.specs.CExprs.{ctree_of}
use Rattle.pg_meaning.specs.Members.{in_here, in_there, in_left, in_right}
use Rattle.pg_meaning.specs.Typing.{Names, kind_of, may_be}
use Rattle.pg_meaning.specs.Outlines.{is_every, walks_on, length_number}
use Rattle.pg_meaning.specs.Mentions.{Mention, Degree, mentions_in, degree_in, clash}
use Rattle.pg_meaning.specs.Sound.{IsSoundTree, IsSoundCondition}
use Rattle.pg_meaning.specs.Sound.Kinds.{Frame, OfTables}
use Rattle.pg_meaning.specs.Sound.Graphs.{IsSoundGraph}
use Rattle.pg_meaning.specs.Sound.Patterns as checked
use Rattle.pg_meaning.specs.Sound.Patterns.{NoPair, IsSoundPath, same_number}
use Rattle.pg_meaning.specs.Sound.Queries as whole
use Rattle.pg_meaning.specs.Sound.Queries.{IsSoundColumn, IsSoundQuery, degrees_of}
use Rattle.pg_rules.specs.declared.entry.GraphEntry.{GraphEntry}
use Rattle.pg_rules.specs.Accepted.{AcceptedQueriesAreSound}
use Rattle.pg_rules.specs.Places.{place_if}
use Rattle.pg_rules.specs.Catalog.{Defined}
use Rattle.pg_rules.specs.Catalog.LookUps.{graph_at}
use Rattle.pg_rules.specs.Catalog.GraphLookUps.{graph_shape}
use Rattle.pg_rules.specs.Catalog.Shapes.{shapes}
use Rattle.pg_rules.specs.Catalog.SoundDefinitions.{IsCatalog}
use Rattle.pg_rules.specs.ExprFaults.{types_at, wide_at}
use Rattle.pg_rules.specs.Queries.{graph_of, entry_of, names_of, quants_in, is_below, is_above, large, fourth_edge, beyond, is_among, unknown, foreign, later_of, is_strict, is_empty, is_grouped, is_singleton, are_of_one, bare, misused, inside, walks_on_in, HasNoPlace, query_fault}
use Rattle.pg_rules.specs.Queries as queries
use Rattle.pg_rules.specs.Queries.Collections.{Use, Aggregate, Inner, same_name, outlines, mentions_of, variables_of, parts_of, inner_in, inner_conditions, conditions, inner, outer, uses, aggregates, uses_of}
use Rattle.pg_rules.specs.Queries.CheckedQueries.{number_of, numbered, checked_tree, checked_condition, checked_path, checked_column, checked_query}
use Rattle.pg_rules.specs.Resolving.{HasDigits}
use Rattle.pg_rules.specs.Written.{HasBits, IsWrittenPart, IsWrittenQuery}
use Rattle.pg_rules.proofs.KeptSound.EmptyPlaces.{left_nil, right_nil, each_nil, no_place}
use Rattle.pg_rules.proofs.KeptSound.Lists.{each_at, each_in}
use Rattle.pg_rules.proofs.KeptSound.Columns.{IsNamed, found_named}
use Rattle.pg_rules.proofs.QueryLaws.{accepted, mentions_are_kept, outlines_kept}
use Rattle.pg_rules.proofs.SoundShapes.{graph_sound}
use Rattle.pg_rules.proofs.Accepted.Lists.{each_left, each_right, each_flat, each_unmap, few, map_nil, each_free, each_passes}
use Rattle.pg_rules.proofs.Accepted.Properties.{below}
use Rattle.pg_rules.proofs.Accepted.Resolved.{same_kind, same_width}
use Rattle.pg_rules.proofs.Accepted.Numbers.{Knows, all_known, variables_numbered, numbered_in_order}
use Rattle.pg_rules.proofs.Accepted.Exprs.{IsKnown, has_digits, reads, is_typed, narrow, binds}
use Rattle.pg_rules.proofs.Accepted.Paths.{IsRightInner, IsRightPath, same_walks, path_sound}
use Rattle.pg_rules.proofs.Accepted.Mentions.{IsApart, no_pair_agrees, no_pair_over, none_later, paths_known, paths_apart, clash_numbered, degree_numbered, has_degree}

module _ (d : Defined) (q : Query) (catalog : IsCatalog d) (written : IsWrittenQuery q) (free : HasNoPlace d q) where
  abbrev g : GraphNo
  g = graph_of d q

  abbrev vs : List Name
  vs = variables_of q

  abbrev names : Names
  names = names_of (entry_of d q)

  abbrev frame : Frame
  frame = OfTables (shapes d)

  abbrev cq : CheckedQuery
  cq = checked_query d q

  -- THE GRAPH

  graph_stands : g.0 < length d.1
  graph_stands =
      let there : (p : ℕ) × (graph_at d q.graph.text ≡ Some p) = there_is (graph_at d q.graph.text) (no_place (is_none (graph_at d q.graph.text)) q.graph.at free.graph) in
      let at : position_from (bytes_eq q.graph.text) 0 (map (λ (e : List ℕ × GraphEntry). e.0) d.1) ≡ Some there.0 =
      sym (position_from-zero (bytes_eq q.graph.text) (map (λ (e : List ℕ × GraphEntry). e.0) d.1)) ∙ there.1 in
      let item : IsNamed (λ (e : List ℕ × GraphEntry). e.0) d.1 q.graph.text there.0 = found_named (λ (e : List ℕ × GraphEntry). e.0) d.1 q.graph.text there.0 at in
      let number : g.0 ≡ there.0 = ap (λ (o : Option ℕ). unwrap_or o 0) there.1 in
      subst (λ n. n < length d.1) (sym number) (below d.1 there.0 item.item item.stands)
    where
      there_is : (o : Option ℕ) → is_none o ≡ false → (p : ℕ) × (o ≡ Some p)
      there_is None e = absurd (cc)
      there_is (Some p) e = (p, refl)

  graph_is : IsSoundGraph (shapes d) (graph_shape d g)
  graph_is = graph_sound d g catalog.sound graph_stands

  -- WHAT HAS NO PLACE

  not_unknown : unknown q ≡ []
  not_unknown = left_nil (unknown q) (foreign q ++ later_of (clash same_name (is_strict q)) (mentions_of q)) free.variables

  not_foreign : foreign q ≡ []
  not_foreign = left_nil (foreign q) (later_of (clash same_name (is_strict q)) (mentions_of q)) (right_nil (unknown q) (foreign q ++ later_of (clash same_name (is_strict q)) (mentions_of q)) free.variables)

  not_later : later_of (clash same_name (is_strict q)) (mentions_of q) ≡ []
  not_later = right_nil (foreign q) (later_of (clash same_name (is_strict q)) (mentions_of q)) (right_nil (unknown q) (foreign q ++ later_of (clash same_name (is_strict q)) (mentions_of q)) free.variables)

  not_bare : bare q ≡ []
  not_bare = left_nil (bare q) (misused q ++ inside q) free.groups

  not_misused : misused q ≡ []
  not_misused = left_nil (misused q) (inside q) (right_nil (bare q) (misused q ++ inside q) free.groups)

  not_inside : inside q ≡ []
  not_inside = right_nil (misused q) (inside q) (right_nil (bare q) (misused q ++ inside q) free.groups)

  abbrev truths : List ℕ
  truths = flat_map (λ (w : Whole). place_if (not (may_be kinds.Bool (kind_of names (tree_of w.expr)))) w.at) (conditions q)

  all_typed : Each (λ t. types_at names t ≡ []) (inner q ++ outer q)
  all_typed = each_nil (types_at names) (inner q ++ outer q) (right_nil truths (flat_map (types_at names) (inner q ++ outer q)) free.kinds)

  all_narrow : Each (λ t. wide_at names t ≡ []) (inner q ++ outer q)
  all_narrow = each_nil (wide_at names) (inner q ++ outer q) free.widths

  all_true : Each (λ (w : Whole). may_be kinds.Bool (kind_of names (tree_of w.expr)) ≡ true) (conditions q)
  all_true = each_passes (λ (w : Whole). may_be kinds.Bool (kind_of names (tree_of w.expr))) (λ (w : Whole). w.at) (conditions q) (left_nil truths (flat_map (types_at names) (inner q ++ outer q)) free.kinds)

  -- CONDITIONS INSIDE THE PATTERNS

  abbrev inner_tree : Inner → ExprTree
  inner_tree i = tree_of i.condition.expr

  of_inner : (P : ExprTree → Type 0) → Each P (inner q ++ outer q) → Each (λ i. P (inner_tree i)) (inner_conditions q)
  of_inner P h = each_unmap P inner_tree (inner_conditions q) (each_left P (inner q) (outer q) h)

  inner_own : (i : Inner) → Contains (inner_conditions q) i → Each (λ (u : Use). is_among i.own u.variable ≡ true) (uses (inner_tree i))
  inner_own i c =
      each_passes (λ (u : Use). is_among i.own u.variable) (λ (u : Use). u.variable.at) (uses (inner_tree i))
      (each_at (λ (j : Inner). flat_map (λ (u : Use). place_if (not (is_among j.own u.variable)) u.variable.at) (uses (inner_tree j)) ≡ []) (inner_conditions q) i
      (each_nil (λ (j : Inner). flat_map (λ (u : Use). place_if (not (is_among j.own u.variable)) u.variable.at) (uses (inner_tree j))) (inner_conditions q) not_foreign) c)

  inner_plain : Each (λ i. aggregates (inner_tree i) ≡ []) (inner_conditions q)
  inner_plain =
      each_map (λ i. map (λ (a : Aggregate). a.at) (aggregates (inner_tree i)) ≡ []) (λ i. aggregates (inner_tree i) ≡ []) (λ i e. map_nil (λ (a : Aggregate). a.at) (aggregates (inner_tree i)) e) (inner_conditions q)
      (each_unmap (λ t. map (λ (a : Aggregate). a.at) (aggregates t) ≡ []) inner_tree (inner_conditions q) (each_nil (λ t. map (λ (a : Aggregate). a.at) (aggregates t)) (inner q) not_inside))

  inner_true : Each (λ (i : Inner). may_be kinds.Bool (kind_of names (inner_tree i)) ≡ true) (inner_conditions q)
  inner_true =
      each_unmap (λ (w : Whole). may_be kinds.Bool (kind_of names (tree_of w.expr)) ≡ true) (λ (i : Inner). i.condition) (inner_conditions q)
      (each_left (λ (w : Whole). may_be kinds.Bool (kind_of names (tree_of w.expr)) ≡ true) (map (λ (i : Inner). i.condition) (inner_conditions q)) (option_to_list q.cond) all_true)

  inner_right : Each (IsRightInner d g vs) (inner_conditions q)
  inner_right = each_in (IsRightInner d g vs) (inner_conditions q) (λ i c. record {
    own = inner_own i c;
    plain = each_at (λ j. aggregates (inner_tree j) ≡ []) (inner_conditions q) i inner_plain c;
    typed = each_at (λ j. types_at names (inner_tree j) ≡ []) (inner_conditions q) i (of_inner (λ t. types_at names t ≡ []) all_typed) c;
    narrow = each_at (λ j. wide_at names (inner_tree j) ≡ []) (inner_conditions q) i (of_inner (λ t. wide_at names t ≡ []) all_narrow) c;
    truth = each_at (λ j. may_be kinds.Bool (kind_of names (inner_tree j)) ≡ true) (inner_conditions q) i inner_true c;
    bits = each_at (λ j. HasBits (inner_tree j)) (inner_conditions q) i (of_inner HasBits written.literals) c;
  })

  -- LIMITS

  abbrev paths_places : List ℕ
  paths_places = beyond 8 (map (λ (p : PathPattern). p.at) q.paths)

  abbrev columns_places : List ℕ
  columns_places = beyond 32 (map (λ (c : ColumnItem). c.expr.at) q.columns)

  abbrev variables_places : List ℕ
  variables_places = beyond 32 (map (λ (n : Name). n.at) (variables_of q))

  abbrev edges_places : List ℕ
  edges_places = flat_map fourth_edge (parts_of q)

  abbrev numbers_places : List ℕ
  numbers_places = flat_map (λ (p : PathPattern). flat_map large (quants_in p)) q.paths

  abbrev lengths_places : List ℕ
  lengths_places = flat_map (λ (p : PathPattern). place_if (nat_lt 1000 (length_number (outlines p))) p.at) q.paths

  behind_paths : columns_places ++ (variables_places ++ (edges_places ++ (numbers_places ++ lengths_places))) ≡ []
  behind_paths = right_nil paths_places (columns_places ++ (variables_places ++ (edges_places ++ (numbers_places ++ lengths_places)))) free.limits

  behind_columns : variables_places ++ (edges_places ++ (numbers_places ++ lengths_places)) ≡ []
  behind_columns = right_nil columns_places (variables_places ++ (edges_places ++ (numbers_places ++ lengths_places))) behind_paths

  behind_variables : edges_places ++ (numbers_places ++ lengths_places) ≡ []
  behind_variables = right_nil variables_places (edges_places ++ (numbers_places ++ lengths_places)) behind_columns

  behind_edges : numbers_places ++ lengths_places ≡ []
  behind_edges = right_nil edges_places (numbers_places ++ lengths_places) behind_variables

  at_most : {X Y Z : Type 0} (at : X → Y) (to : X → Z) (xs : List X) (n : ℕ) → option_to_list (slice_get (map at xs) n) ≡ [] → length (map to xs) ≤ n
  at_most at to xs n h = subst (λ k. k ≤ n) (length-map xs at ∙ sym (length-map xs to)) (few (map at xs) n h)

  -- PATH PATTERNS

  paths_know : Each (λ p. Knows vs (mentions_in 0 (outlines p))) q.paths
  paths_know = paths_known vs 0 q.paths (all_known (mentions_of q))

  paths_are_apart : Each (IsApart vs) q.paths
  paths_are_apart =
      paths_apart vs q 0 q.paths (λ k. let same : k ≡ 0 + k = omega arith in ap (slice_get q.paths) same) paths_know (none_later (clash same_name (is_strict q)) (mentions_of q) not_later)

  abbrev parts_in : PathPattern → List Part
  parts_in p = p.parts

  paths_inner : Each (λ p. Each (λ part. Each (IsRightInner d g vs) (inner_in part)) (parts_in p)) q.paths
  paths_inner = each_flat (λ part. Each (IsRightInner d g vs) (inner_in part)) parts_in q.paths (each_flat (IsRightInner d g vs) inner_in (parts_of q) inner_right)

  paths_few : Each (λ p. Each (λ part. fourth_edge part ≡ []) (parts_in p)) q.paths
  paths_few = each_flat (λ part. fourth_edge part ≡ []) parts_in q.paths (each_nil fourth_edge (parts_of q) (left_nil edges_places (numbers_places ++ lengths_places) behind_variables))

  paths_ordered : Each (λ p. flat_map (λ (c : Quant). place_if (is_below c.high c.low) c.at) (quants_in p) ≡ []) q.paths
  paths_ordered = each_nil (λ p. flat_map (λ (c : Quant). place_if (is_below c.high c.low) c.at) (quants_in p)) q.paths free.ordered

  paths_small : Each (λ p. flat_map large (quants_in p) ≡ []) q.paths
  paths_small = each_nil (λ p. flat_map large (quants_in p)) q.paths (left_nil numbers_places lengths_places behind_edges)

  paths_upper : Each (λ (p : PathPattern). flat_map (λ (c : Quant). place_if (is_none c.high && (is_every p.selector && walks_on p.mode (outlines p))) c.at) (quants_in p) ≡ []) q.paths
  paths_upper = each_nil (λ (p : PathPattern). flat_map (λ (c : Quant). place_if (is_none c.high && (is_every p.selector && walks_on p.mode (outlines p))) c.at) (quants_in p)) q.paths free.upper

  paths_short : Each (λ (p : PathPattern). nat_lt 1000 (length_number (outlines p)) ≡ false) q.paths
  paths_short = each_free (λ (p : PathPattern). nat_lt 1000 (length_number (outlines p))) (λ (p : PathPattern). p.at) q.paths (right_nil numbers_places lengths_places behind_edges)

  right_path : (p : PathPattern) → Contains q.paths p → IsRightPath d g vs p
  right_path p c = record {
    inner = each_at (λ p. Each (λ part. Each (IsRightInner d g vs) (inner_in part)) (parts_in p)) q.paths p paths_inner c;
    written = each_at (λ p. Each IsWrittenPart (parts_in p)) q.paths p (each_flat IsWrittenPart parts_in q.paths written.groups) c;
    few_edges = each_at (λ p. Each (λ part. fourth_edge part ≡ []) (parts_in p)) q.paths p paths_few c;
    ordered = each_free (λ (k : Quant). is_below k.high k.low) (λ (k : Quant). k.at) (quants_in p)
        (each_at (λ p. flat_map (λ (k : Quant). place_if (is_below k.high k.low) k.at) (quants_in p) ≡ []) q.paths p paths_ordered c);
    small = each_free (λ (k : Quant). nat_lt 255 k.low || is_above 255 k.high) (λ (k : Quant). k.at) (quants_in p) (each_at (λ p. flat_map large (quants_in p) ≡ []) q.paths p paths_small c);
    upper = each_free (λ (k : Quant). is_none k.high && (is_every p.selector && walks_on p.mode (outlines p))) (λ (k : Quant). k.at) (quants_in p)
        (each_at (λ (p : PathPattern). flat_map (λ (k : Quant). place_if (is_none k.high && (is_every p.selector && walks_on p.mode (outlines p))) k.at) (quants_in p) ≡ []) q.paths p paths_upper c);
    short = ltb-false 1000 (length_number (outlines p)) (each_at (λ (p : PathPattern). nat_lt 1000 (length_number (outlines p)) ≡ false) q.paths p paths_short c);
    known = each_at (λ p. Knows vs (mentions_in 0 (outlines p))) q.paths p paths_know c;
    apart = each_at (IsApart vs) q.paths p paths_are_apart c;
  }

  paths_sound : (ps : List PathPattern) → Each (IsRightPath d g vs) ps → Each (λ (p : CheckedPath). (p.graph ≡ cq.graph) × IsSoundPath (shapes d) p) (map (checked_path d g vs) ps)
  paths_sound [] r = tt
  paths_sound (p ∷ ps) r = ((refl, path_sound d g vs catalog.sound catalog.small graph_is p r.0), paths_sound ps r.1)

  -- MENTIONS

  abbrev all_mentions : List (Mention Name)
  all_mentions = mentions_of q

  kept : whole.mentions_of cq ≡ map (numbered vs) all_mentions
  kept = mentions_are_kept d q

  known_mentions : Knows vs all_mentions
  known_mentions = all_known all_mentions

  strict_same : (path : ℕ) → whole.is_strict cq path ≡ is_strict q path
  strict_same path = ap whole.walks_on_in (slice_get-map (checked_path d g vs) q.paths path) ∙ go (slice_get q.paths path)
    where
      go : (o : Option PathPattern) → whole.walks_on_in (option_map (checked_path d g vs) o) ≡ walks_on_in o
      go None = refl
      go (Some p) = ap (walks_on p.mode) (outlines_kept d g vs p.parts) ∙ same_walks (λ n. number_of vs n) p.mode (outlines p)

  apart : NoPair (clash same_number (whole.is_strict cq)) (whole.mentions_of cq)
  apart =
      subst (NoPair (clash same_number (whole.is_strict cq))) (sym kept)
      (no_pair_over (numbered vs) (clash same_number (whole.is_strict cq)) all_mentions
      (no_pair_agrees (λ (m : Mention Name). is_among vs m.variable ≡ true) (clash same_name (is_strict q)) (λ x y. clash same_number (whole.is_strict cq) (numbered vs x) (numbered vs y))
      (λ x y a b. clash_numbered vs (is_strict q) (whole.is_strict cq) strict_same x y a b) all_mentions known_mentions (none_later (clash same_name (is_strict q)) all_mentions not_later)))

  in_order : checked.variables_of (whole.mentions_of cq) ≡ range_with_len 0 cq.vars
  in_order = ap checked.variables_of kept ∙ variables_numbered vs all_mentions known_mentions ∙ numbered_in_order all_mentions

  -- EXPRESSIONS OUTSIDE THE PATTERNS

  abbrev degree : Name → Option Degree
  degree n = queries.degree_of q n

  known_use : (u : Use) → is_among vs u.variable ≡ true → IsKnown d g vs catalog.sound (degrees_of cq) degree u
  known_use u h =
      let x = has_degree all_mentions u.variable h in
      record {
        degree_of = x.0;
        has = x.1;
        same = ap (λ ms. degree_in same_number ms (number_of vs u.variable)) kept ∙ degree_numbered vs u.variable h all_mentions known_mentions;
      }

  outer_known : Each (λ t. Each (λ (u : Use). is_among vs u.variable ≡ true) (uses t)) (outer q)
  outer_known =
      each_right (λ t. Each (λ (u : Use). is_among vs u.variable ≡ true) (uses t)) (inner q) (outer q)
      (each_flat (λ (u : Use). is_among vs u.variable ≡ true) uses (inner q ++ outer q) (each_passes (λ (u : Use). is_among vs u.variable) (λ (u : Use). u.variable.at) (uses_of q) not_unknown))

  outer_bare : Each (λ t. flat_map (λ (u : Use). place_if (is_empty u.around && is_grouped (degree u.variable)) u.variable.at) (uses t) ≡ []) (outer q)
  outer_bare = each_nil (λ t. flat_map (λ (u : Use). place_if (is_empty u.around && is_grouped (degree u.variable)) u.variable.at) (uses t)) (outer q) not_bare

  abbrev wrongly_used : Aggregate → Bool
  wrongly_used a = not (is_empty a.around) || (not (are_of_one a.argument) || list_any (λ (u : Use). is_singleton (degree u.variable)) a.argument)

  outer_used : Each (λ t. flat_map (λ (a : Aggregate). place_if (wrongly_used a) a.at) (aggregates t) ≡ []) (outer q)
  outer_used = each_nil (λ t. flat_map (λ (a : Aggregate). place_if (wrongly_used a) a.at) (aggregates t)) (outer q) not_misused

  of_outer : (P : ExprTree → Type 0) → Each P (inner q ++ outer q) → Each P (outer q)
  of_outer P h = each_right P (inner q) (outer q) h

  outer_digits : (t : ExprTree) → Contains (outer q) t → HasDigits t
  outer_digits t c = has_digits names t (each_at HasBits (outer q) t (of_outer HasBits written.literals) c) (each_at (λ t. wide_at names t ≡ []) (outer q) t (of_outer (λ t. wide_at names t ≡ []) all_narrow) c)

  expr_sound : (t : ExprTree) → Contains (outer q) t → IsSoundTree frame (degrees_of cq) (ctree_of (checked_tree d g vs t))
  expr_sound t c = record {
    reads = reads d g vs catalog.sound t;
    binds = binds d g vs catalog.sound (degrees_of cq) degree t
        (each_map (λ (u : Use). is_among vs u.variable ≡ true) (IsKnown d g vs catalog.sound (degrees_of cq) degree) known_use (uses t)
        (each_at (λ t. Each (λ (u : Use). is_among vs u.variable ≡ true) (uses t)) (outer q) t outer_known c))
        (each_free (λ (u : Use). is_empty u.around && is_grouped (degree u.variable)) (λ (u : Use). u.variable.at) (uses t)
        (each_at (λ t. flat_map (λ (u : Use). place_if (is_empty u.around && is_grouped (degree u.variable)) u.variable.at) (uses t) ≡ []) (outer q) t outer_bare c))
        (each_free wrongly_used (λ (a : Aggregate). a.at) (aggregates t) (each_at (λ t. flat_map (λ (a : Aggregate). place_if (wrongly_used a) a.at) (aggregates t) ≡ []) (outer q) t outer_used c));
    typed = is_typed d g vs catalog.sound t (outer_digits t c) (each_at (λ t. types_at names t ≡ []) (outer q) t (of_outer (λ t. types_at names t ≡ []) all_typed) c);
    narrow = narrow d g vs catalog.sound t (outer_digits t c) (each_at (λ t. wide_at names t ≡ []) (outer q) t (of_outer (λ t. wide_at names t ≡ []) all_narrow) c);
  }

  -- THE FINAL CONDITION AND THE COLUMNS

  abbrev condition_trees : List ExprTree
  condition_trees = map (λ (w : Whole). tree_of w.expr) (option_to_list q.cond)

  abbrev column_trees : List ExprTree
  column_trees = map (λ (c : ColumnItem). tree_of c.expr.expr) q.columns

  final_true : Each (λ (w : Whole). may_be kinds.Bool (kind_of names (tree_of w.expr)) ≡ true) (option_to_list q.cond)
  final_true = each_right (λ (w : Whole). may_be kinds.Bool (kind_of names (tree_of w.expr)) ≡ true) (map (λ (i : Inner). i.condition) (inner_conditions q)) (option_to_list q.cond) all_true

  condition_sound : IsSoundCondition frame (degrees_of cq) cq.cond
  condition_sound = go q.cond (λ t c. in_left condition_trees column_trees t c) final_true
    where
      go : (o : Option Whole) → ((t : ExprTree) → Contains (map (λ (w : Whole). tree_of w.expr) (option_to_list o)) t → Contains (outer q) t)
          → Each (λ (w : Whole). may_be kinds.Bool (kind_of names (tree_of w.expr)) ≡ true) (option_to_list o) → IsSoundCondition frame (degrees_of cq) (checked_condition d g vs o)
      go None among truth = tt
      go (Some w) among truth =
          let t : ExprTree = tree_of w.expr in
          let c : Contains (outer q) t = among t (in_here t [] t refl) in
          record { sound = expr_sound t c; of_kind = ap (may_be kinds.Bool) (same_kind d g vs catalog.sound t (outer_digits t c)) ∙ truth.0 }

  columns_sound : (cs : List ColumnItem) → ((t : ExprTree) → Contains (map (λ (c : ColumnItem). tree_of c.expr.expr) cs) t → Contains (outer q) t)
      → Each (IsSoundColumn (shapes d) (degrees_of cq)) (map (checked_column d g vs names) cs)
  columns_sound [] among = tt
  columns_sound (c ∷ cs) among =
      let trees : List ExprTree = map (λ (c : ColumnItem). tree_of c.expr.expr) cs in
      let t : ExprTree = tree_of c.expr.expr in
      let own : Contains (outer q) t = among t (in_here t trees t refl) in (
        record {
          sound = expr_sound t own;
          kind = sym (same_kind d g vs catalog.sound t (outer_digits t own));
          width = sym (same_width d g vs catalog.sound t (outer_digits t own));
        },
        columns_sound cs (λ u m. among u (in_there t trees u m)),
      )

  -- THE QUERY

  query_sound : IsSoundQuery (shapes d) cq
  query_sound = record {
    graph = graph_is;
    few = at_most (λ (p : PathPattern). p.at) (checked_path d g vs) q.paths 8 (left_nil paths_places (columns_places ++ (variables_places ++ (edges_places ++ (numbers_places ++ lengths_places)))) free.limits);
    paths = paths_sound q.paths (each_in (IsRightPath d g vs) q.paths right_path);
    apart = apart;
    numbered = in_order;
    few_variables = subst (λ n. n ≤ 32) (length-map vs (λ (n : Name). n.at))
        (few (map (λ (n : Name). n.at) vs) 32 (left_nil variables_places (edges_places ++ (numbers_places ++ lengths_places)) behind_columns));
    condition = condition_sound;
    few_columns = at_most (λ (c : ColumnItem). c.expr.at) (checked_column d g vs names) q.columns 32
        (left_nil columns_places (variables_places ++ (edges_places ++ (numbers_places ++ lengths_places))) behind_paths);
    columns = columns_sound q.columns (λ t c. in_right condition_trees column_trees t c);
  }

pub accepted_queries_are_sound : AcceptedQueriesAreSound
accepted_queries_are_sound d q catalog written h = query_sound d q catalog written (accepted d q h)
