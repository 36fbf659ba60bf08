-- A checked path pattern of a query is sound where the one that is written has no place of a fault.
use Rattle.std.proofs.Common.{◌≡◌, ◌+◌, ◌*◌, ◌≤◌, ◌==◌, ◌||◌, ◌&&◌, ℕ, Bool, true, false, cond, is_none, nat_lt, ltb-false, refl, ap, sym, ◌∙◌, subst, arith, eq-eqb, List, [], ◌∷◌, ◌++◌, map, length, Contains, Option, Some, None}
use Rattle.std.proofs.lemmas.Bool.{eqb-true}
use Rattle.std.proofs.lemmas.List.{length-map}
use Rattle.std.specs.Prelude.{option_map, option_to_list, filter, IfSome}
use Rattle.std.specs.List.{list_any, flat_map, cons_option}
use Rattle.pg_keyed.specs.Lists.{Each, each_map}
use Rattle.pg_value.specs.declared.value.Kind.TheVariants as kinds
use Rattle.pg_value.specs.declared.shape.TableNo.{TableNo}
use Rattle.pg_value.specs.declared.shape.GraphNo.{GraphNo}
use Rattle.pg_ast.specs.declared.expr.Name.{Name}
use Rattle.pg_ast.specs.declared.expr.Whole.{Whole}
use Rattle.pg_ast.specs.declared.pattern.Filler.{Filler}
use Rattle.pg_ast.specs.declared.pattern.Quant.{Quant}
use Rattle.pg_ast.specs.declared.pattern.Mode.{Mode}
use Rattle.pg_ast.specs.declared.pattern.Part.{Part}
use Rattle.pg_ast.specs.declared.pattern.Part.TheVariants as parts
use Rattle.pg_ast.specs.declared.pattern.PathPattern.{PathPattern}
use Rattle.pg_ast.specs.Trees.{ExprTree, tree_of, LabelTree}
use Rattle.pg_meaning.specs.declared.checked.CFiller.{CFiller}
use Rattle.pg_meaning.specs.HopQuery.{edge_tables}
use Rattle.pg_meaning.specs.Members.{in_map, from_map, from_any, in_filter}
use Rattle.pg_meaning.specs.Fits.{HasTable}
use Rattle.pg_meaning.specs.Rounds as rounds
use Rattle.pg_meaning.specs.Typing.{Names, kind_of, may_be}
use Rattle.pg_meaning.specs.Outlines.{Outline, is_every, is_walk, has_no_upper, walks_on, times_of, length_number}
use Rattle.pg_meaning.specs.Mentions.{Mention, Singleton, mentions_in, clash}
use Rattle.pg_meaning.specs.Sound.{IsSoundOf, IsSoundCondition}
use Rattle.pg_meaning.specs.Sound.Kinds.{Frame, OfTables}
use Rattle.pg_meaning.specs.Sound.Patterns as checked
use Rattle.pg_meaning.specs.Sound.Patterns.{NoPair, IsSoundFiller, IsSoundNode, IsSoundLink, IsSoundPart, IsSoundQuant, IsSoundPath, same_number, singletons, variables_in}
use Rattle.pg_meaning.specs.Sound.Graphs.{IsSoundGraph}
use Rattle.pg_rules.specs.declared.entry.ElementEntry.{ElementEntry}
use Rattle.pg_rules.specs.declared.entry.EdgeEntry.{EdgeEntry}
use Rattle.pg_rules.specs.Catalog.{Defined, IsSmall}
use Rattle.pg_rules.specs.Catalog.LookUps.{table_number}
use Rattle.pg_rules.specs.Catalog.GraphLookUps.{bit, has_number, of_sort, tables_of, graph_numbered, graph_shape, first_edge, numbers_from}
use Rattle.pg_rules.specs.Catalog.Shapes.{shapes}
use Rattle.pg_rules.specs.Catalog.Sound.{IsSound}
use Rattle.pg_rules.specs.Definitions.Graphs.{labels_in}
use Rattle.pg_meaning.specs.LabelSets.{admits}
use Rattle.pg_rules.specs.ExprFaults.{types_at, wide_at}
use Rattle.pg_rules.specs.Queries.{names_of, is_among, quants_in, is_below, is_above, fourth_edge}
use Rattle.pg_rules.specs.Queries.Collections.{Use, Inner, inner_of, inner_in, inner_if, named, same_name, uses, aggregates, outline_of, outlines, quant_of}
use Rattle.pg_rules.specs.Queries.CheckedQueries.{checked_tree, checked_condition, checked_filler, checked_part, checked_path, number_of, numbered, label_of, set_of}
use Rattle.pg_rules.specs.Written.{HasBits, IsWrittenPart}
use Rattle.pg_rules.proofs.KeptSound.Lists.{or_left, or_right, and_right, true_false}
use Rattle.pg_rules.proofs.QueryLaws.{on_outline, outlines_kept, path_kept}
use Rattle.pg_rules.proofs.SoundShapes.{tables_are, numbers_stand}
use Rattle.pg_rules.proofs.Accepted.Lists.{each_left, each_right, each_flat, each_over, few}
use Rattle.pg_rules.proofs.Accepted.TableSets.{set_made, small_have}
use Rattle.pg_rules.proofs.Accepted.Resolved.{same_kind}
use Rattle.pg_rules.proofs.Accepted.Numbers.{Knows, one_number, variables_numbered}
use Rattle.pg_rules.proofs.Accepted.Exprs.{has_digits, reads, is_typed, narrow, binds_plainly}

-- THE TABLES OF A NODE OR AN EDGE

bit_true : (b : Bool) → bit b ≡ 1 → b ≡ true
bit_true true h = refl
bit_true false h = absurd (omega (arith, h))

tables_of_elements : (es : List EdgeEntry) → map (λ (e : ElementEntry). e.table) (map (λ (e : EdgeEntry). e.element) es) ≡ map (λ (e : EdgeEntry). e.element.table) es
tables_of_elements [] = refl
tables_of_elements (e ∷ es) = ap (λ ts. e.element.table ∷ ts) (tables_of_elements es)

-- a table of the set of some element tables' numbers is one of theirs
of_tables : (d : Defined) (g : GraphNo) (edge : Bool) (x : LabelTree) → IsSmall d → (t : TableNo) → HasTable (set_of (tables_of d g edge x)) t
    → Contains (map (λ (e : ElementEntry). e.table) (of_sort (graph_numbered d.1 g) edge)) t
of_tables d g edge x small t h =
    let es : List ElementEntry = of_sort (graph_numbered d.1 g) edge in
    let kept : List ElementEntry = filter (λ (e : ElementEntry). admits (labels_in e) x) es in
    let has : has_number t.0 (tables_of d g edge x) ≡ true = bit_true (has_number t.0 (tables_of d g edge x)) (sym (set_made (tables_of d g edge x) (small_have d g edge x small) t.0) ∙ h) in
    let u = from_any (λ (n : ℕ). n == t.0) (tables_of d g edge x) has in
    let e = from_map (λ (k : ElementEntry). k.table.0) kept u.0 u.1 in
    let i = in_filter (λ (k : ElementEntry). admits (labels_in k) x) es e.0 e.1 in
    let same : e.0.table ≡ t = ap table_number (e.2 ∙ eqb-true u.0 t.0 u.2) in
    subst (λ k. Contains (map (λ (e : ElementEntry). e.table) es) k) same (in_map (λ (k : ElementEntry). k.table) es e.0 i.0)

-- the edge tables of the graph
edges_are : (d : Defined) (g : GraphNo) → map (λ (e : ElementEntry). e.table) (of_sort (graph_numbered d.1 g) true) ≡ edge_tables (shapes d) (graph_shape d g)
edges_are d g =
    let es : List EdgeEntry = (graph_numbered d.1 g).edges in
    tables_of_elements es ∙ sym (tables_are d (numbers_from (first_edge d.1 g.0) es) es (numbers_stand d g))

-- WHAT IS RIGHT OF A PATH PATTERN

module _ (d : Defined) (g : GraphNo) (vs : List Name) where
  abbrev names : Names
  names = names_of (graph_numbered d.1 g)

  -- a condition inside a pattern
  pub record IsRightInner (i : Inner) : Type 0 where
    pub own : Each (λ (u : Use). is_among i.own u.variable ≡ true) (uses (tree_of i.condition.expr))
    pub plain : aggregates (tree_of i.condition.expr) ≡ []
    pub typed : types_at names (tree_of i.condition.expr) ≡ []
    pub narrow : wide_at names (tree_of i.condition.expr) ≡ []
    pub truth : may_be kinds.Bool (kind_of names (tree_of i.condition.expr)) ≡ true
    pub bits : HasBits (tree_of i.condition.expr)

  pub record IsRightPath (p : PathPattern) : Type 0 where
    pub inner : Each (λ part. Each IsRightInner (inner_in part)) p.parts
    pub written : Each IsWrittenPart p.parts
    pub few_edges : Each (λ part. fourth_edge part ≡ []) p.parts
    pub ordered : Each (λ (c : Quant). is_below c.high c.low ≡ false) (quants_in p)
    pub small : Each (λ (c : Quant). (nat_lt 255 c.low || is_above 255 c.high) ≡ false) (quants_in p)
    pub upper : Each (λ (c : Quant). (is_none c.high && (is_every p.selector && walks_on p.mode (outlines p))) ≡ false) (quants_in p)
    pub short : length_number (outlines p) ≤ 1000
    pub known : Knows vs (mentions_in 0 (outlines p))
    pub apart : NoPair (λ (m n : Mention Name). clash same_number (λ path. walks_on p.mode (outlines p)) (numbered vs m) (numbered vs n)) (mentions_in 0 (outlines p))

-- QUANTIFIERS

same_quant : (d : Defined) (g : GraphNo) (vs : List Name) (part : Part) → rounds.quant_of (checked_part d g vs part) ≡ quant_of part
same_quant d g vs (parts.Node f) = refl
same_quant d g vs (parts.Edge arrow f quant) = refl
same_quant d g vs (parts.Group nodes arrows edges condition quant) = refl

quant_sound : (o : Option Quant) → Each (λ (c : Quant). is_below c.high c.low ≡ false) (option_to_list o) → Each (λ (c : Quant). (nat_lt 255 c.low || is_above 255 c.high) ≡ false) (option_to_list o) → IsSoundQuant o
quant_sound None h k = tt
quant_sound (Some c) h k = (ltb-false 255 c.low (or_left (nat_lt 255 c.low) (is_above 255 c.high) k.0), go c.high h.0 (or_right (nat_lt 255 c.low) (is_above 255 c.high) k.0))
  where
    go : (o : Option ℕ) → is_below o c.low ≡ false → is_above 255 o ≡ false → IfSome o (λ high. (c.low ≤ high) × (high ≤ 255))
    go None e f = tt
    go (Some high) e f = (ltb-false high c.low e, ltb-false 255 high f)

quants_sound : (d : Defined) (g : GraphNo) (vs : List Name) (ps : List Part) → Each (λ part. Each (λ (c : Quant). is_below c.high c.low ≡ false) (option_to_list (quant_of part))) ps
    → Each (λ part. Each (λ (c : Quant). (nat_lt 255 c.low || is_above 255 c.high) ≡ false) (option_to_list (quant_of part))) ps
    → Each (λ part. IsSoundQuant (rounds.quant_of part)) (map (checked_part d g vs) ps)
quants_sound d g vs [] h k = tt
quants_sound d g vs (p ∷ ps) h k = (subst IsSoundQuant (sym (same_quant d g vs p)) (quant_sound (quant_of p) h.0 k.0), quants_sound d g vs ps h.1 k.1)

-- OUTLINES

module _ {V W : Type 0} (f : V → W) where
  any_upper : (os : List (Outline V)) → list_any (λ (o : Outline W). has_no_upper o.quant) (map (on_outline f) os) ≡ list_any (λ (o : Outline V). has_no_upper o.quant) os
  any_upper [] = refl
  any_upper (o ∷ os) = ap (λ b. has_no_upper o.quant || b) (any_upper os)

  pub same_walks : (mode : Mode) (os : List (Outline V)) → walks_on mode (map (on_outline f) os) ≡ walks_on mode os
  same_walks mode os = ap (λ b. is_walk mode && b) (any_upper os)

  same_length : (os : List (Outline V)) → length_number (map (on_outline f) os) ≡ length_number os
  same_length [] = refl
  same_length (o ∷ os) = λ i. length-map o.edges (option_map f) i * times_of o.quant + same_length os i

-- where every walk is allowed and a part may be repeated without end, a quantifier has no upper number
no_upper_in : (ps : List Part) → list_any (λ (o : Outline Name). has_no_upper o.quant) (map outline_of ps) ≡ true
    → (b : Bool) → Each (λ part. Each (λ (c : Quant). (is_none c.high && b) ≡ false) (option_to_list (quant_of part))) ps → b ≡ false
no_upper_in [] h b k = absurd (true_false (sym h))
no_upper_in (p ∷ ps) h b k = go (has_no_upper (outline_of p).quant) refl h (λ r. no_upper_in ps r b k.1)
  where
    quant_at : (o : Option Quant) → has_no_upper o ≡ true → Each (λ (c : Quant). (is_none c.high && b) ≡ false) (option_to_list o) → b ≡ false
    quant_at None e l = absurd (true_false (sym e))
    quant_at (Some c) e l = sym (ap (λ x. x && b) e) ∙ l.0

    own : (part : Part) → has_no_upper (outline_of part).quant ≡ true → Each (λ (c : Quant). (is_none c.high && b) ≡ false) (option_to_list (quant_of part)) → b ≡ false
    own (parts.Node f) e l = quant_at None e l
    own (parts.Edge arrow f quant) e l = quant_at quant e l
    own (parts.Group nodes arrows edges condition quant) e l = quant_at quant e l

    go : (x : Bool) → has_no_upper (outline_of p).quant ≡ x → (x || list_any (λ (o : Outline Name). has_no_upper o.quant) (map outline_of ps)) ≡ true
        → (list_any (λ (o : Outline Name). has_no_upper o.quant) (map outline_of ps) ≡ true → b ≡ false) → b ≡ false
    go true e f rest = own p e k.0
    go false e f rest = rest f

is_bounded : (p : PathPattern) → Each (λ (c : Quant). (is_none c.high && (is_every p.selector && walks_on p.mode (outlines p))) ≡ false) (quants_in p)
    → (is_every p.selector && walks_on p.mode (outlines p)) ≡ false
is_bounded p h = go (is_every p.selector && walks_on p.mode (outlines p)) refl
  where
    bound : Bool
    bound = is_every p.selector && walks_on p.mode (outlines p)

    go : (b : Bool) → bound ≡ b → b ≡ false
    go false e = refl
    go true e =
        let walks : walks_on p.mode (outlines p) ≡ true = and_right (is_every p.selector) (walks_on p.mode (outlines p)) e in
        let any : list_any (λ (o : Outline Name). has_no_upper o.quant) (outlines p) ≡ true = and_right (is_walk p.mode) (list_any (λ (o : Outline Name). has_no_upper o.quant) (outlines p)) walks in
        sym e ∙ no_upper_in p.parts any bound (each_flat (λ (c : Quant). (is_none c.high && bound) ≡ false) (λ part. option_to_list (quant_of part)) p.parts h)

-- CONDITIONS

among_numbers : (vs own : List Name) (n : Name) → is_among own n ≡ true → list_any (λ y. y == number_of vs n) (map (number_of vs) own) ≡ true
among_numbers vs [] n h = absurd (true_false (sym h))
among_numbers vs (v ∷ own) n h = go (same_name n v) refl h (among_numbers vs own n)
  where
    rest_true : (b : Bool) → (b || true) ≡ true
    rest_true true = refl
    rest_true false = refl

    go : (b : Bool) → same_name n v ≡ b → (b || is_among own n) ≡ true → (is_among own n ≡ true → list_any (λ y. y == number_of vs n) (map (number_of vs) own) ≡ true)
        → ((number_of vs v == number_of vs n) || list_any (λ y. y == number_of vs n) (map (number_of vs) own)) ≡ true
    go true e k rest = ap (λ b. b || list_any (λ y. y == number_of vs n) (map (number_of vs) own)) (eq-eqb (number_of vs v) (number_of vs n) (sym (one_number vs n v e)))
    go false e k rest = ap (λ b. (number_of vs v == number_of vs n) || b) (rest k) ∙ rest_true (number_of vs v == number_of vs n)

own_variables_of : (vs : List Name) (o : Option Name) → cons_option (option_map (number_of vs) o) [] ≡ map (number_of vs) (option_to_list o)
own_variables_of vs None = refl
own_variables_of vs (Some v) = refl

module _ (d : Defined) (g : GraphNo) (vs : List Name) (sound : IsSound d) (small : IsSmall d) where
  abbrev right_inner : Inner → Type 0
  right_inner i = IsRightInner d g vs i

  abbrev frame : Frame
  frame = OfTables (shapes d)

  condition_sound : (own : List Name) (numbers : List ℕ) (w : Whole) → numbers ≡ map (number_of vs) own → right_inner (record { condition = w; own = own })
      → IsSoundOf kinds.Bool frame (singletons numbers) (checked_tree d g vs (tree_of w.expr))
  condition_sound own numbers w same r =
      let t : ExprTree = tree_of w.expr in
      let digits = has_digits (names_of (graph_numbered d.1 g)) t r.bits r.narrow in
      record {
        sound = record {
          reads = reads d g vs sound t;
          binds = binds_plainly d g vs sound (singletons numbers) [] t r.plain
              (each_map (λ (u : Use). is_among own u.variable ≡ true) (λ (u : Use). singletons numbers (number_of vs u.variable) ≡ Some Singleton)
              (λ u h. ap (λ b. cond b (Some Singleton) None) (ap (list_any (λ y. y == number_of vs u.variable)) same ∙ among_numbers vs own u.variable h)) (uses t) r.own);
          typed = is_typed d g vs sound t digits r.typed;
          narrow = narrow d g vs sound t digits r.narrow;
        };
        of_kind = ap (may_be kinds.Bool) (same_kind d g vs sound t digits) ∙ r.truth;
      }

  condition_if : (own : List Name) (numbers : List ℕ) (o : Option Whole) → numbers ≡ map (number_of vs) own → Each right_inner (inner_if o own)
      → IsSoundCondition frame (singletons numbers) (checked_condition d g vs o)
  condition_if own numbers None same r = tt
  condition_if own numbers (Some w) same r = condition_sound own numbers w same r.0

  -- NODES AND EDGES

  filler_condition : (edge : Bool) (f : Filler) → Each right_inner (inner_of f)
      → IsSoundCondition frame (singletons (variables_in (checked_filler d g vs edge f ∷ []))) (checked_condition d g vs f.cond)
  filler_condition edge f r = condition_if (option_to_list f.var) (variables_in (checked_filler d g vs edge f ∷ [])) f.cond (own_variables_of vs f.var) r

  node_sound : (f : Filler) → Each right_inner (inner_of f) → IsSoundNode (shapes d) (graph_shape d g) (checked_filler d g vs false f)
  node_sound f r = record { tables = of_tables d g false (label_of f.label) small; condition = filler_condition false f r }

  link_sound : (f : Filler) → Each right_inner (inner_of f) → IsSoundLink (shapes d) (graph_shape d g) (checked_filler d g vs true f)
  link_sound f r = record {
    tables = λ t h. subst (λ ts. Contains ts t) (edges_are d g) (of_tables d g true (label_of f.label) small t h);
    condition = filler_condition true f r;
  }

  nodes_sound : (fs : List Filler) → Each (λ f. Each right_inner (inner_of f)) fs → Each (IsSoundNode (shapes d) (graph_shape d g)) (map (checked_filler d g vs false) fs)
  nodes_sound [] r = tt
  nodes_sound (f ∷ fs) r = (node_sound f r.0, nodes_sound fs r.1)

  links_sound : (fs : List Filler) → Each (λ f. Each right_inner (inner_of f)) fs → Each (IsSoundLink (shapes d) (graph_shape d g)) (map (checked_filler d g vs true) fs)
  links_sound [] r = tt
  links_sound (f ∷ fs) r = (link_sound f r.0, links_sound fs r.1)

  -- GROUPS

  cons_numbered : (o : Option Name) (ns : List Name) → cons_option (option_map (number_of vs) o) (map (number_of vs) ns) ≡ map (number_of vs) (cons_option o ns)
  cons_numbered None ns = refl
  cons_numbered (Some v) ns = refl

  fillers_named : (edge : Bool) (fs : List Filler) (rest : List CFiller) (ns : List Name) → variables_in rest ≡ map (number_of vs) ns
      → variables_in (map (checked_filler d g vs edge) fs ++ rest) ≡ map (number_of vs) (named fs ++ ns)
  fillers_named edge [] rest ns h = h
  fillers_named edge (f ∷ fs) rest ns h =
      ap (cons_option (option_map (number_of vs) f.var)) (fillers_named edge fs rest ns h) ∙ cons_numbered f.var (named fs ++ ns) ∙ ap (map (number_of vs)) (behind f.var (named fs) ns)
    where
      behind : (o : Option Name) (xs ys : List Name) → cons_option o (xs ++ ys) ≡ cons_option o xs ++ ys
      behind None xs ys = refl
      behind (Some x) xs ys = refl

  named_append : (fs hs : List Filler) → named fs ++ named hs ≡ named (fs ++ hs)
  named_append [] hs = refl
  named_append (f ∷ fs) hs = behind f.var (named fs) (named hs) ∙ ap (cons_option f.var) (named_append fs hs)
    where
      behind : (o : Option Name) (xs ys : List Name) → cons_option o xs ++ ys ≡ cons_option o (xs ++ ys)
      behind None xs ys = refl
      behind (Some x) xs ys = refl

  nil_right : (ns : List Name) → ns ++ [] ≡ ns
  nil_right [] = refl
  nil_right (n ∷ ns) = ap (λ ms. n ∷ ms) (nil_right ns)

  nil_behind : (fs : List CFiller) → fs ++ [] ≡ fs
  nil_behind [] = refl
  nil_behind (f ∷ fs) = ap (λ hs. f ∷ hs) (nil_behind fs)

  group_variables : (nodes edges : List Filler)
      → variables_in (map (checked_filler d g vs false) nodes ++ map (checked_filler d g vs true) edges) ≡ map (number_of vs) (named (nodes ++ edges))
  group_variables nodes edges =
      let own : variables_in (map (checked_filler d g vs true) edges) ≡ map (number_of vs) (named edges) =
      ap variables_in (sym (nil_behind (map (checked_filler d g vs true) edges))) ∙ fillers_named true edges [] [] refl ∙ ap (map (number_of vs)) (nil_right (named edges)) in
      fillers_named false nodes (map (checked_filler d g vs true) edges) (named edges) own ∙ ap (map (number_of vs)) (named_append nodes edges)

  part_sound : (p : Part) → Each right_inner (inner_in p) → IsWrittenPart p → fourth_edge p ≡ [] → IsSoundPart (shapes d) (graph_shape d g) (checked_part d g vs p)
  part_sound (parts.Node f) r w few_edges = node_sound f (each_flat right_inner inner_of (f ∷ []) (each_left right_inner (flat_map inner_of (f ∷ [])) [] r)).0
  part_sound (parts.Edge arrow f quant) r w few_edges = link_sound f (each_flat right_inner inner_of (f ∷ []) (each_left right_inner (flat_map inner_of (f ∷ [])) [] r)).0
  part_sound (parts.Group nodes arrows edges condition quant) r w few_edges =
      let own = inner_if condition (named (nodes ++ edges)) in
      let fillers = each_flat right_inner inner_of (nodes ++ edges) (each_left right_inner (flat_map inner_of (nodes ++ edges)) own r) in
      let count : length edges ≡ length (map (checked_filler d g vs true) edges) = sym (length-map edges (checked_filler d g vs true)) in
      let at_most : length (map (λ (f : Filler). f.at) edges) ≤ 3 = few (map (λ (f : Filler). f.at) edges) 3 few_edges in
      let same : length (map (λ (f : Filler). f.at) edges) ≡ length edges = length-map edges (λ (f : Filler). f.at) in
      let short : length edges ≤ 3 = subst (λ n. n ≤ 3) same at_most in (
        nodes_sound nodes (each_left (λ f. Each right_inner (inner_of f)) nodes edges fillers),
        links_sound edges (each_right (λ f. Each right_inner (inner_of f)) nodes edges fillers),
        length-map nodes (checked_filler d g vs false) ∙ w.0 ∙ ap (λ n. n + 1) count,
        w.1 ∙ count,
        subst (λ n. 1 ≤ n) count w.2,
        subst (λ n. n ≤ 3) count short,
        condition_if (named (nodes ++ edges)) (variables_in (map (checked_filler d g vs false) nodes ++ map (checked_filler d g vs true) edges)) condition (group_variables nodes edges)
            (each_right right_inner (flat_map inner_of (nodes ++ edges)) own r),
      )

  parts_sound : (ps : List Part) → Each (λ p. Each right_inner (inner_in p)) ps → Each IsWrittenPart ps → Each (λ p. fourth_edge p ≡ []) ps → Each (IsSoundPart (shapes d) (graph_shape d g)) (map (checked_part d g vs) ps)
  parts_sound [] r w f = tt
  parts_sound (p ∷ ps) r w f = (part_sound p r.0 w.0 f.0, parts_sound ps r.1 w.1 f.1)

  -- PATH PATTERNS

  over_numbered : (mode : Mode) (os : List (Outline Name)) (cs : List (Outline ℕ)) (ms : List (Mention Name)) → walks_on mode cs ≡ walks_on mode os
      → NoPair (λ (m n : Mention Name). clash same_number (λ path. walks_on mode os) (numbered vs m) (numbered vs n)) ms → NoPair (clash same_number (λ path. walks_on mode cs)) (map (numbered vs) ms)
  over_numbered mode os cs [] same h = tt
  over_numbered mode os cs (m ∷ ms) same h = (
    each_over (λ (y : Mention ℕ). clash same_number (λ path. walks_on mode cs) (numbered vs m) y ≡ false) (numbered vs) ms
        (each_map (λ (n : Mention Name). clash same_number (λ path. walks_on mode os) (numbered vs m) (numbered vs n) ≡ false)
        (λ (n : Mention Name). clash same_number (λ path. walks_on mode cs) (numbered vs m) (numbered vs n) ≡ false)
        (λ n k. ap (λ b. clash same_number (λ path. b) (numbered vs m) (numbered vs n)) same ∙ k) ms h.0),
    over_numbered mode os cs ms same h.1,
  )

  pub path_sound : IsSoundGraph (shapes d) (graph_shape d g) → (p : PathPattern) → IsRightPath d g vs p → IsSoundPath (shapes d) (checked_path d g vs p)
  path_sound graph p r =
      let by : Name → ℕ = λ n. number_of vs n in
      let os : List (Outline Name) = outlines p in
      let cs : List (Outline ℕ) = checked.outlines (checked_path d g vs p) in
      let kept : cs ≡ map (on_outline by) os = outlines_kept d g vs p.parts in
      let walks : walks_on p.mode cs ≡ walks_on p.mode os = ap (walks_on p.mode) kept ∙ same_walks by p.mode os in
      let mentioned : mentions_in 0 cs ≡ map (numbered vs) (mentions_in 0 os) = ap (mentions_in 0) kept ∙ path_kept by 0 os in
      record {
        graph = graph;
        parts = parts_sound p.parts r.inner r.written r.few_edges;
        quantifiers = quants_sound d g vs p.parts
            (each_flat (λ (c : Quant). is_below c.high c.low ≡ false) (λ part. option_to_list (quant_of part)) p.parts r.ordered)
            (each_flat (λ (c : Quant). (nat_lt 255 c.low || is_above 255 c.high) ≡ false) (λ part. option_to_list (quant_of part)) p.parts r.small);
        bounded = ap (λ b. is_every p.selector && b) walks ∙ is_bounded p r.upper;
        short = subst (λ n. n ≤ 1000) (sym (ap length_number kept ∙ same_length by os)) r.short;
        apart = subst (NoPair (clash same_number (λ path. walks_on p.mode cs))) (sym mentioned) (over_numbered p.mode os cs (mentions_in 0 os) walks r.apart);
        variables = sym (variables_numbered vs (mentions_in 0 os) r.known) ∙ ap checked.variables_of (sym mentioned);
      }
