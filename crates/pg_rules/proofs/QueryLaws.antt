-- Where a query is not refused, and what its checked tree keeps.
use Rattle.std.proofs.Common.{◌≡◌, ◌+◌, ℕ, Bool, true, false, refl, ap, sym, ◌∙◌, List, [], ◌∷◌, ◌++◌, map, Option, Some, None}
use Rattle.std.proofs.lemmas.List.{map-append}
use Rattle.std.specs.Prelude.{option_map, filter_map, is_some}
use Rattle.std.specs.List.{cons_option}
use Rattle.pg_value.specs.declared.shape.GraphNo.{GraphNo}
use Rattle.pg_ast.specs.declared.expr.Name.{Name}
use Rattle.pg_ast.specs.declared.pattern.Filler.{Filler}
use Rattle.pg_ast.specs.declared.pattern.Part.{Part}
use Rattle.pg_ast.specs.declared.pattern.Part.TheVariants as parts
use Rattle.pg_ast.specs.declared.pattern.PathPattern.{PathPattern}
use Rattle.pg_ast.specs.declared.pattern.ColumnItem.{ColumnItem}
use Rattle.pg_meaning.specs.declared.checked.CFiller.{CFiller}
use Rattle.pg_meaning.specs.declared.checked.CheckedColumn.{CheckedColumn}
use Rattle.pg_meaning.specs.Typing.{Names}
use Rattle.pg_meaning.specs.Outlines.{Outline, Spot, spot, part_if, in_turn, spots_in, spots_from, first_as_end, last_as_end, spots}
use Rattle.pg_meaning.specs.Mentions.{Mention, mention_at, mentions_in, mentions_from}
use Rattle.pg_meaning.specs.Sound.Patterns as checked
use Rattle.pg_rules.specs.Catalog.{Defined}
use Rattle.pg_rules.specs.declared.fault.QueryFault.TheVariants as faults
use Rattle.pg_rules.specs.Places.{least, no_fault, no_least}
use Rattle.pg_rules.specs.Queries.Collections.{outline_of, outlines, variables_of}
use Rattle.pg_rules.specs.Queries.{AcceptedHaveNoPlace, graph_of, entry_of, names_of, no_graph, no_label, no_property, unbounded, bounds, bad_variable, group_use, types, wide, limit}
use Rattle.pg_rules.specs.Queries.CheckedQueries.{MentionsAreKept, NamesAreKept, number_of, numbered, checked_filler, checked_part, checked_path, checked_column}

-- NO PLACE

pub accepted : AcceptedHaveNoPlace
accepted d q h =
    let a = no_fault faults.NoGraph (least (no_graph d q)) _ h in
    let b = no_fault faults.NoLabel (least (no_label (entry_of d q) q)) _ a.1 in
    let c = no_fault faults.NoProperty (least (no_property (entry_of d q) q)) _ b.1 in
    let e = no_fault faults.Unbounded (least (unbounded q)) _ c.1 in
    let f = no_fault faults.Bounds (least (bounds q)) _ e.1 in
    let g = no_fault faults.BadVariable (least (bad_variable q)) _ f.1 in
    let i = no_fault faults.GroupUse (least (group_use q)) _ g.1 in
    let j = no_fault faults.Types (least (types (entry_of d q) q)) _ i.1 in
    let k = no_fault faults.Wide (least (wide (entry_of d q) q)) _ j.1 in
    let l = no_fault faults.Limit (least (limit q)) _ k.1 in
    record {
      graph = no_least (no_graph d q) a.0;
      labels = no_least (no_label (entry_of d q) q) b.0;
      properties = no_least (no_property (entry_of d q) q) c.0;
      upper = no_least (unbounded q) e.0;
      ordered = no_least (bounds q) f.0;
      variables = no_least (bad_variable q) g.0;
      groups = no_least (group_use q) i.0;
      kinds = no_least (types (entry_of d q) q) j.0;
      widths = no_least (wide (entry_of d q) q) k.0;
      limits = no_least (limit q) l.0;
    }

-- MENTIONS

module _ {V W : Type 0} (f : V → W) where
  abbrev pub on_outline : Outline V → Outline W
  on_outline o = record { nodes = map (option_map f) o.nodes; edges = map (option_map f) o.edges; quant = o.quant }

  abbrev on_spot : Spot V → Spot W
  on_spot s = record { variable = option_map f s.variable; edge = s.edge; part = s.part; end = s.end }

  abbrev pub on_mention : Mention V → Mention W
  on_mention m = record { variable = f m.variable; edge = m.edge; path = m.path; part = m.part; end = m.end }

  turn_kept : (ns es : List (Spot V)) → in_turn (map on_spot ns) (map on_spot es) ≡ map on_spot (in_turn ns es)
  turn_kept [] es = refl
  turn_kept (n ∷ ns) [] = refl
  turn_kept (n ∷ ns) (e ∷ es) = ap (λ ss. on_spot n ∷ on_spot e ∷ ss) (turn_kept ns es)

  row_kept : (edge : Bool) (part : Option ℕ) (vs : List (Option V)) → map (spot edge part) (map (option_map f) vs) ≡ map on_spot (map (spot edge part) vs)
  row_kept edge part [] = refl
  row_kept edge part (v ∷ vs) = ap (λ ss. on_spot (spot edge part v) ∷ ss) (row_kept edge part vs)

  part_kept : (n : ℕ) (o : Outline V) → spots_in n (on_outline o) ≡ map on_spot (spots_in n o)
  part_kept n o =
      let p : Option ℕ = part_if (is_some o.quant) n in
      (λ i. in_turn (row_kept false p o.nodes i) (row_kept true p o.edges i)) ∙ turn_kept (map (spot false p) o.nodes) (map (spot true p) o.edges)

  parts_kept : (n : ℕ) (os : List (Outline V)) → spots_from n (map on_outline os) ≡ map on_spot (spots_from n os)
  parts_kept n [] = refl
  parts_kept n (o ∷ os) = (λ i. part_kept n o i ++ parts_kept (n + 1) os i) ∙ sym (map-append on_spot (spots_in n o) (spots_from (n + 1) os))

  first_kept : (ss : List (Spot V)) → first_as_end (map on_spot ss) ≡ map on_spot (first_as_end ss)
  first_kept [] = refl
  first_kept (s ∷ ss) = refl

  last_kept : (ss : List (Spot V)) → last_as_end (map on_spot ss) ≡ map on_spot (last_as_end ss)
  last_kept [] = refl
  last_kept (s ∷ []) = refl
  last_kept (s ∷ t ∷ ss) = ap (λ rest. on_spot s ∷ rest) (last_kept (t ∷ ss))

  spots_kept : (os : List (Outline V)) → spots (map on_outline os) ≡ map on_spot (spots os)
  spots_kept os = ap (λ ss. last_as_end (first_as_end ss)) (parts_kept 0 os) ∙ ap last_as_end (first_kept (spots_from 0 os)) ∙ last_kept (first_as_end (spots_from 0 os))

  spot_kept : (path : ℕ) (s : Spot V) → mention_at path (on_spot s) ≡ option_map on_mention (mention_at path s)
  spot_kept path s = go s.variable
    where
      go : (v : Option V) → mention_at path (record { variable = option_map f v; edge = s.edge; part = s.part; end = s.end }) ≡ option_map on_mention (mention_at path (record { variable = v; edge = s.edge; part = s.part; end = s.end }))
      go None = refl
      go (Some v) = refl

  cons_kept : (o : Option (Mention V)) (ms : List (Mention V)) → cons_option (option_map on_mention o) (map on_mention ms) ≡ map on_mention (cons_option o ms)
  cons_kept None ms = refl
  cons_kept (Some m) ms = refl

  named_kept : (path : ℕ) (ss : List (Spot V)) → filter_map (mention_at path) (map on_spot ss) ≡ map on_mention (filter_map (mention_at path) ss)
  named_kept path [] = refl
  named_kept path (s ∷ ss) = (λ i. cons_option (spot_kept path s i) (named_kept path ss i)) ∙ cons_kept (mention_at path s) (filter_map (mention_at path) ss)

  pub path_kept : (path : ℕ) (os : List (Outline V)) → mentions_in path (map on_outline os) ≡ map on_mention (mentions_in path os)
  path_kept path os = ap (filter_map (mention_at path)) (spots_kept os) ∙ named_kept path (spots os)

-- FROM A QUERY TO ITS CHECKED TREE

module _ (d : Defined) (g : GraphNo) (variables : List Name) where
  abbrev by : Name → ℕ
  by n = number_of variables n

  fillers_kept : (edge : Bool) (fs : List Filler) → map (λ (f : CFiller). f.var) (map (checked_filler d g variables edge) fs) ≡ map (option_map by) (map (λ (f : Filler). f.var) fs)
  fillers_kept edge [] = refl
  fillers_kept edge (f ∷ fs) = ap (λ vs. option_map by f.var ∷ vs) (fillers_kept edge fs)

  outline_kept : (p : Part) → checked.outline_of (checked_part d g variables p) ≡ on_outline by (outline_of p)
  outline_kept (parts.Node f) = refl
  outline_kept (parts.Edge arrow f quant) = refl
  outline_kept (parts.Group nodes arrows edges condition quant) = λ i. record { nodes = fillers_kept false nodes i; edges = fillers_kept true edges i; quant = quant }

  pub outlines_kept : (ps : List Part) → map checked.outline_of (map (checked_part d g variables) ps) ≡ map (on_outline by) (map outline_of ps)
  outlines_kept [] = refl
  outlines_kept (p ∷ ps) = λ i. outline_kept p i ∷ outlines_kept ps i

  mentions_kept : (path : ℕ) (ps : List PathPattern)
      → mentions_from path (map checked.outlines (map (checked_path d g variables) ps)) ≡ map (numbered variables) (mentions_from path (map outlines ps))
  mentions_kept path [] = refl
  mentions_kept path (p ∷ ps) =
      (λ i. (ap (mentions_in path) (outlines_kept p.parts) ∙ path_kept by path (map outline_of p.parts)) i ++ mentions_kept (path + 1) ps i)
      ∙ sym (map-append (numbered variables) (mentions_in path (outlines p)) (mentions_from (path + 1) (map outlines ps)))

  names_kept : (names : Names) (cs : List ColumnItem) → map (λ (c : CheckedColumn). c.name) (map (checked_column d g variables names) cs) ≡ map (λ (c : ColumnItem). c.name.text) cs
  names_kept names [] = refl
  names_kept names (c ∷ cs) = ap (λ ns. c.name.text ∷ ns) (names_kept names cs)

pub mentions_are_kept : MentionsAreKept
mentions_are_kept d q = mentions_kept d (graph_of d q) (variables_of q) 0 q.paths

pub names_are_kept : NamesAreKept
names_are_kept d q = names_kept d (graph_of d q) (variables_of q) (names_of (entry_of d q)) q.columns
