-- The rows that writes give, as ends of edges, and what is found among them.
use Rattle.std.proofs.Common.{ℕ, zero, suc, ◌≡◌, ◌≤◌, ◌+◌, List, [], ◌∷◌, length, map, refl, ap, ◌∙◌, arith}
use Rattle.std.specs.Prelude.{slice_get, get_or}
use Rattle.std.specs.declared.option.Option.{Option}
use Rattle.std.specs.declared.option.Option.TheVariants.{Some, None}
use Rattle.std.specs.Option.{option_map, unwrap_or}
use Rattle.std.specs.List.{filter_map, cons_option, AllZip}
use Rattle.pg_chunks.specs.Digits.{digits, digits_more}
use Rattle.pg_value.specs.declared.value.Value.{Value}
use Rattle.pg_value.specs.declared.value.Dir.{Dir}
use Rattle.pg_value.specs.declared.value.Dir.TheVariants.{Out, In}
use Rattle.pg_value.specs.declared.shape.EdgeNo.{EdgeNo}
use Rattle.pg_value.specs.declared.shape.EdgeShape.{EdgeShape}
use Rattle.pg_value.specs.declared.write.Write.{Write}
use Rattle.pg_value.specs.Tables.{Stored}
use Rattle.pg_value.specs.TablesLaws.{writes_to}
use Rattle.pg_value.specs.Log.{row_given}
use Rattle.pg_adj.specs.declared.ends.EdgeEnds.{EdgeEnds}
use Rattle.pg_adj.specs.declared.group.Group.{Group}
use Rattle.pg_adj.specs.declared.adj.BothEnds.{BothEnds}
use Rattle.pg_adj.specs.Adjacency.{AreBoth, side, side_of, groups_of}
use Rattle.pg_adj.specs.Groups.{AreGroups, group_at, edges_of, others_of}
use Rattle.pg_view.specs.RowEnds.{ends_in, all_ends}
use Rattle.pg_run.specs.Runs.{RunOf, ends_given, ends_in_run, entries_in_run}
use Rattle.pg_run.specs.Cuts.{write_ends, ends_if, AreEnds, AreCut, joined}
use Rattle.pg_run.proofs.CutLaws.{list_is}

ends_through : (shape : EdgeShape) (ws : List Write) → filter_map (write_ends shape) ws ≡ all_ends shape (filter_map row_given ws)
ends_through shape [] = refl
ends_through shape (w ∷ ws) = go (row_given w) (ends_through shape ws)
  where
    go : (r : Option Stored) → filter_map (write_ends shape) ws ≡ all_ends shape (filter_map row_given ws) → cons_option (ends_if shape r) (filter_map (write_ends shape) ws) ≡ all_ends shape (cons_option r (filter_map row_given ws))
    go None h = h
    go (Some s) h = ap (cons_option (ends_in shape s)) h

abbrev given : EdgeShape → List (List Write) → List Write
given shape lists = writes_to shape.table (joined lists)

-- of the list of an edge table
pub table_is : (shape : EdgeShape) (lists : List (List Write)) (ws : List Write) → AreCut 0 lists → ws ≡ get_or lists shape.table.0 [] → filter_map (write_ends shape) ws ≡ ends_given shape (joined lists)
table_is shape lists ws a e = ap (filter_map (write_ends shape)) (e ∙ list_is shape.table lists a) ∙ ends_through shape (given shape lists)

-- what stands in the adjacency of an edge table at an end
none_there : (dir : Dir) → AreGroups dir [] []
none_there dir = record { in_order = tt; full = tt; few = (omega arith); edges = λ v. refl; others = λ v. refl }

one_side : (dir : Dir) (ends : List EdgeEnds) (both : BothEnds) → AreBoth ends both → AreGroups dir ends (side dir both)
one_side Out ends both a = a.out
one_side In ends both a = a.into

groups_are : (f : EdgeShape → List EdgeEnds) (shapes : List EdgeShape) (tables : List BothEnds) (n : ℕ) (dir : Dir) → AllZip AreBoth (map f shapes) tables → AreGroups dir (unwrap_or (option_map f (slice_get shapes n)) []) (side_of dir (slice_get tables n))
groups_are f [] [] n dir a = none_there dir
groups_are f [] (t ∷ tables) n dir a = absurd a
groups_are f (s ∷ shapes) [] n dir a = absurd a
groups_are f (s ∷ shapes) (t ∷ tables) zero dir a = one_side dir (f s) t a.0
groups_are f (s ∷ shapes) (t ∷ tables) (suc n) dir a = groups_are f shapes tables n dir a.1

pub found_groups : (run : RunOf) (ends : List BothEnds) (e : EdgeNo) (dir : Dir) → AreEnds run.shapes.edges run.writes ends → AreGroups dir (ends_in_run run e) (groups_of ends e dir)
found_groups run ends e dir a = groups_are (λ shape. ends_given shape run.writes) run.shapes.edges ends e.0 dir a

pub group_edges : (run : RunOf) (ends : List BothEnds) (e : EdgeNo) (dir : Dir) (v : List Value) (r : Option Group) → AreEnds run.shapes.edges run.writes ends → r ≡ group_at v (groups_of ends e dir) → edges_of r ≡ map (λ x. x.edge) (entries_in_run run e dir v)
group_edges run ends e dir v r a h = ap edges_of h ∙ (found_groups run ends e dir a).edges v

pub group_others : (run : RunOf) (ends : List BothEnds) (e : EdgeNo) (dir : Dir) (v : List Value) (r : Option Group) → AreEnds run.shapes.edges run.writes ends → r ≡ group_at v (groups_of ends e dir) → others_of r ≡ map (λ x. x.other) (entries_in_run run e dir v)
group_others run ends e dir v r a h = ap others_of h ∙ (found_groups run ends e dir a).others v

pub group_cost : (run : RunOf) (ends : List BothEnds) (e : EdgeNo) (dir : Dir) (before after : ℕ) → AreEnds run.shapes.edges run.writes ends → after ≤ before + 3 + digits (length (groups_of ends e dir)) → after ≤ before + 3 + digits (length (ends_in_run run e))
group_cost run ends e dir before after a h = let d = digits_more _ _ (found_groups run ends e dir a).few in omega (arith, h, d)
