-- Graphs over tables with keys of two columns, ends that are NULL and ends that name no row, and what a view reads of them.
use Rattle.std.proofs.Common.{◌≡◌, ℕ, pos, [], ◌∷◌, Some, None, refl}
use Rattle.pg_value.specs.declared.value.Value.{Value}
use Rattle.pg_value.specs.declared.value.Value.TheVariants.{Null, Int}
use Rattle.pg_value.specs.declared.value.Dir.TheVariants.{Out, In}
use Rattle.pg_value.specs.declared.shape.ElemId.{ElemId}
use Rattle.pg_value.specs.declared.shape.TableNo.{TableNo}
use Rattle.pg_value.specs.declared.shape.Shapes.{Shapes}
use Rattle.pg_value.specs.declared.shape.GraphShape.{GraphShape}
use Rattle.pg_value.specs.Tables.{Stored, Tables}
use Rattle.pg_value.specs.Graph.{vertices, edges}
use Rattle.pg_ast.specs.declared.expr.Agg.TheVariants.{Count, Sum}
use Rattle.pg_meaning.specs.CExprs.{CTree, PropertyOf, Group, Counted}
use Rattle.pg_meaning.specs.Meaning.{Scope, OfVars, value_of}
use Rattle.pg_meaning.specs.Walks.{Hop}
use Rattle.pg_meaning.specs.Reads.{row_at, elements_of, neighbours_of}

-- TEAMS AND LINKS

abbrev team_table : TableNo
team_table = record { 0 = 0 }

abbrev link_table : TableNo
link_table = record { 0 = 1 }

-- a team is named by its club and its number in it
abbrev team : ℕ → ℕ → ElemId
team club n = record { table = team_table; key = record { values = Int (pos club) ∷ Int (pos n) ∷ [] } }

abbrev link : ℕ → ElemId
link i = record { table = link_table; key = record { values = Int (pos i) ∷ [] } }

abbrev team_row : ℕ → ℕ → Stored
team_row club n = record { table = team_table; key = record { values = Int (pos club) ∷ Int (pos n) ∷ [] }; row = record { values = Int (pos club) ∷ Int (pos n) ∷ [] } }

-- link (id, club, n, other_club, other_n, since)
abbrev link_row : ℕ → Value → Value → Value → Value → Value → Stored
link_row i a b c d since = record { table = link_table; key = record { values = Int (pos i) ∷ [] }; row = record { values = Int (pos i) ∷ a ∷ b ∷ c ∷ d ∷ since ∷ [] } }

abbrev one : Value
one = Int (pos 1)

abbrev two : Value
two = Int (pos 2)

-- link 1 from (1, 1) to (1, 2); link 2 has a NULL in an end; link 3 names a team (2, 2) that is not there; link 4 from (1, 2) to (2, 1)
abbrev tables : Tables
tables =
    team_row 1 1 ∷ team_row 1 2 ∷ team_row 2 1 ∷
    link_row 1 one one one two (Int (pos 7)) ∷ link_row 2 one one one Null Null ∷ link_row 3 one one two two Null ∷ link_row 4 one two two one Null ∷ []

abbrev shapes : Shapes
shapes = record {
  tables = [];
  edges = record { table = link_table; source = team_table; source_columns = 1 ∷ 2 ∷ []; dest = team_table; dest_columns = 3 ∷ 4 ∷ [] } ∷ [];
}

abbrev g : GraphShape
g = record { vertices = team_table ∷ []; edges = record { 0 = 0 } ∷ [] }

three_teams : vertices g tables ≡ team 1 1 ∷ team 1 2 ∷ team 2 1 ∷ []
three_teams = refl

two_edges : edges shapes g tables ≡ record { elem = link 1; source = team 1 1; dest = team 1 2 } ∷ record { elem = link 4; source = team 1 2; dest = team 2 1 } ∷ []
two_edges = refl

-- WHAT A VIEW READS

row_there : row_at tables link_table (link 1).key ≡ Some (record { values = one ∷ one ∷ one ∷ one ∷ two ∷ Int (pos 7) ∷ [] })
row_there = refl

no_row : row_at tables team_table (team 2 2).key ≡ None
no_row = refl

teams : elements_of tables (record { 0 = 1 }) ≡ team 1 1 ∷ team 1 2 ∷ team 2 1 ∷ []
teams = refl

abbrev hop : ℕ → ElemId → Hop
hop i to = record { edge = link i; to = to }

out_of_first : neighbours_of shapes tables (record { 0 = 0 }) Out (team 1 1) ≡ hop 1 (team 1 2) ∷ []
out_of_first = refl

into_second : neighbours_of shapes tables (record { 0 = 0 }) In (team 1 2) ≡ hop 1 (team 1 1) ∷ []
into_second = refl

out_of_second : neighbours_of shapes tables (record { 0 = 0 }) Out (team 1 2) ≡ hop 4 (team 2 1) ∷ []
out_of_second = refl

-- A PROPERTY WITH NULLS

abbrev since : CTree
since = PropertyOf 0 (None ∷ Some 5 ∷ [])

abbrev both : Scope
both = OfVars tables (λ x. link 1 ∷ link 4 ∷ [])

-- COUNT(e.since) counts the one that is not NULL, and COUNT(e) counts elements
one_since : value_of (Group Count since) both ≡ Int (pos 1)
one_since = refl

two_links : value_of (Counted 0) both ≡ Int (pos 2)
two_links = refl

sum_since : value_of (Group Sum since) both ≡ Int (pos 7)
sum_since = refl
