-- The look-ups in graphs as one pass finds them.
use Rattle.std.specs.Prelude.{ℕ, ◌+◌, ◌-◌, ◌*◌, ◌^◌, ◌%◌, Bool, true, false, cond, nat_lt, List, [], ◌∷◌, length}
use Rattle.std.specs.declared.option.Option.{Option}
use Rattle.std.specs.Int.Bits.{bit_or}
use Rattle.std.specs.List.{find}
use Rattle.std.specs.Option.{option_map}
use Rattle.std.specs.Str.{bytes_eq}
use Rattle.pg_rules.specs.declared.entry.EdgeEntry.{EdgeEntry}
use Rattle.pg_rules.specs.declared.entry.ElementEntry.{ElementEntry}
use Rattle.pg_rules.specs.declared.entry.PropertyEntry.{PropertyEntry}
use Rattle.pg_rules.specs.declared.entry.GraphEntry.{GraphEntry}
use Rattle.pg_rules.specs.Catalog.{Graphs}
use Rattle.pg_rules.specs.Definitions.Graphs.{labels_in}
use Rattle.pg_ast.specs.Trees.{LabelTree}
use Rattle.pg_meaning.specs.LabelSets.{admits}

abbrev pub counted : ℕ → List EdgeEntry → ℕ
counted left edges = cond (nat_lt 0 left) (length edges) 0

abbrev pub edges_before : ℕ → Graphs → ℕ
edges_before left [] = 0
edges_before left (g ∷ gs) = counted left g.1.edges + edges_before (left - 1) gs

abbrev pub vertices_of : GraphEntry → List ElementEntry
vertices_of g = g.vertices

abbrev pub edges_of : GraphEntry → List EdgeEntry
edges_of g = g.edges

abbrev pub column_in : List PropertyEntry → List ℕ → Option ℕ
column_in ps name = option_map (λ p. p.column) (find (λ p. bytes_eq name p.name) ps)

abbrev pub is_admitted : LabelTree → ElementEntry → Bool
is_admitted x e = admits (labels_in e) x

abbrev pub with : ℕ → ℕ → ℕ
with set t = bit_or set (1 * 2 ^ t % 2 ^ 64)

abbrev pub with_if : ℕ → Bool → ℕ → ℕ
with_if set true t = with set t
with_if set false t = set
