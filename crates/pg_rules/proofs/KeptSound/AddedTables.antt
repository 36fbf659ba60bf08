-- A catalog stays sound where a table or a graph is added.
use Rattle.std.proofs.Common.{ℕ, List, [], ◌∷◌, ◌++◌}
use Rattle.pg_keyed.specs.Lists.{each_map, each_append}
use Rattle.pg_value.specs.declared.shape.TableNo.{TableNo}
use Rattle.pg_ast.specs.declared.define.Define.TheVariants as definitions
use Rattle.pg_rules.specs.declared.entry.ColumnEntry.{ColumnEntry}
use Rattle.pg_rules.specs.declared.entry.TableEntry.{TableEntry}
use Rattle.pg_rules.specs.declared.entry.ElementEntry.{ElementEntry}
use Rattle.pg_rules.specs.declared.entry.EdgeEntry.{EdgeEntry}
use Rattle.pg_rules.specs.declared.entry.GraphEntry.{GraphEntry}
use Rattle.pg_rules.specs.Catalog.{Tables}
use Rattle.pg_rules.specs.Catalog.Sound.{IsSoundTable, IsSoundElement, IsSoundEnd, IsSoundEdge, IsSoundGraph}
use Rattle.pg_rules.specs.Catalog.SoundDefinitions.{NothingIsSound, DefinitionsKeepSound}
use Rattle.pg_rules.specs.Definitions.Tables.{entry_of}
use Rattle.pg_rules.specs.Definitions.Entries.{graph_of}
use Rattle.pg_rules.proofs.KeptSound.Lists.{stands_before}
use Rattle.pg_rules.proofs.KeptSound.SoundTables.{table_sound}
use Rattle.pg_rules.proofs.KeptSound.SoundGraphs.{graph_sound}

-- WHAT STANDS AMONG SOME TABLES STANDS AMONG MORE

module _ (tables added : Tables) where
  element_before : (e : ElementEntry) → IsSoundElement tables e → IsSoundElement (tables ++ added) e
  element_before e s = record { table = s.table; stands = stands_before tables added e.table.0 s.table s.stands; properties = s.properties; one_column = s.one_column }

  end_before : (g : GraphEntry) (columns : List ColumnEntry) (end : TableNo) (places : List ℕ) → IsSoundEnd tables g columns end places → IsSoundEnd (tables ++ added) g columns end places
  end_before g columns end places s = record { vertex = s.vertex; table = s.table; stands = stands_before tables added end.0 s.table s.stands; names_key = s.names_key }

  edge_before : (g : GraphEntry) (e : EdgeEntry) → IsSoundEdge tables g e → IsSoundEdge (tables ++ added) g e
  edge_before g e s = record {
    element = record { table = s.element.table; stands = stands_before tables added e.element.table.0 s.element.table s.element.stands; properties = s.element.properties; one_column = s.element.one_column };
    source = end_before g s.element.table.1.columns e.source e.source_columns s.source;
    dest = end_before g s.element.table.1.columns e.dest e.dest_columns s.dest;
  }

  graph_before : (g : GraphEntry) → IsSoundGraph tables g → IsSoundGraph (tables ++ added) g
  graph_before g s = record {
    vertices = each_map (IsSoundElement tables) (IsSoundElement (tables ++ added)) element_before g.vertices s.vertices;
    edges = each_map (IsSoundEdge tables g) (IsSoundEdge (tables ++ added) g) (edge_before g) g.edges s.edges;
    differ = s.differ;
    one_kind = s.one_kind;
  }

-- THE LAW

pub nothing_sound : NothingIsSound
nothing_sound = record { tables = tt; graphs = tt }

pub kept_sound : DefinitionsKeepSound
kept_sound d (definitions.Table t) s h =
    let added : Tables = (t.name.text, entry_of t) ∷ [] in
    record {
      tables = each_append (λ (x : List ℕ × TableEntry). IsSoundTable x.1) d.0 added s.tables (table_sound d t h, tt);
      graphs = each_map (λ (x : List ℕ × GraphEntry). IsSoundGraph d.0 x.1) (λ (x : List ℕ × GraphEntry). IsSoundGraph (d.0 ++ added) x.1) (λ x k. graph_before d.0 added x.1 k) d.1 s.graphs;
    }
kept_sound d (definitions.Graph g) s h = record {
  tables = s.tables;
  graphs = each_append (λ (x : List ℕ × GraphEntry). IsSoundGraph d.0 x.1) d.1 ((g.name.text, graph_of d.0 g) ∷ []) s.graphs (graph_sound d g s h, tt);
}
