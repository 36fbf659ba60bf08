-- The ends that the rows of an edge table name.
use Rattle.std.specs.Prelude.{ℕ, Bool, cond, not, List}
use Rattle.std.specs.declared.option.Option.{Option}
use Rattle.std.specs.declared.option.Option.TheVariants.{Some, None}
use Rattle.std.specs.List.{filter_map, list_all}
use Rattle.pg_value.specs.declared.value.Value.{Value}
use Rattle.pg_value.specs.declared.row.Key.{Key}
use Rattle.pg_value.specs.declared.shape.EdgeShape.{EdgeShape}
use Rattle.pg_value.specs.Compare.{is_null}
use Rattle.pg_value.specs.Tables.{Stored, pick}
use Rattle.pg_adj.specs.declared.ends.EdgeEnds.{EdgeEnds}

-- no value in these columns is NULL
abbrev pub has_key : List ℕ → List Value → Bool
has_key columns values = list_all (λ v. not (is_null v)) (pick columns values)

-- the key that is the values in some columns, none of them NULL
abbrev pub key_in : List ℕ → List Value → Option Key
key_in columns values = cond (has_key columns values) (Some (record { values = pick columns values })) None

abbrev pub between : Key → Option Key → Option Key → Option EdgeEnds
between e None dest = None
between e (Some a) None = None
between e (Some a) (Some b) = Some (record { edge = e; source = a; dest = b })

-- a row of an edge table with the keys that it names, where neither has a NULL; it need not be an edge
abbrev pub ends_in : EdgeShape → Stored → Option EdgeEnds
ends_in shape s = between s.key (key_in shape.source_columns s.row.values) (key_in shape.dest_columns s.row.values)

abbrev pub all_ends : EdgeShape → List Stored → List EdgeEnds
all_ends shape rows = filter_map (ends_in shape) rows
