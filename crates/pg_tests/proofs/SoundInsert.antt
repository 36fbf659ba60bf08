-- The table is sound, and so is the INSERT.
use Rattle.std.proofs.Common.{Bool, true, false, refl, arith, []}
use Rattle.pg_meaning.specs.declared.checked.CExpr.TheVariants.{Lit}
use Rattle.pg_value.specs.declared.value.Value.TheVariants.{Bool as Truth'}
use Rattle.pg_meaning.specs.Members.{in_nil}
use Rattle.pg_meaning.specs.Sound.Kinds.{OfColumns}
use Rattle.pg_meaning.specs.Sound.Graphs.{AreSoundShapes}
use Rattle.pg_meaning.specs.Sound.Changes.{IsSoundChange, IsSoundValue}
use Rattle.pg_tests.specs.Changes.{column, table, shapes, insert}

pub shapes_are_sound : AreSoundShapes shapes
shapes_are_sound = record {
  few = omega arith;
  tables = (record { few = omega arith; short = omega arith; differ = (in_nil 0, tt); key = (record { column = column true; stands = refl; not_null = refl }, tt) }, tt);
  edges = tt;
}

value_is_sound : (b : Bool) → IsSoundValue table (OfColumns []) 0 (Lit (Truth' b))
value_is_sound b = record {
  column = column true;
  stands = refl;
  sound = record { sound = record { reads = tt; binds = tt; typed = tt; narrow = omega arith }; of_kind = refl };
}

pub insert_is_sound : IsSoundChange shapes insert
insert_is_sound = record {
  table = table;
  stands = refl;
  sound = record { differ = (in_nil 0, tt); values = ((value_is_sound true, tt), ((value_is_sound false, tt), tt)) };
}
