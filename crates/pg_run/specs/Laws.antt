-- What runs are for.
use Rattle.std.specs.Prelude.{◌≡◌, List}
use Rattle.pg_value.specs.declared.write.Write.{Write}
use Rattle.pg_value.specs.Tables.{Tables, IsInOrder}
use Rattle.pg_value.specs.Writes as writes
use Rattle.pg_value.specs.Log.{put}

-- writes put on tables after older ones are their merge, put at once
abbrev pub MergeIsPutAfterPut : Type 0
MergeIsPutAfterPut = (tables : Tables) (older newer : List Write) → IsInOrder tables → writes.IsInOrder older → writes.IsInOrder newer → put (put tables older) newer ≡ put tables (writes.merge older newer)
