-- Runs that are put on tables, newest first, as one list.
use Rattle.std.proofs.Common.{◌≡◌, List, [], ◌∷◌, ◌++◌, refl, ap}
use Rattle.std.specs.Prelude.{map}
use Rattle.pg_value.specs.Tables.{Tables}
use Rattle.pg_value.specs.Log.{put}
use Rattle.pg_core.specs.Versions.{RunOf, put_runs}

pub fold_all : {R : Type 0} (run : R → RunOf) (runs older : List R) (tables : Tables) → put_runs tables (map run (runs ++ older)) ≡ put_runs (put_runs tables (map run older)) (map run runs)
fold_all run [] older tables = refl
fold_all run (r ∷ runs) older tables = ap (λ (t : Tables). put t (run r).writes) (fold_all run runs older tables)
