-- A run as the core keeps it.
use Rattle.pg_core.specs.Versions as core
use Rattle.pg_run.specs.Runs.{RunOf}

abbrev pub kept_run : RunOf → core.RunOf
kept_run r = record { shapes = r.shapes; after = r.after; last = r.last; writes = r.writes }
