use Rattle.pg_snap.proofs.base.Base.build.Given as goal

abbrev pub ghosts-built : goal.ghosts-built
ghosts-built a = record { name = a.blank.name; parts = a.blank.parts }
