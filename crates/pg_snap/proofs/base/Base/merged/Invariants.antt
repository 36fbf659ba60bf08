use Rattle.pg_snap.proofs.base.Base.merged.Given as goal

abbrev pub ghosts-merged_sides : goal.ghosts-merged_sides
ghosts-merged_sides a = record { name = a.blank.name; parts = a.blank.parts }
