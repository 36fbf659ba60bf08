use Rattle.pg_chunks.proofs.chunks.Chunks.place_of.Given as goal

abbrev pub ghosts-uncounted : goal.ghosts-uncounted
ghosts-uncounted g a = record { name = a.blank.name; parts = a.blank.parts }
