use Rattle.pg_search.proofs.search.paths.Given as goal

abbrev pub ghosts-paths_counted : goal.ghosts-paths_counted
ghosts-paths_counted g a = record { name = a.blank.name; parts = a.blank.parts }
