use Rattle.pg_join.proofs.searching.kept_of_walks.Given as goal

abbrev pub ghosts-kept_counted : goal.ghosts-kept_counted
ghosts-kept_counted g a = record { name = a.blank.name; parts = a.blank.parts }
