use Rattle.pg_expr.proofs.references.property_of.Given as goal

-- the counter starts by its own blank
abbrev pub ghosts-property_counted : goal.ghosts-property_counted
ghosts-property_counted g a = record { name = a.blank.name; parts = a.blank.parts }
